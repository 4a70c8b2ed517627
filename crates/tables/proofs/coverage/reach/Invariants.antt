-- The records passed reach no further. Assumes nothing.
use Rattle.std.proofs.Common.{ℕ, ◌<◌, ◌≤◌}
use Rattle.sheet.specs.Words.{sheet_of}
use Rattle.tables.specs.steps.Coverage.{run_end}
use Rattle.tables.proofs.coverage.reach.Given as goal

abbrev pub invariant-loop-q : goal.invariant-loop-q
invariant-loop-q l = (j : ℕ) → j < l.q → run_end (sheet_of l.s) l.kind j ≤ l.most
