-- What stands from y on is right. Assumes nothing.
use Rattle.std.proofs.Common.{ℕ, Bool}
use Rattle.profile.specs.Counting.{ComputesBelow}
use Rattle.runs.specs.steps.Runs.{Next}
use Rattle.runs.proofs.RunLaws.{FilledFrom}
use Rattle.runs.proofs.fill.fill_next.Given as goal

abbrev pub invariant-loop-y : goal.invariant-loop-y
invariant-loop-y g l = (p : ℕ → Bool) → ComputesBelow 65536 (goal.F-post g l.test) p → Next p l.n l.y l.next × FilledFrom (Next p l.n) l.n l.y l.table
