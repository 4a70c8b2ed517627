-- The rows passed are kept. Assumes nothing.
use Rattle.std.proofs.Common.{ℕ, ◌<◌, get_or}
use Rattle.sheet.specs.Words.{sheet_of}
use Rattle.inclusion.specs.steps.Groups.{GroupKept}
use Rattle.inclusion.specs.steps.Entering.{Begins}
use Rattle.inclusion.specs.steps.Rows.{RowKept, RowsComplete}
use Rattle.inclusion.proofs.groups.groups_kept.Given as goal

abbrev pub invariant-loop-i : goal.invariant-loop-i
invariant-loop-i l =
    Begins (sheet_of l.s) l.sections
    → RowsComplete (sheet_of l.s) l.leading l.partners l.g
    → (l.asked < 65536 → GroupKept (sheet_of l.s) l.included l.asked)
    × ((j : ℕ) → j < l.i → RowKept (sheet_of l.s) l.included (get_or l.leading j 0) (get_or l.partners j 0))
