-- The programmes passed are kept. Assumes nothing.
use Rattle.std.proofs.Common.{length, ◌≡◌}
use Rattle.std.specs.Prelude.{is_some}
use Rattle.inclusion.specs.steps.Alike.{owners_of, alike_of}
use Rattle.sheet.specs.Words.{sheet_of}
use Rattle.sheet.specs.Layout.{count}
use Rattle.sheet.specs.Fields.{objects}
use Rattle.grouping.specs.steps.Groups.{KeptTo}
use Rattle.grouping.specs.steps.Passing.{Passing}
use Rattle.grouping.proofs.programmes.rows_from.Given as goal

abbrev pub invariant-loop-p : goal.invariant-loop-p
invariant-loop-p l =
    Passing (sheet_of l.s) (is_some l.sets) (owners_of l.sets) (alike_of l.sets)
    → length l.initial.included ≡ count (sheet_of l.s) objects
    → KeptTo (sheet_of l.s) (is_some l.sets) l.from
    → KeptTo (sheet_of l.s) (is_some l.sets) l.p
