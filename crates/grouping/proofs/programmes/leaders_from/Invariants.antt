-- The programmes passed are kept, and the tables are ready for the next. Assumes nothing.
use Rattle.std.proofs.Common.{length, ◌≡◌}
use Rattle.std.specs.Prelude.{is_some}
use Rattle.inclusion.specs.steps.Alike.{owners_of, alike_of}
use Rattle.sheet.specs.Words.{sheet_of}
use Rattle.sheet.specs.Layout.{count}
use Rattle.sheet.specs.Fields.{objects}
use Rattle.grouping.specs.steps.Groups.{GroupsApart, KeptTo}
use Rattle.grouping.specs.steps.Passing.{Passing}
use Rattle.grouping.specs.steps.Leaders.{Ready}
use Rattle.grouping.proofs.programmes.leaders_from.Given as goal

abbrev pub invariant-loop-p : goal.invariant-loop-p
invariant-loop-p l =
    Passing (sheet_of l.s) (is_some l.sets) (owners_of l.sets) (alike_of l.sets)
    → GroupsApart (sheet_of l.s)
    → length l.initial.groups ≡ count (sheet_of l.s) objects
    → length l.initial.included ≡ count (sheet_of l.s) objects
    → KeptTo (sheet_of l.s) (is_some l.sets) l.from
    → Ready (sheet_of l.s) l.p l.included l.groups × KeptTo (sheet_of l.s) (is_some l.sets) l.p
