-- The highest so far is raised or stays, and the objects passed are marked. Assumes nothing.
use Prim.Native.Nat.{◌≤◌}
use mathlib.Core.Path.{◌≡◌}
use lib.Dec.{eqb}
use lib.ListN.{length, get_or}
use Rattle.sheet.specs.Words.{sheet_of}
use Rattle.profile.specs.Counting.{how_many}
use Rattle.tables.specs.declared.Naming.TheVariants.{Included}
use Rattle.tables.specs.steps.Namings.{item}
use Rattle.tables.specs.steps.Marks.{Standing, repeat}
use Rattle.listener.specs.State.{state_objects}
use Rattle.listener.proofs.RestLaws.{Past}
use Rattle.listener.proofs.sounding.enter_included.Given as goal

abbrev pub invariant-loop-i : goal.invariant-loop-i
invariant-loop-i l = (l.past ≤ state_objects) × Past (item (sheet_of l.s) Included l.p) l.i l.past × (length l.marks ≡ length l.initial.marks) × Standing (λ x. repeat (λ x. 1) (how_many (λ j. eqb (item (sheet_of l.s) Included l.p j) x) l.i) (get_or l.initial.marks x 0)) l.marks
