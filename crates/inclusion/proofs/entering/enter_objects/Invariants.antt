-- The contents passed are entered. Assumes nothing.
use Rattle.sheet.specs.Words.{sheet_of}
use Rattle.inclusion.specs.steps.Entering.{Begins, Changed, object_at}
use Rattle.inclusion.proofs.entering.enter_objects.Given as goal

abbrev pub invariant-loop-i : goal.invariant-loop-i
invariant-loop-i l = Begins (sheet_of l.s) l.sections → Changed (object_at (sheet_of l.s) l.p) l.i 0 1 l.initial.included l.included
