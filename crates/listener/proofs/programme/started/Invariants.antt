-- The settings so far are those of the objects passed, by the tables; the others are at rest. Assumes nothing.
use Rattle.sheet.specs.Words.{sheet_of}
use Rattle.listener.specs.State.{state_objects, blank, resting}
use Rattle.listener.specs.Programme.{start_setting}
use Rattle.listener.proofs.FillLaws.{Begun}
use Rattle.listener.proofs.programme.started.Given as goal

abbrev pub invariant-loop-o : goal.invariant-loop-o
invariant-loop-o l = Begun state_objects (start_setting (sheet_of l.s) l.p) blank resting l.objects l.o
