-- The objects passed are written, one behind the other. Assumes nothing.
use Rattle.sheet.specs.Words.{sheet_of}
use Rattle.listener.specs.State.{state_objects}
use Rattle.listener.specs.steps.Tracks.{tracks_when}
use Rattle.listener.proofs.WrittenLaws.{Written}
use Rattle.listener.proofs.writing.write_state.Given as goal

abbrev pub invariant-loop-o : goal.invariant-loop-o
invariant-loop-o l = Written (tracks_when (sheet_of l.s) l.state) state_objects 0 l.initial.buffer l.buffer l.pos l.o
