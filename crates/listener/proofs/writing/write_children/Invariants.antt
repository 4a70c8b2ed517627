-- The children passed are written, one behind the other. Assumes nothing.
use Rattle.sheet.specs.Words.{sheet_of}
use Rattle.sheet.specs.Layout.{entry}
use Rattle.sheet.specs.Fields.{objects, child_list}
use Rattle.listener.specs.steps.Tracks.{own_tracks}
use Rattle.listener.proofs.WrittenLaws.{Written}
use Rattle.listener.proofs.writing.write_children.Given as goal

abbrev pub invariant-loop-i : goal.invariant-loop-i
invariant-loop-i l = Written (λ j. own_tracks (sheet_of l.s) (entry (sheet_of l.s) objects l.o child_list j)) l.i-end l.at l.initial.buffer l.buffer l.pos l.i
