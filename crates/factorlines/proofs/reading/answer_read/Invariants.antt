-- The line and the answers are those after the bytes so far. Assumes nothing.
use mathlib.Core.List.{[]}
use Rattle.text.specs.Buffer.{written}
use Rattle.factorlines.specs.Reading.{reading}
use Rattle.factorlines.proofs.ReadingLaws.{Taken}
use Rattle.factorlines.proofs.reading.answer_read.Given as goal

abbrev pub invariant-loop-byte : goal.invariant-loop-byte
invariant-loop-byte l = Taken (reading (written l.initial.line) []) l.read l.byte-index l.initial.line.buffer.ghost_name l.line l.text l.initial.text
