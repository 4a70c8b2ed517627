-- The bytes passed stand behind what was there. Assumes nothing.
use lib.ListN.{take}
use Rattle.text.specs.Buffer.{Appends}
use Rattle.text.proofs.writing.Text.text.Given as goal

abbrev pub invariant-loop-byte : goal.invariant-loop-byte
invariant-loop-byte l = Appends l.initial.self (take l.byte-index l.text) l.self
