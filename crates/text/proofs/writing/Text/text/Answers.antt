use Rattle.std.proofs.lemmas.List.{take_more}
use Rattle.text.proofs.BufferLaws.{appends_more}
use Rattle.text.proofs.writing.Text.text.Goals as goal

pub loop-byte-preserved : goal.loop-byte-preserved
loop-byte-preserved c = rw (take_more c.args.text.now c.loop-byte.byte-index 0 c.loop-byte-test.true) (appends_more _ _ _ _ _ c.loop-byte.invariant c.byte.ensures)
