-- Too few words, or all of it. Assumes nothing.
use Rattle.sheet.specs.Words.{sheet_of}
use Rattle.listener.proofs.ListedLaws.{state_number_lem, few_written, done_written}
use Rattle.listener.proofs.writing.write_listing.Goals as goal

pub returns-then-buffer-n : goal.returns-then-buffer-n
returns-then-buffer-n c = few_written _ _ _ (rw c.state_number-n.ensures at c.if-buffer-n.true)

pub write_state-requires : goal.write_state-requires
write_state-requires c = rw (state_number_lem, ← c.state_number-n.ensures) c.if-buffer-n.false

pub returns : goal.returns
returns c = rw (c.write_state.ensures, c.state_number-n.ensures) (done_written (sheet_of c.args.s.now) c.args.state.now c.args.buffer.now (rw c.state_number-n.ensures at c.if-buffer-n.false))
