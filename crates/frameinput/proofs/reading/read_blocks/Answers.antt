use mathlib.Core.Path.{◌≡◌, refl}
use native.Mathlib.Omega.{arith}
use lib.ListN.{length}
use Rattle.std.proofs.Common.{rules}
use Rattle.frameinput.specs.declared.reading.TheConstants.{BLOCKS_ROOM}
use Rattle.frameinput.proofs.ReadingLaws.{none_read, more_read, all_read}
use Rattle.frameinput.proofs.reading.read_blocks.Goals as goal

pub loop-init : goal.loop-init
loop-init g c = (refl, rw c.new-progress.ensures (none_read _))

pub returns-then-count-lt-BLOCKS_ROOM : goal.returns-then-count-lt-BLOCKS_ROOM
returns-then-count-lt-BLOCKS_ROOM g c =
    let e = c.in_ok-count.ensures in
    let short : length c.read_input.new.buffer ≡ BLOCKS_ROOM = search rules in
    rw (c.verdict.ensures, c.after_bytes-progress.ensures)
    (all_read _ _ _ _ _ c.loop.invariant.1 e.bytes c.args.frame c.in_ok-count.count e.bound.1 (e.whole refl (omega (arith, short, c.if-count-lt-BLOCKS_ROOM.true))))

pub loop-preserved : goal.loop-preserved
loop-preserved g c =
    let e = c.in_ok-count.ensures in
    let short : length c.read_input.new.buffer ≡ BLOCKS_ROOM = search rules in
    (short, rw c.after_bytes-progress.ensures (more_read _ _ _ _ _ c.loop.invariant.1 e.bytes (omega (arith, e.bound.0, e.bound.1, short, c.if-count-lt-BLOCKS_ROOM.false))))
