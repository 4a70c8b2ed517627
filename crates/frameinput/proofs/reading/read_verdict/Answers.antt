use mathlib.Core.Path.{◌≡◌, refl}
use native.Mathlib.Omega.{arith}
use lib.ListN.{length}
use lib.Seq.{take_all}
use Rattle.std.proofs.Common.{rules}
use Rattle.frameinput.proofs.HeadLaws.{no_head, head_judged}
use Rattle.frameinput.proofs.reading.read_verdict.Goals as goal

pub returns-then-branch-lt4 : goal.returns-then-branch-lt4
returns-then-branch-lt4 g c =
    let e = c.in_ok-read_input.ensures in
    let four : length c.read_input.new.buffer ≡ 4 = search rules in
    no_head _ _ _ (omega (arith, e.bound.1, c.if-branch-lt4.true)) e.bytes (e.whole refl (omega (arith, four, c.if-branch-lt4.true)))

pub returns : goal.returns
returns g c =
    let e = c.in_ok-read_input.ensures in
    let four : length c.read_input.new.buffer ≡ 4 = search rules in
    let all = take_all c.in_ok-read_input.field-0 c.read_input.new.buffer (omega (arith, four, c.if-branch-lt4.false)) in
    head_judged _ _ _ _ four (rw all at e.bytes) (rw c.from_be_bytes.ensures at c.read_blocks.ensures)
