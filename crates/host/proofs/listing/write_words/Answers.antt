-- The words passed are written, two bytes each. Assumes nothing.
use Prim.Native.Nat.{ℕ, ◌*◌, ◌/◌, ◌%◌}
use mathlib.Core.Path.{◌≡◌, refl, ap}
use native.Mathlib.Omega.{arith}
use native.Mathlib.Numerals.{add-one}
use lib.ListN.{get_or, set}
use Rattle.listener.proofs.WrittenLaws.{written_none, written_more, written_all}
use Rattle.host.specs.HostListing.{two_bytes, bytes_of}
use Rattle.host.proofs.listing.write_words.Goals as goal

pub loop-i-init : goal.loop-i-init
loop-i-init c = written_none _ _ _ _

pub loop-i-preserved : goal.loop-i-preserved
unfolding two_bytes
loop-i-preserved c =
    let l = c.loop-i in let w = get_or c.args.words.now l.i 0 in
    let high : get_or c.to_be_bytes.result 0 0 ≡ w / 256 = rw c.to_be_bytes.ensures (omega (arith, (c.type_inv.words l.i).fits)) in
    let low : get_or c.to_be_bytes.result 1 0 ≡ w % 256 = rw c.to_be_bytes.ensures refl in
    written_more l.invariant _ _ c.loop-i-test.true (omega arith) (rw (high, low) (ap (λ (x : ℕ). set (set l.buffer (2 * l.i) (w / 256)) x (w % 256)) (add-one (2 * l.i))))

pub returns : goal.returns
unfolding bytes_of
returns c = (written_all c.loop-i.invariant (omega arith)).1
