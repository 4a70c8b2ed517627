use Rattle.std.proofs.Common.{◌≡◌, ℕ, ◌+◌, ◌-◌, ◌≤◌, List, ◌++◌, rules, length, take, drop, sym, ap, ◌∙◌, subst, le_refl, drop_at, length-take-le}
use Rattle.std.proofs.lemmas.Slice.{take-put_mid_below}
use Rattle.std.proofs.KnownBytes.{Consumes-trans}
use Rattle.std.specs.Io.KnownBytes.{Consumes}
use borrow.Rule.Slice.PartMut.{put_mid, post_of}
use lib.Seq.{take-add, take-append-le}
use Rattle.text.proofs.reading.read_input.Goals as goal

-- what a read gives stands behind what was read before
read_more : (a n k : ℕ) (xs ys : List ℕ) → a ≤ length xs → n ≤ length ys → take (a + n) (put_mid a k xs ys) ≡ take a xs ++ take n ys
read_more a n k xs ys within fits =
    let p = put_mid a k xs ys in
    let front : take a p ≡ take a xs = take-put_mid_below a k xs ys a (le_refl a) within in
    let back : take n (drop a p) ≡ take n ys = ap (take n) (drop_at (take a xs) (ys ++ post_of a k xs) a (length-take-le a xs within)) ∙ take-append-le n ys (post_of a k xs) fits in
    take-add a n p ∙ ap (λ l. l ++ take n (drop a p)) front ∙ ap (λ l. take a xs ++ l) back

pub loop-count-preserved : goal.loop-count-preserved
loop-count-preserved g c =
    let at = c.loop-count in
    let joined = read_more at.count c.in-Ok.more (length at.buffer - at.count) at.buffer c.read.new.buf at.invariant.1 c.in-Ok.ensures.bound.0 in
    (search rules, search rules, subst (Consumes _ _) (sym joined) (Consumes-trans _ _ _ _ _ at.invariant.2 c.in-Ok.ensures.bytes.0))
