-- How many blocks a list has at most in which none is bad. Assumes nothing.
use Prim.Native.Nat.{ℕ, ◌+◌, ◌*◌, ◌≤◌}
use mathlib.Core.Path.{◌≡◌, refl, ◌∙◌}
use mathlib.Core.Bool.{Bool, true, false, cond, not, ◌&&◌}
use mathlib.Core.List.{List, [], ◌∷◌, ◌++◌}
use mathlib.Core.Logic.{◌⊎◌, ⊎_elim}
use native.Mathlib.Omega.{arith}
use borrow.Author.Tests.{eq-eqb}
use lib.Dec.{eqb}
use lib.ListN.{length}
use Rattle.std.specs.Prelude.{count_by}
use Rattle.std.specs.List.{list_any}
use Rattle.std.proofs.Math.Bool.{or-false}
use Rattle.std.proofs.lemmas.Bool.{or_parts}
use Rattle.std.proofs.lemmas.List.Sums.{sum_by-cons}
use Rattle.frames.specs.declared.Block.{Block}
use Rattle.frames.specs.Blocks.{counted_length, total}
use Rattle.frames.specs.Conformance.{initialising_not_first, is_bad, some_bad}
use Rattle.frames.proofs.BadLaws.{good_length}
use Rattle.frames.specs.Promises.{initialising_present, zero_lengths, most_blocks}

-- how many blocks are initialising
unfoldable initialising_blocks : List Block → ℕ
initialising_blocks bs = count_by (λ (b : Block). b.initialising) bs

-- a list of one block more
total_cons : (b : Block) (bs : List Block) → total (b ∷ bs) ≡ counted_length b + total bs
unfolding total
total_cons b bs = sum_by-cons counted_length b bs

initialising_cons : (b : Block) (bs : List Block) → initialising_blocks (b ∷ bs) ≡ cond b.initialising 1 0 + initialising_blocks bs
unfolding initialising_blocks
initialising_cons b bs = sum_by-cons (λ (x : Block). cond x.initialising 1 0) b bs

zero_cons : (b : Block) (bs : List Block) → zero_lengths (b ∷ bs) ≡ cond (not b.initialising && eqb b.length 0) 1 0 + zero_lengths bs
unfolding zero_lengths
zero_cons b bs = sum_by-cons (λ (x : Block). cond (not x.initialising && eqb x.length 0) 1 0) b bs

-- a block that is not bad has 5,000, or it is initialising or of length 0
one_counted : (init : Bool) (n : ℕ) → (init ≡ false → (n ≡ 0) ⊎ (5000 ≤ n)) → 5000 ≤ cond init 0 n + 5000 * (cond init 1 0 + cond (not init && eqb n 0) 1 0)
one_counted true n h = omega arith
one_counted false n h = ⊎_elim (λ e. rw (eq-eqb n 0 e) (omega arith)) (λ l. omega (arith, l)) (h refl)

all_counted : (before bs : List Block) → some_bad before bs ≡ false → 5000 * length bs ≤ total bs + 5000 * (initialising_blocks bs + zero_lengths bs)
unfolding some_bad counted_length
all_counted before [] h = omega arith
all_counted before (b ∷ bs) h =
    let p = or_parts (is_bad before b) _ h in
    let one = one_counted b.initialising b.length (good_length before b p.0) in
    let rest = all_counted (before ++ b ∷ []) bs p.1 in
    rw (total_cons b bs, initialising_cons b bs, zero_cons b bs) (omega (arith, one, rest))

none_counted : (bs : List Block) → list_any (λ (b : Block). b.initialising) bs ≡ false → initialising_blocks bs ≡ 0
unfolding initialising_blocks
none_counted [] h = refl
none_counted (b ∷ bs) h =
    let p = or_parts b.initialising _ h in initialising_cons b bs ∙ rw (p.0, none_counted bs p.1) refl

-- "1 if it has an initialising block"
at_most_one : (bs : List Block) → initialising_not_first bs ≡ false → initialising_blocks bs ≤ initialising_present bs
unfolding initialising_not_first initialising_present initialising_blocks
at_most_one [] h = omega arith
at_most_one (b ∷ bs) h = rw (initialising_cons b bs, none_counted bs h, h) (rw (or-false b.initialising) (omega arith))

pub block_bound : (bs : List Block) → initialising_not_first bs ≡ false → some_bad [] bs ≡ false → length bs ≤ most_blocks (total bs) bs
block_bound bs f h = omega (arith, all_counted [] bs h, at_most_one bs f)
