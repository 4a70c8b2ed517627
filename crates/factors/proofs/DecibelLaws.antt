-- What the table's rule says of all factors. Assumes nothing.
use Prim.Native.Nat.{ℕ, ◌+◌, ◌*◌, ◌-◌, ◌^◌, ◌<◌, ◌≤◌}
use mathlib.Core.Path.{◌≡◌, refl}
use mathlib.Core.Bool.{true, not}
use native.Mathlib.Omega.{arith}
use native.Mathlib.Nat.{mul-le-mul_right, pow-le-pow_left, le_trans, lt_of_lt_of_le}
use borrow.Author.Tests.{leb-true, leb-false, not-true}
use borrow.Table.Steps.{cases}
use lib.Dec.{leb}
use lib.IntN.{ℤ, negsuc}
use lib.ListN.{get_or}
use lib.Signed.{lt_z}
use Rattle.std.proofs.lemmas.Bool.{and_parts}
use Rattle.std.specs.List.{position_or_len}
use Rattle.std.proofs.lemmas.List.Sums.{fails_before_first, passes_at_first}
use Rattle.factors.specs.Table.{entries}
use Rattle.factors.specs.Decibels.{exponent, is_within, is_largest, tenth_at}
use Rattle.factors.specs.Conversion.{most_factor, least_tenth}
use Rattle.factors.specs.Promises.{IsTenth, Within, Above, EntryLargest, LeastTenth}
use Rattle.factors.proofs.TableLaws.{all_there, entry_largest}
use Rattle.factors.proofs.TenthLaws.{exponent_at, tenth_legal, entry_at_lem, tenth_place, earlier}

-- a lower factor is within what a higher one is, and a higher one is above what a lower one is
lower : (m n : ℕ) (d : ℤ) → m ≤ n → Within n d → Within m d
lower m n d h w = le_trans (mul-le-mul_right (10 ^ 600) (pow-le-pow_left h 200)) w

higher : (m n : ℕ) (d : ℤ) → m ≤ n → Above m d → Above n d
higher m n d h a = lt_of_lt_of_le a (mul-le-mul_right (10 ^ 600) (pow-le-pow_left h 200))

-- the test of an entry as a fact about powers
largest_means : (n : ℕ) (d : ℤ) → is_largest n d ≡ true → (Within n d) × (Above (n + 1) d)
unfolding is_largest is_within
largest_means n d h =
    let t = and_parts (is_within n d) (not (is_within (n + 1) d)) h in
    (leb-true _ _ t.0, leb-false _ _ (not-true _ t.1))

entry_means : (k : ℕ) → k < 811 → (Within (get_or entries k 0) (tenth_at k)) × (Above (get_or entries k 0 + 1) (tenth_at k))
entry_means k l = largest_means (get_or entries k 0) (tenth_at k) (entry_largest k l)

-- the entry of a tenth is the largest number within it
pub tenth_largest : (k : ℕ) → k < 811 → EntryLargest (tenth_at k)
tenth_largest k l =
    let e = entry_at_lem k in let m = entry_means k l in
    record {
      within = rw e m.0;
      largest = λ n w. rw e (cases (leb n (get_or entries k 0))
          (λ q. leb-true _ _ q)
          (λ q. let a = higher (get_or entries k 0 + 1) n (tenth_at k) (omega (arith, leb-false _ _ q)) m.1 in absurd (omega (arith, w, a))));
    }

-- the last entry
last_entry : get_or entries 810 0 ≡ most_factor
unfolding entries
last_entry = refl

-- the place of the answer for a factor: the first entry that is not below it stands there
abbrev pub place_of : ℕ → ℕ
place_of f = position_or_len (λ n. leb f n) entries

module _ (f : ℕ) (most : f ≤ most_factor) where
  in_table : place_of f < 811
  in_table =
      cases (leb 811 (place_of f))
      (λ q. absurd (omega (arith, most, last_entry, leb-false _ _ (fails_before_first (λ n. leb f n) entries 810 0 (omega (arith, leb-true _ _ q))))))
      (λ q. leb-false _ _ q)

  pub not_below : f ≤ get_or entries (place_of f) 0
  not_below = leb-true _ _ (passes_at_first (λ n. leb f n) entries 0 (rw all_there in_table))

  -- an entry before it is below the factor, and the factor is above its tenth
  pub entry_below : (k : ℕ) → k < place_of f → get_or entries k 0 < f
  entry_below k l = leb-false _ _ (fails_before_first (λ n. leb f n) entries k 0 l)

  tenth_below : (k : ℕ) → k < place_of f → Above f (tenth_at k)
  tenth_below k l = higher (get_or entries k 0 + 1) f (tenth_at k) (omega (arith, entry_below k l)) (entry_means k (omega (arith, l, in_table))).1

  -- of a lower tenth
  before : (e : ℤ) → IsTenth e → lt_z e (least_tenth f) ≡ true → (k : ℕ) × ((k < place_of f) × (tenth_at k ≡ e))
  unfolding least_tenth
  before e t h = let p = tenth_place e t in (p.0, (earlier p.0 (place_of f) (rw p.1.1 h), p.1.1))

  one_less : lt_z (negsuc 599) (least_tenth f) ≡ true → 10 ^ (exponent (least_tenth f) - 1) < f ^ 200 * 10 ^ 600
  unfolding least_tenth tenth_at
  one_less h =
      let l : 0 < place_of f = earlier 0 (place_of f) h in
      let a : Above f (tenth_at (place_of f - 1)) = tenth_below (place_of f - 1) (omega (arith, l)) in
      let e : 1200 + place_of f - 1 ≡ 1200 + (place_of f - 1) = omega (arith, l) in
      rw (exponent_at (place_of f), e) (rw (exponent_at (place_of f - 1)) at a)

  pub least_tenth_lem : LeastTenth f (least_tenth f)
  unfolding least_tenth
  least_tenth_lem =
      record {
        legal = tenth_legal (place_of f) in_table;
        not_below = rw (entry_at_lem (place_of f)) not_below;
        others_below = λ e t h. let b = before e t h in rw (← b.1.1, entry_at_lem b.0) (entry_below b.0 b.1.0);
        within = lower f (get_or entries (place_of f) 0) (tenth_at (place_of f)) not_below (entry_means (place_of f) in_table).0;
        others_above = λ e t h. let b = before e t h in rw (← b.1.1) (tenth_below b.0 b.1.0);
        one_less = one_less;
      }
