-- The tenths of the places in the table. Assumes nothing.
use Prim.Native.Nat.{ℕ, ◌+◌, ◌-◌, ◌<◌, ◌≤◌}
use mathlib.Core.Path.{◌≡◌, refl}
use mathlib.Core.Bool.{true, false, false≢true, cond}
use native.Mathlib.Omega.{arith}
use borrow.Author.Tests.{lt-ltb, le-ltb, le-leb, leb-true, ltb-true, ltb-false}
use lib.Dec.{ltb}
use lib.IntN.{ℤ, pos, negsuc, ◌-ℤ◌}
use Rattle.std.proofs.lemmas.Int.{ints, to_z-of_z}
use lib.ListN.{get_or}
use lib.Signed.{le_z, lt_z}
use mir.Syntax.{w16}
use mir.Val.{to_z, of_z}
use Rattle.std.proofs.lemmas.Bool.{and_parts}
use Rattle.values.specs.Gain.{legal_gain}
use Rattle.factors.specs.Table.{entries}
use Rattle.factors.specs.Decibels.{exponent, tenth_at}
use Rattle.factors.specs.Promises.{IsTenth, entry_of}

-- the tenth of a place below 600, and of one from there on
pub below_nought : (k : ℕ) → k < 600 → tenth_at k ≡ negsuc (599 - k)
unfolding tenth_at
below_nought k h = rw (lt-ltb k 600 h) refl

pub from_nought : (k : ℕ) → 600 ≤ k → tenth_at k ≡ pos (k - 600)
unfolding tenth_at
from_nought k h = rw (le-ltb k 600 h) refl

-- two cases for a place: what holds of both tenths holds of it
by_place : (P : ℤ → Type 0) (k : ℕ) → (k < 600 → P (negsuc (599 - k))) → (600 ≤ k → P (pos (k - 600))) → P (tenth_at k)
unfolding tenth_at
by_place P k low high =
    (elim (ltb k 600) as (λ t. ltb k 600 ≡ t → P (cond t (negsuc (599 - k)) (pos (k - 600)))) [
      | true ↦ λ q. low (ltb-true k 600 q)
      | false ↦ λ q. high (ltb-false k 600 q)
    ]) refl

-- as the code computes it
pub computed : (k : ℕ) → k ≤ 811 → to_z w16 (of_z w16 (to_z w16 k -ℤ pos 600)) ≡ tenth_at k
computed k l =
    by_place (λ d. to_z w16 (of_z w16 (to_z w16 k -ℤ pos 600)) ≡ d) k
    (λ h. grind (arith, ints, to_z-of_z))
    (λ h. grind (arith, ints, to_z-of_z))

-- 10 to the power 1800 + d is 10 to the power 1200 + k
pub exponent_at : (k : ℕ) → exponent (tenth_at k) ≡ 1200 + k
unfolding exponent
exponent_at k = by_place (λ d. exponent d ≡ 1200 + k) k (λ h. omega arith) (λ h. omega arith)

-- the table's tenths are those of legal gains
pub tenth_legal : (k : ℕ) → k < 811 → IsTenth (tenth_at k)
unfolding legal_gain
tenth_legal k l =
    by_place IsTenth k (λ h. rw (le-leb (599 - k) 599 (omega arith)) refl) (λ h. rw (le-leb (k - 600) 210 (omega arith)) refl)

-- the entry of a place is that of its tenth
pub entry_at_lem : (k : ℕ) → entry_of (tenth_at k) ≡ get_or entries k 0
unfolding entry_of
entry_at_lem k =
    by_place (λ d. entry_of d ≡ get_or entries k 0) k
    (λ h. let e : 599 - (599 - k) ≡ k = omega arith in rw e refl)
    (λ h. let e : 600 + (k - 600) ≡ k = omega arith in rw e refl)

-- and each tenth has its place
pub tenth_place : (d : ℤ) → IsTenth d → (k : ℕ) × ((k < 811) × (tenth_at k ≡ d))
unfolding legal_gain
tenth_place (pos n) h =
    let l : n ≤ 210 = leb-true n 210 h in
    let e : 600 + n - 600 ≡ n = omega arith in
    (600 + n, (omega arith, rw (from_nought (600 + n) (omega arith), e) refl))
tenth_place (negsuc n) h =
    let l : n ≤ 599 = leb-true n 599 (and_parts _ _ h).0 in
    let e : 599 - (599 - n) ≡ n = omega arith in
    (599 - n, (omega arith, rw (below_nought (599 - n) (omega arith), e) refl))

-- a lower tenth has an earlier place
pub earlier : (i j : ℕ) → lt_z (tenth_at i) (tenth_at j) ≡ true → i < j
earlier i j =
    by_place (λ d. lt_z d (tenth_at j) ≡ true → i < j) i
    (λ h. by_place (λ e. lt_z (negsuc (599 - i)) e ≡ true → i < j) j (λ l q. omega (arith, ltb-true _ _ q)) (λ l q. omega arith))
    (λ h. by_place (λ e. lt_z (pos (i - 600)) e ≡ true → i < j) j (λ l q. absurd (false≢true q)) (λ l q. omega (arith, ltb-true _ _ q)))

-- a place that is not earlier has no lower tenth
pub not_lower : (i j : ℕ) → i ≤ j → le_z (tenth_at i) (tenth_at j) ≡ true
not_lower i j h =
    by_place (λ d. le_z d (tenth_at j) ≡ true) i
    (λ l. by_place (λ e. le_z (negsuc (599 - i)) e ≡ true) j (λ m. le-leb _ _ (omega arith)) (λ m. refl))
    (λ l. by_place (λ e. le_z (pos (i - 600)) e ≡ true) j (λ m. absurd (omega arith)) (λ m. le-leb _ _ (omega arith)))
