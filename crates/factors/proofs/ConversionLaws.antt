-- What every factor is answered. Assumes nothing.
use Prim.Native.Nat.{ℕ, zero, suc, ◌<◌, ◌≤◌}
use mathlib.Core.Path.{◌≡◌, refl, ap}
use mathlib.Core.Bool.{true}
use native.Mathlib.Omega.{arith}
use borrow.Author.Tests.{leb-true, leb-false, le-leb, lt-leb, ltb-false, ne_eqb}
use borrow.Table.Steps.{cases}
use lib.Dec.{leb, ltb}
use lib.IntN.{ℤ, pos, negsuc}
use lib.Signed.{lt_z}
use Rattle.std.proofs.lemmas.Bool.{false_from_ne_true}
use Rattle.std.specs.List.{position_or_len}
use Rattle.std.proofs.lemmas.List.Sums.{position_or_len_is}
use Rattle.std.specs.Prelude.{Ok, Err}
use Rattle.values.specs.declared.Gain.TheVariants.{Tenths}
use Rattle.values.specs.Gain.{at_most, legal_gain}
use Rattle.factors.specs.declared.FactorRefusal.TheVariants.{FactorTooHigh}
use Rattle.factors.specs.Table.{entries}
use Rattle.factors.specs.Decibels.{tenth_at}
use Rattle.factors.specs.Conversion.{most_factor, least_tenth, factor_gain, conversion}
use Rattle.factors.specs.Promises.{LeastTenth}
use Rattle.factors.proofs.TenthLaws.{not_lower}
use Rattle.factors.proofs.DecibelLaws.{place_of, entry_below, not_below, least_tenth_lem}

-- the answers by the factor
pub answered : (f : ℕ) → f ≤ most_factor → conversion f ≡ Ok (factor_gain f)
unfolding conversion
answered f h = rw (le-leb f most_factor h) refl

pub refused : (f : ℕ) → most_factor < f → conversion f ≡ Err FactorTooHigh
unfolding conversion
refused f h = rw (lt-leb f most_factor h) refl

pub tenths : (f : ℕ) → 1 ≤ f → factor_gain f ≡ Tenths (least_tenth f)
unfolding factor_gain
tenths f h = rw (ne_eqb f 0 (λ e. let z : f ≡ 0 = e in omega (arith, z))) refl

-- the first entry stands at the place of -600
pub lowest_tenth : (f : ℕ) → f ≤ 1000 → least_tenth f ≡ negsuc 599
unfolding least_tenth tenth_at entries
lowest_tenth f h =
    let e : position_or_len (λ n. leb f n) entries ≡ 0 = position_or_len_is (λ n. leb f n) entries 0 0 (omega arith) (λ k l. absurd (omega arith)) (λ l. le-leb f 1000 h) in
    rw e refl

-- each gain is legal
pub gain_legal : (f : ℕ) → f ≤ most_factor → legal_gain (factor_gain f) ≡ true
unfolding factor_gain legal_gain
gain_legal zero h = refl
gain_legal (suc f) h = rw (tenths (suc f) (omega arith)) (least_tenth_lem (suc f) h).legal

-- a higher factor has no earlier place, and no lower gain
no_earlier : (f g : ℕ) → f ≤ g → g ≤ most_factor → place_of f ≤ place_of g
no_earlier f g h m =
    cases (leb (place_of f) (place_of g))
    (λ q. leb-true _ _ q)
    (λ q. absurd (omega (arith, h, not_below g m, entry_below f (omega (arith, h, m)) (place_of g) (leb-false _ _ q))))

pub no_lower : (f g : ℕ) → f ≤ g → g ≤ most_factor → at_most (factor_gain f) (factor_gain g) ≡ true
unfolding factor_gain at_most least_tenth
no_lower zero g h m = refl
no_lower (suc f) zero h m = absurd (omega arith)
no_lower (suc f) (suc g) h m = rw (tenths (suc f) (omega arith), tenths (suc g) (omega arith)) (not_lower (place_of (suc f)) (place_of (suc g)) (no_earlier (suc f) (suc g) h m))

-- of two numbers neither of which is below the other
one_number : (a b : ℕ) → (ltb a b ≡ true → ⊥) → (ltb b a ≡ true → ⊥) → a ≡ b
one_number a b h k = omega (arith, ltb-false a b (false_from_ne_true (ltb a b) h), ltb-false b a (false_from_ne_true (ltb b a) k))

one_tenth : (d e : ℤ) → (lt_z d e ≡ true → ⊥) → (lt_z e d ≡ true → ⊥) → d ≡ e
one_tenth (pos a) (pos b) h k = ap pos (one_number a b h k)
one_tenth (pos a) (negsuc b) h k = absurd (k refl)
one_tenth (negsuc a) (pos b) h k = absurd (h refl)
one_tenth (negsuc a) (negsuc b) h k = ap negsuc (one_number a b k h)

-- there is one least tenth
pub least_once : (f : ℕ) (d e : ℤ) → LeastTenth f d → LeastTenth f e → d ≡ e
least_once f d e x y =
    one_tenth d e (λ h. omega (arith, x.not_below, y.others_below d x.legal h)) (λ h. omega (arith, y.not_below, x.others_below e y.legal h))
