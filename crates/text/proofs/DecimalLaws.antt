-- The digits that `io::decimal` gives, and the number spelled. Assumes nothing.
use Prim.Native.Nat.{ℕ, zero, suc, ◌-◌, ◌/◌, ◌%◌, ◌^◌, ◌≤◌, ◌<◌}
use mathlib.Core.Path.{◌≡◌, refl, sym, ap, ◌∙◌}
use mathlib.Core.Bool.{true, false, false≢true, cond}
use mathlib.Core.List.{[], ◌∷◌, ◌++◌}
use native.Mathlib.Omega.{arith}
use native.Mathlib.Nat.{mod-lt, mod-eq_of_lt, le-div_iff_mul-le, div-lt_iff_lt-mul, pow-suc, pow-le-pow_right, le_trans}
use borrow.Author.Tests.{lt-ltb, le-ltb, ltb-true, leb-true, leb-false}
use lib.Dec.{ltb, leb}
use lib.IntN.{ℤ, pos, negsuc, nat_abs}
use lib.Signed.{lt_z}
use lib.ListN.{length, length-append}
use Rattle.values.specs.declared.Gain.{Gain}
use Rattle.values.specs.declared.Gain.TheVariants.{Silent, Tenths}
use Rattle.io.specs.Digits.{hex_digit_ascii, last_digits, IsDigitCount}
use Rattle.text.specs.Bytes.{ascii}
use Rattle.text.specs.Decimal.{digit_byte, spelled, decimal, signed_decimal, gain_text}

-- a digit's byte
last : (n : ℕ) → hex_digit_ascii (n % 10) ∷ [] ≡ digit_byte (n % 10)
last n = rw (lt-ltb (n % 10) 10 (mod-lt n (omega arith))) refl

-- the least number of that many digits
least : (n r : ℕ) → IsDigitCount 10 1 n (suc (suc r)) → 10 ^ suc r ≤ n
least n r (_, below, above) = let e : suc (suc r) - 1 ≡ suc r = omega arith in rw e at (above (omega arith))

-- one digit less
fewer : (n r : ℕ) → IsDigitCount 10 1 n (suc (suc r)) → IsDigitCount 10 1 (n / 10) (suc r)
fewer n r f =
    let e : suc r - 1 ≡ r = omega arith in (
      omega arith,
      (div-lt_iff_lt-mul {k = 10} {x = n} {y = 10 ^ suc r} (omega arith)).1 (rw (pow-suc 10 (suc r)) at f.1),
      λ h. rw e ((le-div_iff_mul-le {k = 10} {x = 10 ^ r} {y = n} (omega arith)).1 (rw (pow-suc 10 r) at (least n r f))),
    )

ten : (n r : ℕ) → IsDigitCount 10 1 n (suc (suc r)) → 10 ≤ n
ten n r f = le_trans (pow-le-pow_right {n = 10} (omega arith) {i = 1} {j = suc r} (omega arith)) (least n r f)

spelled_digits : (k r n : ℕ) → r ≤ suc k → IsDigitCount 10 1 n r → last_digits 10 r n ≡ spelled k n
unfolding spelled
spelled_digits k zero n l f = absurd (omega arith)
spelled_digits zero (suc zero) n l f = last n
spelled_digits zero (suc (suc r)) n l f = absurd (omega arith)
spelled_digits (suc k) (suc zero) n l (_, below, above) =
    let h : n < 10 = below in
    rw (lt-ltb n 10 h) (last n ∙ ap digit_byte (mod-eq_of_lt h))
spelled_digits (suc k) (suc (suc r)) n l f =
    rw (le-ltb n 10 (ten n r f), spelled_digits k (suc r) (n / 10) (omega arith) (fewer n r f), last n) refl

-- a number of 64 bits has at most 20 digits
few : (r n : ℕ) → n < 2 ^ 64 → IsDigitCount 10 1 n r → r ≤ 20
few r n h f =
    (elim (leb r 20) as (λ b. leb r 20 ≡ b → r ≤ 20) [
      | true ↦ λ e. leb-true r 20 e
      | false ↦ λ e.
          let l : 20 < r = leb-false r 20 e in
          let most : 10 ^ 20 ≤ 10 ^ (r - 1) = pow-le-pow_right {n = 10} (omega arith) {i = 20} {j = r - 1} (omega arith) in
          let least : 10 ^ (r - 1) ≤ n = f.2 (omega arith) in
          absurd (omega arith)
    ]) refl

pub decimal_digits : (r n : ℕ) → n < 2 ^ 64 → IsDigitCount 10 1 n r → last_digits 10 r n ≡ decimal n
unfolding decimal
decimal_digits r n h f = spelled_digits 19 r n (few r n h f) f

-- no number has more than 20 digits
spelled_fits : (k n : ℕ) → length (spelled k n) ≤ suc k
unfolding spelled
spelled_fits zero n = omega arith
spelled_fits (suc k) n =
    (elim (ltb n 10) as (λ b. length (cond b (digit_byte n) (spelled k (n / 10) ++ digit_byte (n % 10))) ≤ suc (suc k)) [
      | true ↦ omega arith
      | false ↦ rw length-append (omega (arith, spelled_fits k (n / 10)))
    ])

pub decimal_fits : (n : ℕ) → length (decimal n) ≤ 20
unfolding decimal
decimal_fits n = spelled_fits 19 n

pub signed_fits : (z : ℤ) → length (signed_decimal z) ≤ 21
unfolding signed_decimal
signed_fits (pos n) = omega (arith, decimal_fits n)
signed_fits (negsuc n) = omega (arith, decimal_fits (suc n))

-- a number with its sign, by its magnitude
pub signed_below : (z : ℤ) → lt_z z (pos 0) ≡ true → signed_decimal z ≡ ascii "-" ++ decimal (nat_abs z)
unfolding signed_decimal
signed_below (pos n) h = absurd (omega (arith, ltb-true n 0 h))
signed_below (negsuc n) h = refl

pub signed_from : (z : ℤ) → lt_z z (pos 0) ≡ false → signed_decimal z ≡ decimal (nat_abs z)
unfolding signed_decimal
signed_from (pos n) h = refl
signed_from (negsuc n) h = absurd (false≢true (sym h))

pub gain_fits_lem : (g : Gain) → length (gain_text g) ≤ 21
unfolding gain_text
gain_fits_lem Silent = omega arith
gain_fits_lem (Tenths z) = signed_fits z
