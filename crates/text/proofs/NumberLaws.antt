-- What the digits read so far say of a text's number. Assumes nothing.
use Prim.Native.Nat.{ℕ, ◌+◌, ◌*◌, ◌-◌, ◌≤◌, ◌<◌}
use mathlib.Core.Path.{◌≡◌, refl, sym}
use mathlib.Core.Bool.{Bool, true, false, cond, ◌&&◌}
use mathlib.Core.List.{List, [], ◌∷◌}
use native.Mathlib.Numerals.{add-one}
use native.Mathlib.Omega.{arith}
use lib.Dec.{leb, ltb}
use borrow.Author.Tests.{lt-ltb, le-leb, lt-leb, leb-false}
use lib.ListN.{length, get_or, drop}
use lib.Seq.{drop-cons, drop-length}
use Rattle.std.proofs.Math.Bool.{and-false}
use Rattle.std.specs.Prelude.{Option, Some, None}
use Rattle.std.specs.Char.{is_ascii_digit}
use Rattle.text.specs.Numbers.{is_digit, digits, value, is_number, number_of, wide_number_of}

-- a digit, as the library tests it
pub digit_test : (b : ℕ) → is_digit b ≡ is_ascii_digit b
unfolding is_digit
digit_test b = refl

-- more digits make a number no smaller
pub grows : (s : List ℕ) (n : ℕ) → n ≤ value n s
unfolding value
grows [] n = omega arith
grows (b ∷ s) n = omega (arith, grows s (n * 10 + (b - 48)))

-- a digit is read
module _ (s : List ℕ) (i n : ℕ) (h : i < length s) (v : value n (drop i s) ≡ value 0 s) (d : digits (drop i s) ≡ digits s) where
  pub valued : value (n * 10 + (get_or s i 0 - 48)) (drop (i + 1) s) ≡ value 0 s
  unfolding value
  valued = rw (add-one) (rw (drop-cons s i 0 h) at v)

  pub judged : is_digit (get_or s i 0) ≡ true → digits (drop (i + 1) s) ≡ digits s
  unfolding digits
  judged e = rw (add-one) (rw e at (rw (drop-cons s i 0 h) at d))

  pub stray : (most : ℕ) → is_digit (get_or s i 0) ≡ false → 0 < length s → is_number most s ≡ false
  unfolding digits is_number
  stray most e l = let f : false ≡ digits s = rw e at (rw (drop-cons s i 0 h) at d) in simp (lt-ltb 0 (length s) l, sym f)

  pub above : (most : ℕ) → most < n * 10 + (get_or s i 0 - 48) → is_number most s ≡ false
  unfolding is_number
  above most l =
      let m : most < value 0 s = omega (arith, l, valued, grows (drop (i + 1) s) (n * 10 + (get_or s i 0 - 48))) in
      simp (lt-leb (value 0 s) most m, and-false)

pub empty : (most : ℕ) (s : List ℕ) → length s ≡ 0 → is_number most s ≡ false
unfolding is_number
empty most s h = simp h

-- all digits are read
pub finished : (most : ℕ) (s : List ℕ) (i n : ℕ) → i ≡ length s → 0 < length s → n ≤ most → value n (drop i s) ≡ value 0 s → digits (drop i s) ≡ digits s
    → (is_number most s ≡ true) × (n ≡ value 0 s)
unfolding digits value is_number
finished most s i n e h l v d =
    let z : drop i s ≡ [] = rw e (drop-length s) in
    let w : n ≡ value 0 s = rw z at v in
    let f : true ≡ digits s = rw z at d in
    (simp (lt-ltb 0 (length s) h, sym f, sym w, le-leb n most l), w)

-- a number of 16 bits, by that of 32 bits
unfoldable pub narrow : Option ℕ → Option ℕ
narrow None = None
narrow (Some n) = cond (leb n 65535) (Some n) None

narrow_value : (a b : Bool) (v : ℕ) → cond (a && b && leb v 65535) (Some v) None ≡ narrow (cond (a && b && leb v 4294967295) (Some v) None)
unfolding narrow
narrow_value false b v = refl
narrow_value true false v = refl
narrow_value true true v =
    (elim (leb v 4294967295) as (λ t. leb v 4294967295 ≡ t → cond (leb v 65535) (Some v) None ≡ narrow (cond t (Some v) None)) [
      | true ↦ λ q. refl
      | false ↦ λ q. rw (lt-leb v 65535 (omega (arith, leb-false _ _ q))) refl
    ]) refl

pub narrowed : (s : List ℕ) → number_of s ≡ narrow (wide_number_of s)
unfolding number_of wide_number_of is_number
narrowed s = narrow_value (ltb 0 (length s)) (digits s) (value 0 s)
