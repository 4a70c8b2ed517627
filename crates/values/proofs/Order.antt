-- The orders of signed numbers and of gains are total orders, each law a Bool equation. Assumes nothing.
use mathlib.Core.Path.{◌≡◌, refl, ap}
use mathlib.Core.Bool.{true, false, false≢true, ◌||◌}
use Prim.Native.Nat.{ℕ}
use native.Mathlib.Omega.{arith}
use borrow.Author.Tests.{leb-true, leb-false, le-leb}
use lib.Dec.{leb}
use lib.IntN.{ℤ, pos, negsuc}
use lib.Signed.{le_z}
use Rattle.values.specs.declared.Gain.{Gain}
use Rattle.values.specs.declared.Gain.TheVariants.{Silent, Tenths}
use Rattle.values.specs.Gain.{at_most}

-- natural numbers: one law each, for both signs
leb_refl : (a : ℕ) → leb a a ≡ true
leb_refl a = le-leb a a (omega arith)

leb_trans : (a b c : ℕ) → leb a b ≡ true → leb b c ≡ true → leb a c ≡ true
leb_trans a b c h k = le-leb a c (omega (arith, leb-true))

leb_total : (a b : ℕ) → leb a b || leb b a ≡ true
leb_total a b =
    (elim (leb a b) as (λ t. leb a b ≡ t → t || leb b a ≡ true) [
      | true ↦ λ h. refl
      | false ↦ λ h. le-leb b a (omega (arith, leb-false))
    ]) refl

leb_antisym : (a b : ℕ) → leb a b ≡ true → leb b a ≡ true → a ≡ b
leb_antisym a b h k = omega (arith, leb-true)

-- signed numbers
pub le_z_refl : (x : ℤ) → le_z x x ≡ true
le_z_refl (pos a) = leb_refl a
le_z_refl (negsuc a) = leb_refl a

pub le_z_trans : (x y z : ℤ) → le_z x y ≡ true → le_z y z ≡ true → le_z x z ≡ true
le_z_trans (pos a) (pos b) (pos c) h k = leb_trans a b c h k
le_z_trans (pos a) (pos b) (negsuc c) h k = k
le_z_trans (pos a) (negsuc b) z h k = absurd (false≢true h)
le_z_trans (negsuc a) y (pos c) h k = refl
le_z_trans (negsuc a) (pos b) (negsuc c) h k = absurd (false≢true k)
le_z_trans (negsuc a) (negsuc b) (negsuc c) h k = leb_trans c b a k h

pub le_z_total : (x y : ℤ) → le_z x y || le_z y x ≡ true
le_z_total (pos a) (pos b) = leb_total a b
le_z_total (pos a) (negsuc b) = refl
le_z_total (negsuc a) (pos b) = refl
le_z_total (negsuc a) (negsuc b) = leb_total b a

pub le_z_antisym : (x y : ℤ) → le_z x y ≡ true → le_z y x ≡ true → x ≡ y
le_z_antisym (pos a) (pos b) h k = ap pos (leb_antisym a b h k)
le_z_antisym (pos a) (negsuc b) h k = absurd (false≢true h)
le_z_antisym (negsuc a) (pos b) h k = absurd (false≢true k)
le_z_antisym (negsuc a) (negsuc b) h k = ap negsuc (leb_antisym a b k h)

-- gains: silence below every number
pub at_most_refl : (a : Gain) → at_most a a ≡ true
unfolding at_most
at_most_refl Silent = refl
at_most_refl (Tenths x) = le_z_refl x

pub at_most_trans : (a b c : Gain) → at_most a b ≡ true → at_most b c ≡ true → at_most a c ≡ true
unfolding at_most
at_most_trans Silent b c h k = refl
at_most_trans (Tenths x) Silent c h k = absurd (false≢true h)
at_most_trans (Tenths x) (Tenths y) Silent h k = k
at_most_trans (Tenths x) (Tenths y) (Tenths z) h k = le_z_trans x y z h k

pub at_most_total : (a b : Gain) → at_most a b || at_most b a ≡ true
unfolding at_most
at_most_total Silent b = refl
at_most_total (Tenths x) Silent = refl
at_most_total (Tenths x) (Tenths y) = le_z_total x y

pub at_most_antisym : (a b : Gain) → at_most a b ≡ true → at_most b a ≡ true → a ≡ b
unfolding at_most
at_most_antisym Silent Silent h k = refl
at_most_antisym Silent (Tenths y) h k = absurd (false≢true k)
at_most_antisym (Tenths x) Silent h k = absurd (false≢true h)
at_most_antisym (Tenths x) (Tenths y) h k = ap Tenths (le_z_antisym x y h k)
