-- 0 is a value of either sort, and lies in every legal range of it. Assumes nothing.
use mathlib.Core.Path.{◌≡◌, refl}
use mathlib.Core.Bool.{true, false≢true, ◌&&◌}
use Prim.Native.Nat.{ℕ}
use lib.IntN.{ℤ, pos, negsuc}
use lib.Signed.{le_z}
use Rattle.values.specs.declared.Gain.{Gain}
use Rattle.values.specs.declared.Gain.TheVariants.{Silent, Tenths}
use Rattle.values.specs.declared.Sort.{Sort}
use Rattle.values.specs.declared.Sort.TheVariants.{Gains, Offsets}
use Rattle.values.specs.Signed.{signed_of}
use Rattle.values.specs.Gain.{gain_of, at_most, gain_in_range, legal_gain, legal_gain_minimum, legal_gain_maximum}
use Rattle.values.specs.Offset.{offset_in_range, legal_offset, legal_offset_minimum, legal_offset_maximum}
use Rattle.values.specs.Values.{is_value, is_minimum, is_maximum, in_range}
use Rattle.values.proofs.Both.{both}

-- 0 is a value
pub zero_value : (t : Sort) → is_value t 0 ≡ true
unfolding is_value gain_of signed_of legal_gain legal_offset offset_in_range
zero_value Gains = refl
zero_value Offsets = refl

-- at most 0, and at least 0: the inner sides of a legal range
minimum : (l x : ℤ) → le_z l x && le_z x (pos 0) ≡ true → le_z x (pos 0) ≡ true
minimum l x h = (both (le_z l x) (le_z x (pos 0)) h).1

maximum : (y u : ℤ) → le_z (pos 0) y && le_z y u ≡ true → le_z (pos 0) y ≡ true
maximum y u h = (both (le_z (pos 0) y) (le_z y u) h).0

-- a range of gains, whose minimum may be silence
gains : (lo hi : Gain) → legal_gain_minimum lo ≡ true → legal_gain_maximum hi ≡ true → gain_in_range lo (Tenths (pos 0)) hi ≡ true
unfolding at_most gain_in_range legal_gain_minimum legal_gain_maximum
gains lo Silent h k = absurd (false≢true k)
gains Silent (Tenths y) h k = maximum y (pos 210) k
gains (Tenths x) (Tenths y) h k = rw (minimum (negsuc 599) x h) (maximum y (pos 210) k)

-- 0 lies between a legal minimum and a legal maximum
pub zero_in_range : (t : Sort) (lo hi : ℕ) → is_minimum t lo ≡ true → is_maximum t hi ≡ true → in_range t lo 0 hi ≡ true
unfolding is_minimum is_maximum in_range gain_of signed_of legal_offset_minimum legal_offset_maximum offset_in_range
zero_in_range Gains lo hi h k = gains (gain_of lo) (gain_of hi) h k
zero_in_range Offsets lo hi h k = rw (minimum (negsuc 299) (signed_of lo) h) (maximum (signed_of hi) (pos 300) k)
