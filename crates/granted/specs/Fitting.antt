-- When a value is the start value or fits the range granted. Document 01, "The listener": "each included object's gain and offset is its
-- start value or legal in its range"; "31. The value isn't legal or is outside that range." Assumes nothing.
use Rattle.std.specs.Prelude.{ℕ, Bool, ◌&&◌, ◌||◌, ℤ}
use Rattle.std.specs.Int.Signed.{le_z}
use Rattle.sheet.specs.Words.{Sheet}
use Rattle.values.specs.declared.Gain.{Gain}
use Rattle.values.specs.declared.Sort.TheVariants.{Gains, Offsets}
use Rattle.values.specs.Signed.{signed_of}
use Rattle.values.specs.Gain.{at_most, gain_of, gain_in_range, legal_gain}
use Rattle.values.specs.Offset.{offset_in_range, legal_offset}
use Rattle.granted.specs.Granted.{start_value, granted_minimum, granted_maximum, grants}

-- two gains are the same: neither is above the other
unfoldable pub same_gain : Gain → Gain → Bool
same_gain g h = at_most g h && at_most h g

-- two offsets are the same: neither is above the other
unfoldable pub same_offset : ℤ → ℤ → Bool
same_offset x y = le_z x y && le_z y x

-- a gain is legal and in the range granted there
unfoldable pub gain_fits : Sheet → ℕ → ℕ → Gain → Bool
gain_fits s p o g = legal_gain g && gain_in_range (gain_of (granted_minimum s p o Gains)) g (gain_of (granted_maximum s p o Gains))

unfoldable pub offset_fits : Sheet → ℕ → ℕ → ℤ → Bool
offset_fits s p o z = legal_offset z && offset_in_range (signed_of (granted_minimum s p o Offsets)) z (signed_of (granted_maximum s p o Offsets))

-- "its start value or legal in its range"
unfoldable pub sound_gain : Sheet → ℕ → ℕ → Gain → Bool
sound_gain s p o g = same_gain g (gain_of (start_value s p o Gains)) || grants s p o Gains && gain_fits s p o g

unfoldable pub sound_offset : Sheet → ℕ → ℕ → ℤ → Bool
sound_offset s p o z = same_offset z (signed_of (start_value s p o Offsets)) || grants s p o Offsets && offset_fits s p o z
