-- Value and range words of either sort. Document 01, "The sheet": "In gain, offset and range words 32767 means absent".
-- A sort, gains or offsets, is a term of document 01 ("No effective range of that sort"). Assumes nothing.
use Rattle.std.specs.Prelude.{ℕ, Bool, cond, eqb}
use Rattle.values.specs.declared.Sort.{Sort}
use Rattle.values.specs.declared.Sort.TheVariants.{Gains, Offsets}
use Rattle.values.specs.Signed.{signed_of}
use Rattle.values.specs.Gain.{gain_of, gain_in_range, legal_gain, legal_gain_minimum, legal_gain_maximum}
use Rattle.values.specs.Offset.{offset_in_range, legal_offset, legal_offset_minimum, legal_offset_maximum}

-- "32767 means absent"
unfoldable pub is_absent : ℕ → Bool
is_absent w = eqb w 32767

-- the first word, or the second where the first is absent
unfoldable pub or_else : ℕ → ℕ → ℕ
or_else w other = cond (is_absent w) other w

-- a word that is a value of that sort
unfoldable pub is_value : Sort → ℕ → Bool
is_value Gains w = legal_gain (gain_of w)
is_value Offsets w = legal_offset (signed_of w)

-- a word that is the minimum of a range of that sort
unfoldable pub is_minimum : Sort → ℕ → Bool
is_minimum Gains w = legal_gain_minimum (gain_of w)
is_minimum Offsets w = legal_offset_minimum (signed_of w)

-- a word that is the maximum of a range of that sort
unfoldable pub is_maximum : Sort → ℕ → Bool
is_maximum Gains w = legal_gain_maximum (gain_of w)
is_maximum Offsets w = legal_offset_maximum (signed_of w)

-- the value w lies in the range from lo to hi, both included
unfoldable pub in_range : Sort → ℕ → ℕ → ℕ → Bool
in_range Gains lo w hi = gain_in_range (gain_of lo) (gain_of w) (gain_of hi)
in_range Offsets lo w hi = offset_in_range (signed_of lo) (signed_of w) (signed_of hi)
