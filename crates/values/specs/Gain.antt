-- Gains. Document 01, "The sheet": "A gain is either silence (-32768) or a number of tenths of a dB from -600 to 210,
-- and silence is below every number (-600 is a house floor). [..] Minimums: silence or -600 to 0 [..]. Maximums: 0 to 210".
-- Assumes nothing.
use Rattle.std.specs.Prelude.{ℕ, Bool, true, false, cond, ◌&&◌, eqb, pos, negsuc}
use Rattle.std.specs.Int.Signed.{le_z}
use Rattle.values.specs.declared.Gain.{Gain}
use Rattle.values.specs.declared.Gain.TheVariants.{Silent, Tenths}
use Rattle.values.specs.Signed.{signed_of}

-- "either silence (-32768) or a number of tenths": the gain that a word stands for, legal or not
unfoldable pub gain_of : ℕ → Gain
gain_of w = cond (eqb w 32768) Silent (Tenths (signed_of w))

-- "silence is below every number"
unfoldable pub at_most : Gain → Gain → Bool
at_most Silent b = true
at_most (Tenths x) Silent = false
at_most (Tenths x) (Tenths y) = le_z x y

-- from lo to hi, both included
unfoldable pub gain_in_range : Gain → Gain → Gain → Bool
gain_in_range lo g hi = at_most lo g && at_most g hi

-- "from -600 to 210"
unfoldable pub legal_gain : Gain → Bool
legal_gain Silent = true
legal_gain (Tenths z) = le_z (negsuc 599) z && le_z z (pos 210)

-- "Minimums: silence or -600 to 0"
unfoldable pub legal_gain_minimum : Gain → Bool
legal_gain_minimum Silent = true
legal_gain_minimum (Tenths z) = le_z (negsuc 599) z && le_z z (pos 0)

-- "Maximums: 0 to 210"
unfoldable pub legal_gain_maximum : Gain → Bool
legal_gain_maximum Silent = false
legal_gain_maximum (Tenths z) = le_z (pos 0) z && le_z z (pos 210)
