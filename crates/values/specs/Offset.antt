-- Offsets. Document 01, "The sheet": "Offsets are tenths of a degree, -300 to 300. Minimums: [..] -300 to 0. Maximums: [..] 0 to 300."
-- Assumes nothing.
use Rattle.std.specs.Prelude.{Bool, ◌&&◌, ℤ, pos, negsuc}
use Rattle.std.specs.Int.Signed.{le_z}

-- from lo to hi, both included
unfoldable pub offset_in_range : ℤ → ℤ → ℤ → Bool
offset_in_range lo z hi = le_z lo z && le_z z hi

-- "-300 to 300"
unfoldable pub legal_offset : ℤ → Bool
legal_offset z = offset_in_range (negsuc 299) z (pos 300)

-- "Minimums: [..] -300 to 0"
unfoldable pub legal_offset_minimum : ℤ → Bool
legal_offset_minimum z = offset_in_range (negsuc 299) z (pos 0)

-- "Maximums: [..] 0 to 300"
unfoldable pub legal_offset_maximum : ℤ → Bool
legal_offset_maximum z = offset_in_range (pos 0) z (pos 300)
