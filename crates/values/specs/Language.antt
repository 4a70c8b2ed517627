-- Codes of three letters, and loudness. Document 01, "The sheet": "Label entries are languages: 1024 times the first letter plus 32 times
-- the second plus the third, a = 1 to z = 26. [..] Loudness is 1 integrated, 2 dialogue, 3 both." Which codes are languages is said of a
-- lent list (profile/specs/Languages). Assumes nothing.
use Rattle.std.specs.Prelude.{ℕ, ◌/◌, ◌%◌, Bool, ◌&&◌, leb}

-- "a = 1 to z = 26"
unfoldable pub letter : ℕ → Bool
letter n = leb 1 n && leb n 26

-- "1024 times the first letter plus 32 times the second plus the third"
unfoldable pub three_letters : ℕ → Bool
three_letters w = letter (w / 1024) && letter (w / 32 % 32) && letter (w % 32)

-- "1 integrated, 2 dialogue, 3 both"
unfoldable pub loudness : ℕ → Bool
loudness w = leb 1 w && leb w 3
