-- A sheet as 16-bit words. Document 01, "The sheet": "A word is 16 bits, high byte first". Assumes nothing.
use Rattle.std.specs.Prelude.{ℕ, ◌+◌, ◌*◌, List, [], ◌∷◌, length, get_or}

-- each pair of bytes is a word; a last byte without a partner is none
unfoldable pub words : List ℕ → List ℕ
words [] = []
words (high ∷ []) = []
words (high ∷ low ∷ bytes) = (256 * high + low) ∷ words bytes

-- what the definitions read of a sheet: how many bytes it has, and its words
pub record Sheet : Type 0 where
  pub bytes : ℕ
  pub words : List ℕ

-- the sheet of lent bytes
unfoldable pub sheet_of : List ℕ → Sheet
sheet_of bytes = record { bytes = length bytes; words = words bytes }

-- the word at an index, 0 past the end: every read is total
unfoldable pub word : Sheet → ℕ → ℕ
word s i = get_or s.words i 0

-- how many whole words the sheet has
unfoldable pub word_count : Sheet → ℕ
word_count s = length s.words
