-- Signed words. Document 01, "The sheet": "A word is 16 bits [..]; signed words are two's complement." Assumes nothing.
use Rattle.std.specs.Prelude.{ℕ, ◌-◌, cond, ltb, ℤ, pos, negsuc}

-- the number that a word stands for: `negsuc n` is -(n + 1)
unfoldable pub signed_of : ℕ → ℤ
signed_of w = cond (ltb w 32768) (pos w) (negsuc (65535 - w))

-- the word that stands for a number from -32768 to 32767
unfoldable pub word_of : ℤ → ℕ
word_of (pos n) = n
word_of (negsuc n) = 65535 - n
