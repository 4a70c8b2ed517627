-- A list of words as pairs of bytes. Assumes nothing.
use Rattle.std.specs.Prelude.{ℕ, List, map}
use Rattle.std.specs.Int.{from_be_bytes, w16}

-- each pair is a word, high byte first
unfoldable pub words_of : List (List ℕ) → List ℕ
words_of pairs = map (from_be_bytes w16) pairs
