-- The words of a sheet of bytes are words of 16 bits. Assumes nothing.
use Prim.Native.Nat.{ℕ, ◌<◌}
use mathlib.Core.List.{List}
use lib.ListN.{get_or}
use Rattle.sheet.specs.Words.{word, sheet_of}
use Rattle.sheet.proofs.WordLaws as words

pub words_fit : (bytes : List ℕ) → ((i : ℕ) → get_or bytes i 0 < 256) → (i : ℕ) → word (sheet_of bytes) i < 65536
unfolding word sheet_of
words_fit bytes h i = words.words_fit bytes h i
