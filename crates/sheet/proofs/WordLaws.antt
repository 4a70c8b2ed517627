-- The words of a list of bytes: which bytes a word is made of, and how many words there are. Assumes nothing.
use Prim.Native.Nat.{ℕ, zero, suc, ◌+◌, ◌*◌, ◌/◌, ◌<◌, ◌≤◌}
use mathlib.Core.Path.{◌≡◌, refl}
use mathlib.Core.List.{List, [], ◌∷◌}
use native.Mathlib.Omega.{arith}
use lib.ListN.{length, get_or}
use Rattle.std.specs.Simd.{first_chunks}
use Rattle.std.specs.Int.{from_be_bytes, w16}
use Rattle.sheet.specs.Words.{words}

twice : (i : ℕ) → 2 * suc i ≡ suc (suc (2 * i))
twice i = omega arith

twice_one : (i : ℕ) → 2 * suc i + 1 ≡ suc (suc (2 * i + 1))
twice_one i = omega arith

-- a word is its two bytes, high byte first
pub at : (s : List ℕ) (i : ℕ) → i < length s / 2 → get_or (words s) i 0 ≡ 256 * get_or s (2 * i) 0 + get_or s (2 * i + 1) 0
unfolding words
at [] i h = absurd (omega arith)
at (a ∷ []) i h = absurd (omega arith)
at (a ∷ b ∷ s) zero h = refl
at (a ∷ b ∷ s) (suc i) h = rw (twice_one i, twice i) (at s i (omega arith))

-- past the last whole word there is 0
pub past : (s : List ℕ) (i : ℕ) → length s / 2 ≤ i → get_or (words s) i 0 ≡ 0
unfolding words
past [] i h = refl
past (a ∷ []) i h = refl
past (a ∷ b ∷ s) zero h = absurd (omega arith)
past (a ∷ b ∷ s) (suc i) h = past s i (omega arith)

-- two bytes to a word
pub how_many_lem : (s : List ℕ) → length (words s) ≡ length s / 2
unfolding words
how_many_lem [] = refl
how_many_lem (a ∷ []) = refl
how_many_lem (a ∷ b ∷ s) = omega (arith, how_many_lem s)

-- the words of bytes are of 16 bits
pub words_fit : (bytes : List ℕ) → ((i : ℕ) → get_or bytes i 0 < 256) → (i : ℕ) → get_or (words bytes) i 0 < 65536
unfolding words
words_fit [] h i = omega arith
words_fit (a ∷ []) h i = omega arith
words_fit (a ∷ b ∷ more) h zero = omega (arith, h 0, h 1)
words_fit (a ∷ b ∷ more) h (suc i) = words_fit more (λ j. h (suc (suc j))) i

-- the pair at a place is the word there
pub pair_word : (n : ℕ) (bytes : List ℕ) (i : ℕ) (d : List ℕ) → n + n ≤ length bytes → i < n → from_be_bytes w16 (get_or (first_chunks 2 n bytes) i d) ≡ get_or (words bytes) i 0
unfolding words
pair_word zero bytes i d l h = absurd (omega arith)
pair_word (suc n) (high ∷ low ∷ bytes) zero d l h = omega arith
pair_word (suc n) (high ∷ low ∷ bytes) (suc i) d l h = pair_word n bytes i d (omega arith) (omega arith)
pair_word (suc n) (high ∷ []) i d l h = absurd (omega arith)
pair_word (suc n) [] i d l h = absurd (omega arith)

-- the same of all pairs that the bytes have
pub word_of_pair : (bytes : List ℕ) (i : ℕ) (d : List ℕ) → i < length bytes / 2 → get_or (get_or (first_chunks 2 (length bytes / 2) bytes) i d) 0 0 * 256 + get_or (get_or (first_chunks 2 (length bytes / 2) bytes) i d) 1 0 ≡ get_or (words bytes) i 0
word_of_pair bytes i d h = pair_word (length bytes / 2) bytes i d (omega arith) h
