-- The words of pairs of bytes. Assumes nothing.
use Rattle.std.proofs.Common.{ℕ, zero, suc, ◌+◌, ◌*◌, ◌/◌, ◌<◌, ◌≤◌, ◌≡◌, refl, sym, ap, ◌∙◌, List, [], ◌∷◌, length, get_or, take, arith}
use Rattle.std.proofs.lemmas.List.{get_or-take, length-take-le}
use Rattle.std.specs.Simd.{first_chunks}
use Rattle.std.specs.Int.{from_be_bytes, w16}
use Rattle.sheet.specs.Words.{words}
use Rattle.languages.specs.steps.Pairs.{words_of}

-- a word to a pair
pub how_many_words : (pairs : List (List ℕ)) → length (words_of pairs) ≡ length pairs
unfolding words_of
how_many_words [] = refl
how_many_words (c ∷ cs) = ap suc (how_many_words cs)

-- the word at an index is that of the pair there
pub word_of : (pairs : List (List ℕ)) (i : ℕ) (d : List ℕ) → i < length pairs → get_or (words_of pairs) i 0 ≡ from_be_bytes w16 (get_or pairs i d)
unfolding words_of
word_of [] i d l = absurd (omega arith)
word_of (c ∷ cs) zero d l = refl
word_of (c ∷ cs) (suc i) d l = word_of cs i d (omega arith)

-- and so is what a look there shows
pub number_at : (pairs : List (List ℕ)) (i : ℕ) (pair : List ℕ) → (i < length pairs) × ((d : List ℕ) → pair ≡ get_or pairs i d)
    → from_be_bytes w16 pair ≡ get_or (words_of pairs) i 0
number_at pairs i pair seen = rw (word_of pairs i [] seen.0) (ap (from_be_bytes w16) (seen.1 []))

-- and the words at the front are those of the pairs there
pub front_word : (pairs : List (List ℕ)) (n i : ℕ) (d : List ℕ) → n ≤ length pairs → i < length (take n pairs)
    → (i < n) × (from_be_bytes w16 (get_or (take n pairs) i d) ≡ get_or (words_of pairs) i 0)
front_word pairs n i d l m =
    let inside : i < n = omega (arith, length-take-le n pairs l, m) in
    (inside, ap (from_be_bytes w16) (get_or-take n pairs i d inside) ∙ sym (word_of pairs i d (omega (arith, inside, l))))

-- the pairs of bytes have the bytes' words
pair_words : (n : ℕ) (bytes : List ℕ) → n + n ≤ length bytes → length bytes < n + n + 2 → words_of (first_chunks 2 n bytes) ≡ words bytes
unfolding words_of words
pair_words zero [] l m = refl
pair_words zero (a ∷ []) l m = refl
pair_words zero (a ∷ b ∷ bytes) l m = absurd (omega arith)
pair_words (suc n) [] l m = absurd (omega arith)
pair_words (suc n) (a ∷ []) l m = absurd (omega arith)
pair_words (suc n) (a ∷ b ∷ bytes) l m =
    let e : from_be_bytes w16 (a ∷ b ∷ []) ≡ 256 * a + b = omega arith in
    rw (e, pair_words n bytes (omega arith) (omega arith)) refl

pub words_of_pairs : (bytes : List ℕ) → words_of (first_chunks 2 (length bytes / 2) bytes) ≡ words bytes
words_of_pairs bytes = pair_words (length bytes / 2) bytes (omega arith) (omega arith)
