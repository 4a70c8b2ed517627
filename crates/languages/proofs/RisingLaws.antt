-- A list rises where no word is at most the one before it. Assumes nothing.
use Rattle.std.proofs.Common.{ℕ, suc, leb, ◌+◌, ◌-◌, ◌<◌, ◌≤◌, ◌≡◌, refl, Bool, not, ◌||◌, List, [], length, get_or, arith}
use Rattle.std.specs.Int.{from_be_bytes, w16}
use Rattle.profile.specs.Counting.{any}
use Rattle.profile.specs.Languages.{is_rising}
use Rattle.languages.specs.steps.Pairs.{words_of}
use Rattle.languages.proofs.PairLaws.{how_many_words, word_of}

-- the word after an index is at most the one at it
abbrev pub falls_after : List ℕ → ℕ → Bool
falls_after langs i = leb (get_or langs (i + 1) 0) (get_or langs i 0)

-- the next word, and whether it falls
pub next_fall : (pairs : List (List ℕ)) (i : ℕ) (falls : Bool) (v w : ℕ) → 1 ≤ i → i < length pairs → falls ≡ any (falls_after (words_of pairs)) (i - 1)
    → v ≡ from_be_bytes w16 (get_or pairs i []) → w ≡ from_be_bytes w16 (get_or pairs (i - 1) []) → (falls || leb v w) ≡ any (falls_after (words_of pairs)) (i + 1 - 1)
unfolding any
next_fall pairs i falls v w l m e f g =
    let k : i + 1 - 1 ≡ suc (i - 1) = omega arith in
    let n : i - 1 + 1 ≡ i = omega arith in
    rw (k, n, e, f, g, ← word_of pairs i [] m, ← word_of pairs (i - 1) [] (omega arith)) refl

-- all words but the first
pub all_passed : (pairs : List (List ℕ)) (falls : Bool) → falls ≡ any (falls_after (words_of pairs)) (length pairs - 1) → not falls ≡ is_rising (words_of pairs)
unfolding is_rising
all_passed pairs falls e = rw (how_many_words pairs, e) refl
