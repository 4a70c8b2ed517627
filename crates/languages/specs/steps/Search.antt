-- What the search knows of an index while it narrows where a word can stand. Assumes nothing.
use Rattle.std.specs.Prelude.{ℕ, ◌+◌, ◌<◌, ◌≤◌, ◌≡◌, true, Bool, ◌&&◌, List, [], ◌∷◌, eqb, get_or, length}
use Rattle.profile.specs.Languages.{is_rising}

-- the word at the index is at most the one looked for; 0 may be reached without a word
abbrev pub AtMost : List ℕ → ℕ → ℕ → Type 0
AtMost langs w last = 0 < last → (last < length langs) × (get_or langs last 0 ≤ w)

-- from an index on, all words of a list that rises are above it
abbrev pub Above : List ℕ → ℕ → ℕ → Type 0
Above langs w n = is_rising langs ≡ true → (i : ℕ) → n ≤ i → i < length langs → w < get_or langs i 0

-- each number is half the one before it
unfoldable pub halves : List ℕ → Bool
halves [] = true
halves (a ∷ []) = true
halves (a ∷ b ∷ ns) = eqb a (b + b) && halves (b ∷ ns)
