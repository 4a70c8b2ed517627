-- The listing of a programme's start, without a state. Document 01, "What the guarantees have to say": "Host players in C and Rust call
-- check, and the listing of a programme's start [..]. That listing takes sheet, programme number and buffer, refuses by 25, 27, 32".
-- Assumes nothing.
use Rattle.std.specs.Prelude.{ℕ, List, [], ◌∷◌, length, Result}
use Rattle.sheet.specs.Words.{Sheet}
use Rattle.listener.specs.declared.Refusal.{Refusal}
use Rattle.listener.specs.Programme.{started}
use Rattle.listener.specs.Calls.{Answer, answer_by, not_open, no_programme}
use Rattle.listener.specs.Listing.{entries, listed_tracks, too_few_words, listed_by, buffered_by}

-- what the listing of a programme's start writes
unfoldable pub start_tracks : Sheet → ℕ → List ℕ
start_tracks s p = listed_tracks s (started s p)

-- how many entries it has
unfoldable pub start_number : Sheet → ℕ → ℕ
start_number s p = length (entries s (started s p))

-- "refuses by 25, 27, 32"
unfoldable pub start_answer : Sheet → List ℕ → ℕ → ℕ → Answer
start_answer s langs p words = answer_by (not_open s langs ∷ no_programme s p ∷ too_few_words s (started s p) words ∷ [])

-- what it gives for so many words
unfoldable pub start_listed : Sheet → List ℕ → ℕ → ℕ → Result ℕ Refusal
start_listed s langs p words = listed_by (start_number s p) (start_answer s langs p words)

-- the buffer's words afterwards
unfoldable pub start_buffered : Sheet → List ℕ → ℕ → List ℕ → List ℕ
start_buffered s langs p buffer = buffered_by buffer (start_tracks s p) (start_answer s langs p (length buffer))
