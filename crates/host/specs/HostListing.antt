-- The listing of a programme's start on bytes. Document 01, "What the guarantees have to say": "That listing takes sheet, programme
-- number and buffer, refuses by 25, 27, 32, and writes each track as two bytes, high first. It gives the number of entries, or the
-- refusal's number negated; 32 here means fewer than two bytes per entry." Document 02, L2: "every call lent a sheet is lent it too (host
-- calls right after the sheet)": the list of languages, `langs`. Assumes nothing.
use Rattle.std.specs.Prelude.{ℕ, zero, suc, ◌*◌, ◌/◌, ◌%◌, List, [], ◌∷◌, ltb, ℤ, pos, negsuc, length, get_or, Ok, Err}
use Rattle.sheet.specs.Words.{Sheet}
use Rattle.profile.specs.Counting.{concat_below}
use Rattle.listener.specs.declared.Refusal.TheVariants.{TooFewWords}
use Rattle.listener.specs.State.{refusal_number}
use Rattle.listener.specs.Calls.{Answer, Ground, answer_by, not_open, no_programme}
use Rattle.listener.specs.Listing.{buffered_by}
use Rattle.listener.specs.StartListing.{start_tracks, start_number}

-- a word "as two bytes, high first"
unfoldable pub two_bytes : ℕ → List ℕ
two_bytes w = w / 256 ∷ w % 256 ∷ []

-- each word so, one behind the other
unfoldable pub bytes_of : List ℕ → List ℕ
bytes_of ws = concat_below (λ i. two_bytes (get_or ws i 0)) (length ws)

-- "32 here means fewer than two bytes per entry"
unfoldable pub too_few_bytes : Sheet → ℕ → ℕ → Ground
too_few_bytes s p bytes = record { refusal = TooFewWords; holds = ltb bytes (2 * start_number s p) }

-- "refuses by 25, 27, 32"
unfoldable pub host_answer : Sheet → List ℕ → ℕ → ℕ → Answer
host_answer s langs p bytes = answer_by (not_open s langs ∷ no_programme s p ∷ too_few_bytes s p bytes ∷ [])

-- a number negated
unfoldable pub negated : ℕ → ℤ
negated zero = pos 0
negated (suc n) = negsuc n

-- "It gives the number of entries, or the refusal's number negated"
unfoldable pub answer_code : ℕ → Answer → ℤ
answer_code n (Ok done) = pos n
answer_code n (Err r) = negated (refusal_number r)

unfoldable pub host_listed : Sheet → List ℕ → ℕ → ℕ → ℤ
host_listed s langs p bytes = answer_code (start_number s p) (host_answer s langs p bytes)

-- the buffer's bytes afterwards: later ones stay, and a refusal writes nothing
unfoldable pub host_buffered : Sheet → List ℕ → ℕ → List ℕ → List ℕ
host_buffered s langs p buffer = buffered_by buffer (bytes_of (start_tracks s p)) (host_answer s langs p (length buffer))
