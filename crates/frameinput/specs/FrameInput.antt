-- A frame as bytes, as the program `framecheck` reads it: numbers of 32 bits, high byte first, the frame length and then three to a block. Document
-- 02, L5: "All are unsigned numbers of 32 bits, three to a block [..]. Errors: in this order, 35, an initialising block not first; 36, a bad
-- length or start, or an unfinished last block". Assumes nothing.
use Rattle.std.specs.Prelude.{ℕ, ◌%◌, ◌≡◌, refl, not, List, [], ◌∷◌, map, eqb, length, Option, Some, None, Result, Err, ⊤}
use Rattle.std.specs.Int.{from_be_bytes, w32}
use Rattle.frames.specs.declared.FrameError.{FrameError}
use Rattle.frames.specs.declared.FrameError.TheVariants.{BadBlock, BadTotal}
use Rattle.frames.specs.Blocks.{blocks, counted_length, total}
use Rattle.frames.specs.Conformance.{initialising_not_first, legal_length, legal_start, is_bad, some_bad, bad_block, no_block, bad_total, accepted, first_error, frame_verdict}

-- the number of four bytes, high byte first
abbrev pub number : ℕ → ℕ → ℕ → ℕ → ℕ
number a b c d = from_be_bytes w32 (a ∷ b ∷ c ∷ d ∷ [])

-- the whole numbers of bytes: bytes that are no whole number finish no block
unfoldable pub numbers : List ℕ → List ℕ
numbers (a ∷ b ∷ c ∷ d ∷ bytes) = number a b c d ∷ numbers bytes
numbers (a ∷ b ∷ c ∷ []) = []
numbers (a ∷ b ∷ []) = []
numbers (a ∷ []) = []
numbers [] = []

-- the verdict on a frame length and the bytes behind it: where bytes are left over behind the last block's twelve, "an unfinished last block"
unfoldable pub bytes_verdict : ℕ → List ℕ → Result ⊤ FrameError
bytes_verdict frame bytes = frame_verdict frame (blocks (numbers bytes)) (not (eqb (length bytes % 12) 0))

-- the verdict on an input; none where it has no frame length
unfoldable pub input_verdict : List ℕ → Option (Result ⊤ FrameError)
input_verdict (a ∷ b ∷ c ∷ d ∷ bytes) = Some (bytes_verdict (number a b c d) bytes)
input_verdict (a ∷ b ∷ c ∷ []) = None
input_verdict (a ∷ b ∷ []) = None
input_verdict (a ∷ []) = None
input_verdict [] = None

-- some inputs with their verdicts, computed
pub record Case : Type 0 where
  pub bytes : List ℕ
  pub verdict : Option (Result ⊤ FrameError)

abbrev case : List ℕ → Option (Result ⊤ FrameError) → Case
case bs v = record { bytes = bs; verdict = v }

abbrev pub cases : List Case
cases =
    case [] None
    ∷ case (0 ∷ 0 ∷ 78 ∷ []) None
    -- a frame length of 20,000 alone, and with a byte behind it
    ∷ case (0 ∷ 0 ∷ 78 ∷ 32 ∷ []) (Some (Err BadTotal))
    ∷ case (0 ∷ 0 ∷ 78 ∷ 32 ∷ 0 ∷ []) (Some (Err BadBlock))
    -- a block of that length, and behind it a byte, and two numbers and three bytes
    ∷ case (0 ∷ 0 ∷ 78 ∷ 32 ∷ 0 ∷ 0 ∷ 0 ∷ 0 ∷ 0 ∷ 0 ∷ 78 ∷ 32 ∷ 0 ∷ 0 ∷ 0 ∷ 0 ∷ []) (Some accepted)
    ∷ case (0 ∷ 0 ∷ 78 ∷ 32 ∷ 0 ∷ 0 ∷ 0 ∷ 0 ∷ 0 ∷ 0 ∷ 78 ∷ 32 ∷ 0 ∷ 0 ∷ 0 ∷ 0 ∷ 0 ∷ []) (Some (Err BadBlock))
    ∷ case (0 ∷ 0 ∷ 78 ∷ 32 ∷ 0 ∷ 0 ∷ 0 ∷ 0 ∷ 0 ∷ 0 ∷ 78 ∷ 32 ∷ 0 ∷ 0 ∷ 0 ∷ 0 ∷ 0 ∷ 0 ∷ 78 ∷ 32 ∷ 0 ∷ 0 ∷ 0 ∷ 0 ∷ 1 ∷ 0 ∷ 0 ∷ []) (Some (Err BadBlock))
    ∷ []

pub cases_hold : map (λ (c : Case). input_verdict c.bytes) cases ≡ map (λ (c : Case). c.verdict) cases
unfolding numbers bytes_verdict input_verdict blocks counted_length total initialising_not_first legal_length legal_start is_bad some_bad bad_block no_block bad_total first_error frame_verdict
cases_hold = refl
