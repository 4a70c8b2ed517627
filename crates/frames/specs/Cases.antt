-- Frame lengths and numbers with their verdicts, computed. Document 02, L5. Assumes nothing.
use Rattle.std.specs.Prelude.{ℕ, ◌≡◌, refl, List, [], ◌∷◌, map, Result, Err, ⊤}
use Rattle.frames.specs.declared.FrameError.{FrameError}
use Rattle.frames.specs.declared.FrameError.TheVariants.{InitialisingNotFirst, BadBlock, BadTotal}
use Rattle.frames.specs.Blocks.{blocks, is_unfinished, counted_length, total}
use Rattle.frames.specs.Conformance.{initialising_not_first, legal_length, legal_start, is_bad, some_bad, bad_block, no_block, bad_total, accepted, first_error, frame_verdict, conformance}

pub record Case : Type 0 where
  pub frame : ℕ
  pub numbers : List ℕ
  pub verdict : Result ⊤ FrameError

abbrev case : ℕ → List ℕ → Result ⊤ FrameError → Case
case f ns v = record { frame = f; numbers = ns; verdict = v }

abbrev pub cases : List Case
cases =
    case 20000 (0 ∷ 20000 ∷ 0 ∷ []) accepted
    ∷ case 20000 (0 ∷ 5000 ∷ 0 ∷ 5000 ∷ 0 ∷ 0 ∷ 5000 ∷ 15000 ∷ 0 ∷ []) accepted
    -- zero lengths, first, between and last
    ∷ case 10000 (0 ∷ 0 ∷ 0 ∷ 0 ∷ 5000 ∷ 0 ∷ 5000 ∷ 0 ∷ 0 ∷ 5000 ∷ 5000 ∷ 0 ∷ 10000 ∷ 0 ∷ 0 ∷ []) accepted
    ∷ case 4294967295 (0 ∷ 4294962295 ∷ 0 ∷ 4294962295 ∷ 5000 ∷ 0 ∷ []) accepted
    -- an initialising block's start and length are not read and add nothing
    ∷ case 20000 (77 ∷ 4999 ∷ 1 ∷ 0 ∷ 20000 ∷ 0 ∷ []) accepted
    ∷ case 0 (77 ∷ 4999 ∷ 4294967295 ∷ []) accepted
    ∷ case 5000 (77 ∷ 5000 ∷ 1 ∷ []) (Err BadTotal)
    ∷ case 20000 (0 ∷ 7000 ∷ 1 ∷ 7000 ∷ 20000 ∷ 0 ∷ []) (Err BadBlock)
    ∷ case 27000 (0 ∷ 7000 ∷ 1 ∷ 0 ∷ 20000 ∷ 0 ∷ []) (Err BadTotal)
    -- one that is not first, also behind a bad length and before numbers left over
    ∷ case 20000 (0 ∷ 20000 ∷ 0 ∷ 0 ∷ 0 ∷ 1 ∷ []) (Err InitialisingNotFirst)
    ∷ case 20000 (0 ∷ 1 ∷ 0 ∷ 0 ∷ 0 ∷ 2 ∷ 0 ∷ []) (Err InitialisingNotFirst)
    ∷ case 20000 (0 ∷ 0 ∷ 1 ∷ 0 ∷ 20000 ∷ 0 ∷ 20000 ∷ 0 ∷ 1 ∷ []) (Err InitialisingNotFirst)
    -- lengths and starts
    ∷ case 4999 (0 ∷ 4999 ∷ 0 ∷ []) (Err BadBlock)
    ∷ case 10000 (0 ∷ 5000 ∷ 0 ∷ 10000 ∷ 5000 ∷ 0 ∷ []) (Err BadBlock)
    ∷ case 5000 (5000 ∷ 5000 ∷ 0 ∷ []) (Err BadBlock)
    -- an unfinished last block
    ∷ case 20000 (0 ∷ 20000 ∷ 0 ∷ 20000 ∷ []) (Err BadBlock)
    ∷ case 20000 (0 ∷ 20000 ∷ 0 ∷ 20000 ∷ 0 ∷ []) (Err BadBlock)
    ∷ case 0 (0 ∷ []) (Err BadBlock)
    ∷ case 0 (0 ∷ 0 ∷ []) (Err BadBlock)
    -- no block, and totals
    ∷ case 0 [] (Err BadTotal)
    ∷ case 20000 (0 ∷ 5000 ∷ 0 ∷ 5000 ∷ 14999 ∷ 0 ∷ []) (Err BadTotal)
    ∷ case 20000 (0 ∷ 20001 ∷ 0 ∷ []) (Err BadTotal)
    -- sums past 32 bits: 4,294,967,295 + 5,001 is 5,000 above 2 to the power 32
    ∷ case 5000 (0 ∷ 4294967295 ∷ 0 ∷ 4294967295 ∷ 5001 ∷ 0 ∷ []) (Err BadTotal)
    ∷ case 5000 (0 ∷ 4294967295 ∷ 0 ∷ 4294967295 ∷ 5001 ∷ 0 ∷ 5000 ∷ 0 ∷ 0 ∷ []) (Err BadBlock)
    ∷ []

pub cases_hold : map (λ (c : Case). conformance c.frame c.numbers) cases ≡ map (λ (c : Case). c.verdict) cases
unfolding blocks is_unfinished counted_length total initialising_not_first legal_length legal_start is_bad some_bad bad_block no_block bad_total first_error frame_verdict conformance
cases_hold = refl
