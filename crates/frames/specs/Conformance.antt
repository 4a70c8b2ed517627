-- Conformance of the blocks of one channel to Table 23 of source document 004. Document 02, L5: "An initialising block stands first, its start and
-- length are not read, and it is ignored in all sums; each other length is 0 or at least 5,000; each start is the sum of earlier lengths; the
-- lengths add up to the frame. [..] Errors: in this order, 35, an initialising block not first; 36, a bad length or start, or an unfinished
-- last block; 37, no block at all (Table 20) or a total unlike the frame." Assumes nothing.
use Rattle.std.specs.Prelude.{ℕ, Bool, true, false, not, ◌&&◌, ◌||◌, List, [], ◌∷◌, ◌++◌, cond, eqb, leb, drop, Result, Ok, Err, ⊤}
use Rattle.std.specs.List.{list_any}
use Rattle.frames.specs.declared.Block.{Block}
use Rattle.frames.specs.declared.FrameError.{FrameError}
use Rattle.frames.specs.declared.FrameError.TheVariants.{InitialisingNotFirst, BadBlock, BadTotal}
use Rattle.frames.specs.Blocks.{blocks, is_unfinished, total}

-- "35, an initialising block not first"
unfoldable pub initialising_not_first : List Block → Bool
initialising_not_first bs = list_any (λ (b : Block). b.initialising) (drop 1 bs)

-- "each other length is 0 or at least 5,000"
unfoldable pub legal_length : ℕ → Bool
legal_length n = eqb n 0 || leb 5000 n

-- "each start is the sum of earlier lengths": of a block behind these
unfoldable pub legal_start : List Block → ℕ → Bool
legal_start before n = eqb n (total before)

-- "a bad length or start": an initialising block's "start and length are not read"
unfoldable pub is_bad : List Block → Block → Bool
is_bad before b = not b.initialising && not (legal_length b.length && legal_start before b.start)

-- whether one of these, which stand behind those before, is bad
unfoldable pub some_bad : List Block → List Block → Bool
some_bad before [] = false
some_bad before (b ∷ bs) = is_bad before b || some_bad (before ++ b ∷ []) bs

-- "36, a bad length or start, or an unfinished last block"
unfoldable pub bad_block : List Block → Bool → Bool
bad_block bs unfinished = some_bad [] bs || unfinished

-- "no block at all (Table 20)"
unfoldable pub no_block : List Block → Bool
no_block [] = true
no_block (b ∷ bs) = false

-- "37, no block at all (Table 20) or a total unlike the frame"
unfoldable pub bad_total : ℕ → List Block → Bool
bad_total frame bs = no_block bs || not (eqb (total bs) frame)

-- none of the three
abbrev pub accepted : Result ⊤ FrameError
accepted = Ok tt

-- "in this order": the first that holds
unfoldable pub first_error : Bool → Bool → Bool → Result ⊤ FrameError
first_error holds35 holds36 holds37 = cond holds35 (Err InitialisingNotFirst) (cond holds36 (Err BadBlock) (cond holds37 (Err BadTotal) accepted))

unfoldable pub frame_verdict : ℕ → List Block → Bool → Result ⊤ FrameError
frame_verdict frame bs unfinished = first_error (initialising_not_first bs) (bad_block bs unfinished) (bad_total frame bs)

-- of a frame length and the numbers of a channel
unfoldable pub conformance : ℕ → List ℕ → Result ⊤ FrameError
conformance frame ns = frame_verdict frame (blocks ns) (is_unfinished ns)

-- document 02's numbers
abbrev pub error_number : FrameError → ℕ
error_number InitialisingNotFirst = 35
error_number BadBlock = 36
error_number BadTotal = 37
