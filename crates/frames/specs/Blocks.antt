-- The blocks of one channel in a live frame. Document 02, L5: "Given a frame length and the blocks of one channel in microseconds (start, length,
-- initialising or not) [..]. All are unsigned numbers of 32 bits, three to a block, the third 0 if it isn't initialising and any other if it
-- is." Assumes nothing.
use Rattle.std.specs.Prelude.{ℕ, ◌%◌, Bool, not, List, [], ◌∷◌, cond, eqb, length, get_or, sum_by}
use Rattle.frames.specs.declared.Block.{Block}

-- the block of three numbers: "the third 0 if it isn't initialising and any other if it is"
abbrev pub block : ℕ → ℕ → ℕ → Block
block start len third = record { start = start; length = len; initialising = not (eqb third 0) }

-- the same of three numbers in a list
abbrev pub block_of : List ℕ → Block
block_of ns = block (get_or ns 0 0) (get_or ns 1 0) (get_or ns 2 0)

-- "three to a block": the whole blocks of a list of numbers
unfoldable pub blocks : List ℕ → List Block
blocks (start ∷ len ∷ third ∷ ns) = block start len third ∷ blocks ns
blocks (start ∷ len ∷ []) = []
blocks (start ∷ []) = []
blocks [] = []

-- "an unfinished last block": numbers are left over
unfoldable pub is_unfinished : List ℕ → Bool
is_unfinished ns = not (eqb (length ns % 3) 0)

-- "it is ignored in all sums"
unfoldable pub counted_length : Block → ℕ
counted_length b = cond b.initialising 0 b.length

-- "Sums are exact here."
unfoldable pub total : List Block → ℕ
total bs = sum_by counted_length bs
