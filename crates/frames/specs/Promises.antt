-- What conformance is held to, beside its definition. Document 02, L5. Assumes nothing.
use Rattle.std.specs.Prelude.{ℕ, ◌+◌, ◌*◌, ◌/◌, ◌≤◌, ◌≡◌, true, false, ◌&&◌, not, cond, eqb, List, [], ◌∷◌, ◌++◌, length, count_by, ◌⊎◌}
use Rattle.std.specs.List.{list_any}
use Rattle.frames.specs.declared.Block.{Block}
use Rattle.frames.specs.Blocks.{blocks, total}

-- document 02's sentences about the numbers of one channel, one by one; b is any block, behind those before it
pub record Conforms (frame : ℕ) (ns : List ℕ) : Type 0 where
  -- no "unfinished last block"
  pub finished : length ns ≡ 3 * length (blocks ns)
  -- "An initialising block stands first"
  pub initialising_first : (before after : List Block) (b : Block) → blocks ns ≡ before ++ b ∷ after → b.initialising ≡ true → before ≡ []
  -- "each other length is 0 or at least 5,000"
  pub lengths_legal : (before after : List Block) (b : Block) → blocks ns ≡ before ++ b ∷ after → b.initialising ≡ false → (b.length ≡ 0) ⊎ (5000 ≤ b.length)
  -- "each start is the sum of earlier lengths"
  pub starts_add_up : (before after : List Block) (b : Block) → blocks ns ≡ before ++ b ∷ after → b.initialising ≡ false → b.start ≡ total before
  -- not "no block at all (Table 20)"
  pub some_block : 1 ≤ length (blocks ns)
  -- "the lengths add up to the frame"
  pub lengths_add_up : total (blocks ns) ≡ frame

-- "1 if it has an initialising block"
unfoldable pub initialising_present : List Block → ℕ
initialising_present bs = cond (list_any (λ (b : Block). b.initialising) bs) 1 0

-- "the number of zero lengths": an initialising block's length is not read, so that it is none of them
unfoldable pub zero_lengths : List Block → ℕ
zero_lengths bs = count_by (λ (b : Block). not b.initialising && eqb b.length 0) bs

-- "the frame length divided by 5,000, rounded down, plus 1 if it has an initialising block, plus the number of zero lengths"
abbrev pub most_blocks : ℕ → List Block → ℕ
most_blocks frame bs = frame / 5000 + initialising_present bs + zero_lengths bs
