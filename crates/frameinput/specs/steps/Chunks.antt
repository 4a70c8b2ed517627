-- A block as three numbers of four bytes each. Assumes nothing.
use Rattle.std.specs.Prelude.{ℕ, List, map}
use Rattle.std.specs.Int.{from_be_bytes, w32}
use Rattle.frames.specs.declared.Block.{Block}
use Rattle.frames.specs.Blocks.{block_of}

abbrev pub block_from : List (List ℕ) → Block
block_from three = block_of (map (from_be_bytes w32) three)
