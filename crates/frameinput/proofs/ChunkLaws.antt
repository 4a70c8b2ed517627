-- The numbers and blocks that stand in bytes, as the code cuts them. Assumes nothing.
use Prim.Native.Nat.{ℕ, suc, ◌/◌}
use mathlib.Core.Path.{◌≡◌, refl, ap, ◌∙◌}
use mathlib.Core.List.{List, [], ◌∷◌, map}
use native.Mathlib.Omega.{arith}
use lib.ListN.{length}
use Rattle.std.specs.Simd.{first_chunks}
use Rattle.std.specs.Int.{from_be_bytes, w32}
use Rattle.frames.specs.Blocks.{blocks}
use Rattle.frameinput.specs.FrameInput.{numbers}
use Rattle.frameinput.specs.steps.Chunks.{block_from}

numbers_cut : (bytes : List ℕ) → map (from_be_bytes w32) (first_chunks 4 (length bytes / 4) bytes) ≡ numbers bytes
unfolding numbers
numbers_cut [] = refl
numbers_cut (a ∷ []) = refl
numbers_cut (a ∷ b ∷ []) = refl
numbers_cut (a ∷ b ∷ c ∷ []) = refl
numbers_cut (a ∷ b ∷ c ∷ d ∷ bytes) =
    let e : suc (suc (suc (suc (length bytes)))) / 4 ≡ suc (length bytes / 4) = omega arith in
    rw e (ap (λ ns. from_be_bytes w32 (a ∷ b ∷ c ∷ d ∷ []) ∷ ns) (numbers_cut bytes))

blocks_from : (chunks : List (List ℕ)) → map block_from (first_chunks 3 (length chunks / 3) chunks) ≡ blocks (map (from_be_bytes w32) chunks)
unfolding blocks
blocks_from [] = refl
blocks_from (a ∷ []) = refl
blocks_from (a ∷ b ∷ []) = refl
blocks_from (a ∷ b ∷ c ∷ chunks) =
    let e : suc (suc (suc (length chunks))) / 3 ≡ suc (length chunks / 3) = omega arith in
    rw e (ap (λ bs. block_from (a ∷ b ∷ c ∷ []) ∷ bs) (blocks_from chunks))

pub blocks_chunked : (bytes : List ℕ) (chunks : List (List ℕ)) → chunks ≡ first_chunks 4 (length bytes / 4) bytes
    → map block_from (first_chunks 3 (length chunks / 3) chunks) ≡ blocks (numbers bytes)
blocks_chunked bytes chunks e = blocks_from chunks ∙ ap (λ l. blocks (map (from_be_bytes w32) l)) e ∙ ap blocks (numbers_cut bytes)
