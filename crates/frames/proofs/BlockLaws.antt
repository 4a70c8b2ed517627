-- The blocks of a list of numbers, as the code cuts them. Assumes nothing.
use Prim.Native.Nat.{ℕ, suc, ◌/◌}
use mathlib.Core.Path.{◌≡◌, refl, ap}
use mathlib.Core.List.{List, [], ◌∷◌, map}
use native.Mathlib.Omega.{arith}
use lib.ListN.{length}
use Rattle.std.specs.Simd.{first_chunks}
use Rattle.frames.specs.Blocks.{block_of, blocks}

pub blocks_cut : (ns : List ℕ) → map block_of (first_chunks 3 (length ns / 3) ns) ≡ blocks ns
unfolding blocks
blocks_cut [] = refl
blocks_cut (a ∷ []) = refl
blocks_cut (a ∷ b ∷ []) = refl
blocks_cut (a ∷ b ∷ c ∷ ns) =
    let e : suc (suc (suc (length ns))) / 3 ≡ suc (length ns / 3) = omega arith in rw e (ap (λ bs. block_of (a ∷ b ∷ c ∷ []) ∷ bs) (blocks_cut ns))
