-- The theorems that are promised of an input of bytes (document 02, L5). That the verdict is `input_verdict`, and what is written for it, is in
-- the contracts (src/reading.rt, src/answer.rt). Assumes nothing.
use Prim.Native.Nat.{ℕ, ◌%◌}
use mathlib.Core.Path.{◌≡◌, refl}
use mathlib.Core.Bool.{true}
use mathlib.Core.List.{List, ◌∷◌}
use borrow.Author.Tests.{ne_eqb}
use lib.ListN.{length}
use Rattle.std.specs.Prelude.{Some}
use Rattle.frames.specs.Blocks.{blocks, is_unfinished}
use Rattle.frames.specs.Conformance.{frame_verdict, conformance}
use Rattle.frameinput.specs.FrameInput.{number, numbers, bytes_verdict, input_verdict}
use Rattle.frameinput.proofs.NumberLaws.{numbers_number, none_left_over}

-- Where no bytes are left over behind the last number, the verdict on an input is the conformance of its numbers.
pub whole_numbers_get_their_conformance : (a b c d : ℕ) (bytes : List ℕ) → length bytes % 4 ≡ 0
    → input_verdict (a ∷ b ∷ c ∷ d ∷ bytes) ≡ Some (conformance (number a b c d) (numbers bytes))
unfolding input_verdict bytes_verdict conformance is_unfinished
whole_numbers_get_their_conformance a b c d bytes w = rw (numbers_number bytes, none_left_over (length bytes) w) refl

-- Bytes left over behind the last block make it unfinished.
pub bytes_left_over_are_an_unfinished_block : (a b c d : ℕ) (bytes : List ℕ) → (length bytes % 12 ≡ 0 → ⊥)
    → input_verdict (a ∷ b ∷ c ∷ d ∷ bytes) ≡ Some (frame_verdict (number a b c d) (blocks (numbers bytes)) true)
unfolding input_verdict bytes_verdict
bytes_left_over_are_an_unfinished_block a b c d bytes n = rw (ne_eqb (length bytes % 12) 0 n) refl
