-- A word's number is written as that word again. Assumes nothing.
use mathlib.Core.Path.{◌≡◌, refl}
use mathlib.Core.Bool.{true, false, cond}
use Prim.Native.Nat.{ℕ, ◌<◌, ◌-◌}
use native.Mathlib.Omega.{arith}
use lib.Dec.{ltb}
use lib.IntN.{pos, negsuc}
use Rattle.values.specs.Signed.{signed_of, word_of}

-- the word of a word's number
pub word_of_signed : (w : ℕ) → w < 65536 → word_of (signed_of w) ≡ w
unfolding signed_of word_of
word_of_signed w h =
    elim (ltb w 32768) as (λ t. word_of (cond t (pos w) (negsuc (65535 - w))) ≡ w) [
      | true ↦ refl
      | false ↦ omega arith
    ]
