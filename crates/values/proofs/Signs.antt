-- A signed 16-bit number and its bits, for what is handed on. Assumes nothing.
use mathlib.Core.Path.{◌≡◌, refl}
use mathlib.Core.Bool.{true, false, cond}
use Prim.Native.Nat.{ℕ, ◌-◌, ◌<◌}
use native.Mathlib.Omega.{arith}
use borrow.Author.Tests.{ltb-true, ltb-false}
use lib.Dec.{ltb}
use lib.IntN.{ℤ, pos, negsuc}
use lib.Signed.{mag}
use mir.Syntax.{w16}
use mir.Val.{to_z, of_z}
use mir.Facts.{to_z-of_z}
use Rattle.values.specs.Signed.{signed_of}

-- a number that fits is handed on as it is
pub held : (z : ℤ) → mag z < 32768 → to_z w16 (of_z w16 z) ≡ z
held z h = to_z-of_z {w = w16} (record { sfits = h })

-- the number of a word fits
pub kept : (w : ℕ) → w < 65536 → to_z w16 (of_z w16 (signed_of w)) ≡ signed_of w
unfolding signed_of
kept w h =
    held (signed_of w)
    ((elim (ltb w 32768) as (λ t. ltb w 32768 ≡ t → mag (cond t (pos w) (negsuc (65535 - w))) < 32768) [
      | true ↦ λ e. omega (arith, ltb-true)
      | false ↦ λ e. omega (arith, ltb-false)
    ]) refl)
