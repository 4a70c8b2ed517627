-- Nothing exceeds a limit. Assumes nothing.
use Prim.Native.Nat.{ℕ}
use mathlib.Core.Path.{◌≡◌}
use mathlib.Core.Bool.{false, not}
use Rattle.std.proofs.Math.Bool.{and-false}
use native.Mathlib.Omega.{arith}
use lib.Dec.{eqb}
use borrow.Author.Tests.{le-ltb}
use Rattle.sheet.specs.Words.{Sheet}
use Rattle.sheet.specs.Layout.{level}
use Rattle.profile.specs.Limits.{exceeds, limit}

-- no list of no entries does
pub no_excess : (s : Sheet) (column : ℕ) → exceeds s column 0 ≡ false
unfolding exceeds
no_excess s column = rw (le-ltb (limit (level s) column) 0 (omega arith)) (and-false (not (eqb (level s) 0)))
