-- Numbers that rise: none comes twice. Assumes nothing.
use Prim.Native.Nat.{ℕ, ◌+◌, ◌<◌, ◌≤◌}
use mathlib.Core.Path.{◌≡◌, refl, ap}
use mathlib.Core.Bool.{true, false}
use native.Mathlib.Omega.{arith}
use lib.Dec.{eqb}
use borrow.Author.Tests.{ne_eqb, eqb-true, eqb-false}
use Rattle.profile.specs.Counting.{any}
use Rattle.profile.proofs.SumLaws.{any_nowhere}

module _ (f : ℕ → ℕ) (i last : ℕ) where
  -- none of those before i is above last
  abbrev pub Below : Type 0
  Below = (j : ℕ) → j < i → f j ≤ last

  pub not_earlier : Below → last < f i → any (λ j. eqb (f j) (f i)) i ≡ false
  not_earlier below h = any_nowhere (λ j. eqb (f j) (f i)) i (λ j l. ne_eqb (f j) (f i) (λ q. let z : f j ≡ f i = q in omega (arith, below j l)))

pub below_none : (f : ℕ → ℕ) (last : ℕ) → Below f 0 last
below_none f last j l = absurd (omega arith)

pub below_more : (f : ℕ → ℕ) (i last : ℕ) → Below f i last → last < f i → Below f (i + 1) (f i)
below_more f i last below h j l =
    (elim (eqb j i) as (λ b. eqb j i ≡ b → f j ≤ f i) [
      | true ↦ λ q. let e : f j ≡ f i = ap f (eqb-true j i q) in omega (arith, e)
      | false ↦ λ q. omega (arith, h, below j (omega (arith, l, eqb-false j i q)))
    ]) refl
