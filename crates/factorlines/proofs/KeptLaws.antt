-- The answer to a line, by what its buffer has of it. Assumes nothing.
use Prim.Native.Nat.{ℕ}
use mathlib.Core.Path.{◌≡◌, ap}
use mathlib.Core.List.{List}
use Rattle.text.specs.Buffer.{Buffer, kept}
use Rattle.text.proofs.KeptLaws.{Holds, kept_says}
use Rattle.factorlines.specs.FactorLines.{factor_answer, factor_of, factor_line}

pub kept_answer : (b : Buffer) (l : List ℕ) → Holds b l → factor_line (kept b) ≡ factor_line l
unfolding factor_line
kept_answer b l h = ap (λ s. factor_answer (factor_of s)) (kept_says b l h)
