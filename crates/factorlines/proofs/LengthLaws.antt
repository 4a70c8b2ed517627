-- How long the answers are: those to a read have room. Assumes nothing.
use Prim.Native.Nat.{ℕ, ◌+◌, ◌*◌, ◌≤◌}
use mathlib.Core.Bool.{true, false, cond}
use mathlib.Core.List.{List, [], ◌∷◌, ◌++◌}
use native.Mathlib.Omega.{arith}
use lib.Dec.{eqb}
use lib.ListN.{length, length-append}
use Rattle.std.specs.Prelude.{Option, Some, None, Result, Ok, Err}
use Rattle.values.specs.declared.Gain.{Gain}
use Rattle.factors.specs.declared.FactorRefusal.{FactorRefusal}
use Rattle.factors.specs.declared.FactorRefusal.TheVariants.{FactorTooHigh}
use Rattle.factors.specs.Conversion.{conversion}
use Rattle.text.specs.Decimal.{decimal, spelled}
use Rattle.text.specs.Lines.{said}
use Rattle.text.specs.Buffer.{buffer, put_byte, kept}
use Rattle.text.proofs.DecimalLaws.{gain_fits_lem}
use Rattle.factorlines.specs.FactorLines.{conversion_text, factor_answer, factor_of, factor_line}
use Rattle.factorlines.specs.Reading.{Reading, reading, after_byte, after_read}

conversion_fits : (c : Result Gain FactorRefusal) → length (conversion_text c) ≤ 21
unfolding conversion_text decimal spelled
conversion_fits (Ok g) = gain_fits_lem g
conversion_fits (Err FactorTooHigh) = omega arith

answer_fits : (f : Option ℕ) → length (factor_answer f) ≤ 22
unfolding factor_answer
answer_fits None = omega arith
answer_fits (Some f) = simp length-append (omega (arith, conversion_fits (conversion f)))

pub line_fits : (line : List ℕ) → length (factor_line line) ≤ 22
unfolding factor_line
line_fits line = answer_fits (factor_of (said line))

byte_fits : (r : Reading) (b : ℕ) → length (after_byte r b).answers ≤ length r.answers + 22
unfolding after_byte
byte_fits r b =
    elim (eqb b 10) as (λ t. length (cond t (reading (buffer r.line.bytes 0) (r.answers ++ factor_line (kept r.line))) (reading (put_byte r.line b) r.answers)).answers ≤ length r.answers + 22) [
      | true ↦ simp length-append (omega (arith, line_fits (kept r.line)))
      | false ↦ omega arith
    ]

pub read_fits : (r : Reading) (s : List ℕ) → length (after_read r s).answers ≤ length r.answers + 22 * length s
unfolding after_read
read_fits r [] = omega arith
read_fits r (b ∷ s) = omega (arith, read_fits (after_byte r b) s, byte_fits r b)
