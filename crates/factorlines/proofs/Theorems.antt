-- What the program `gaintenths` writes, however its input comes. Assumes nothing.
use mathlib.Core.Path.{◌≡◌}
use mathlib.Core.List.{List, []}
use Prim.Native.Nat.{ℕ}
use lib.ListN.{length}
use Rattle.text.specs.Bytes.{join}
use Rattle.text.specs.Buffer.{buffer}
use Rattle.text.specs.Lines.{lines}
use Rattle.factorlines.specs.FactorLines.{factor_lines}
use Rattle.factorlines.specs.Reading.{written_for}
use Rattle.text.proofs.KeptLaws.{holds_none}
use Rattle.factorlines.proofs.InputLaws.{input_answered}

-- for an input that comes in any reads, into a line's buffer that has whatever bytes, the answers to its lines are written
pub whole_input : (bytes : List ℕ) → length bytes ≡ 257 → (reads : List (List ℕ)) → written_for (buffer bytes 0) reads ≡ factor_lines (join reads)
unfolding factor_lines lines
whole_input bytes e reads = input_answered reads (buffer bytes 0) [] (holds_none bytes e)
