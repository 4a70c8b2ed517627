-- An input that comes in reads of any length. The line that is being read is kept in a buffer of 257 bytes, by which one of more than 256 is
-- known. That what is written is `factor_lines` of the whole input, however it is cut into reads, is `whole_input` (proofs/Theorems.antt).
-- Assumes nothing.
use Rattle.std.specs.Prelude.{ℕ, cond, List, [], ◌∷◌, ◌++◌, eqb}
use Rattle.text.specs.Buffer.{Buffer, buffer, kept, put_byte}
use Rattle.factorlines.specs.FactorLines.{factor_line}

-- the line that is being read, and the answers to the lines before it
pub record Reading : Type 0 where
  pub line : Buffer
  pub answers : List ℕ

abbrev pub reading : Buffer → List ℕ → Reading
reading line answers = record { line = line; answers = answers }

-- a newline, which is 10, ends the line, and it is answered; another byte is one more of the line
unfoldable pub after_byte : Reading → ℕ → Reading
after_byte r b = cond (eqb b 10) (reading (buffer r.line.bytes 0) (r.answers ++ factor_line (kept r.line))) (reading (put_byte r.line b) r.answers)

unfoldable pub after_read : Reading → List ℕ → Reading
after_read r [] = r
after_read r (b ∷ s) = after_read (after_byte r b) s

-- at the end of the input a line without a newline is answered, unless it is empty
unfoldable pub last_answer : Buffer → List ℕ
last_answer line = cond (eqb line.count 0) [] (factor_line (kept line))

-- what is written for an input that comes in these reads
unfoldable pub written_for : Buffer → List (List ℕ) → List ℕ
written_for line [] = last_answer line
written_for line (s ∷ reads) = (after_read (reading line []) s).answers ++ written_for (after_read (reading line []) s).line reads

-- what is written for an input from here on, where the line was begun
abbrev pub answers_from : Buffer → List ℕ → List ℕ
answers_from line input = written_for line (input ∷ [])
