-- What is written for an input is the answers to its lines, however it is cut into reads. Assumes nothing.
use Prim.Native.Nat.{ℕ}
use mathlib.Core.Path.{◌≡◌, refl, sym, ap, ◌∙◌}
use mathlib.Core.Bool.{Bool, true, false, cond}
use mathlib.Core.List.{List, [], ◌∷◌, ◌++◌, map, append_assoc, append-nil}
use native.Mathlib.Omega.{arith}
use borrow.Author.Tests.{eq-eqb, ne_eqb}
use lib.Dec.{eqb}
use Rattle.text.specs.Bytes.{join}
use Rattle.text.specs.Lines.{lines_from}
use Rattle.text.specs.Buffer.{Buffer, buffer, put_byte, kept}
use Rattle.factorlines.specs.FactorLines.{factor_line}
use Rattle.factorlines.specs.Reading.{Reading, reading, after_byte, after_read, last_answer, written_for}
use Rattle.text.proofs.KeptLaws.{Holds, holds_none, holds_more, count_none, count_some}
use Rattle.factorlines.proofs.KeptLaws.{kept_answer}

-- the answers to the lines of a text, of whose first line l was read
abbrev answers : List ℕ → List ℕ → List ℕ
answers l s = join (map factor_line (lines_from l s))

-- at the end of the input
last_answered : (line : Buffer) (l : List ℕ) → Holds line l → last_answer line ≡ answers l []
unfolding last_answer lines_from join
last_answered line [] h = rw (eq-eqb line.count 0 (count_none line h)) refl
last_answered line (b ∷ l) h =
    let some = count_some line b l h in
    rw (ne_eqb line.count 0 (λ e. let z : line.count ≡ 0 = e in omega (arith, some, z)), kept_answer line (b ∷ l) h) (sym (append-nil (factor_line (b ∷ l))))

-- what is written for a read and those behind it
abbrev output : Reading → List ℕ → List (List ℕ) → List ℕ
output r s reads = (after_read r s).answers ++ written_for (after_read r s).line reads

-- a byte, which ends the line or is one more of it
module _ (reads : List (List ℕ)) (s : List ℕ)
    (rest : (line : Buffer) (l x : List ℕ) → Holds line l → output (reading line x) s reads ≡ x ++ answers l (s ++ join reads)) where
  byte : (t : Bool) (b : ℕ) (line : Buffer) (l x : List ℕ) → Holds line l
      → output (cond t (reading (buffer line.bytes 0) (x ++ factor_line (kept line))) (reading (put_byte line b) x)) s reads
      ≡ x ++ join (map factor_line (cond t (l ∷ lines_from [] (s ++ join reads)) (lines_from (l ++ (b ∷ [])) (s ++ join reads))))
  unfolding join
  byte true b line l x h =
      rest (buffer line.bytes 0) [] (x ++ factor_line (kept line)) (holds_none line.bytes h.room)
      ∙ rw (kept_answer line l h) (append_assoc x (factor_line l) (answers [] (s ++ join reads)))
  byte false b line l x h = rest (put_byte line b) (l ++ (b ∷ [])) x (holds_more line l b h)

-- a read
module _ (reads : List (List ℕ)) (behind : (line : Buffer) (l : List ℕ) → Holds line l → written_for line reads ≡ answers l (join reads)) where
  read_answered : (s : List ℕ) (line : Buffer) (l x : List ℕ) → Holds line l → output (reading line x) s reads ≡ x ++ answers l (s ++ join reads)
  unfolding after_read after_byte lines_from
  read_answered [] line l x h = ap (λ t. x ++ t) (behind line l h)
  read_answered (b ∷ s) line l x h = byte reads s (read_answered s) (eqb b 10) b line l x h

-- all reads
pub input_answered : (reads : List (List ℕ)) (line : Buffer) (l : List ℕ) → Holds line l → written_for line reads ≡ answers l (join reads)
unfolding written_for join
input_answered [] line l h = last_answered line l h
input_answered (s ∷ reads) line l h = read_answered reads (input_answered reads) s line l [] h
