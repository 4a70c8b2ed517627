-- What is written for an input from a read on. Assumes nothing.
use Prim.Native.Nat.{ℕ}
use mathlib.Core.Path.{◌≡◌, refl, sym, ap, ◌∙◌, subst}
use mathlib.Core.Bool.{Bool, true, false, cond}
use mathlib.Core.List.{List, [], ◌∷◌, ◌++◌, append_assoc, append-nil}
use lib.Dec.{eqb}
use lib.ListN.{length}
use Rattle.std.specs.Prelude.{Option, Some, None}
use Rattle.std.specs.Io.KnownBytes.{Appends}
use Rattle.text.specs.Answering.{AnsweredInput}
use Rattle.text.specs.Bytes.{join}
use Rattle.text.specs.Lines.{part}
use Rattle.text.specs.Buffer.{Buffer, buffer, put_byte, TextFilled, kept}
use Rattle.text.proofs.AnsweringLaws.{part_written}
use Rattle.factorlines.specs.FactorLines.{factor_line, factor_lines}
use Rattle.factorlines.specs.Reading.{Reading, reading, after_byte, after_read, last_answer, written_for, answers_from}
use Rattle.factorlines.proofs.ReadingLaws.{read_append}
use Rattle.factorlines.proofs.Theorems.{whole_input}

-- a reading with more answers before its own
abbrev behind : List ℕ → Reading → Reading
behind x r = reading r.line (x ++ r.answers)

-- answers stand behind those before them
byte_behind : (x : List ℕ) (b : ℕ) (r : Reading) → after_byte (behind x r) b ≡ behind x (after_byte r b)
unfolding after_byte
byte_behind x b r =
    elim (eqb b 10) as (λ t. cond t (reading (buffer r.line.bytes 0) ((x ++ r.answers) ++ factor_line (kept r.line))) (reading (put_byte r.line b) (x ++ r.answers))
    ≡ behind x (cond t (reading (buffer r.line.bytes 0) (r.answers ++ factor_line (kept r.line))) (reading (put_byte r.line b) r.answers))) [
      | true ↦ ap (reading (buffer r.line.bytes 0)) (append_assoc x r.answers (factor_line (kept r.line)))
      | false ↦ refl
    ]

read_behind : (x s : List ℕ) (r : Reading) → after_read (behind x r) s ≡ behind x (after_read r s)
unfolding after_read
read_behind x [] r = refl
read_behind x (b ∷ s) r = ap (λ (z : Reading). after_read z s) (byte_behind x b r) ∙ read_behind x s (after_byte r b)

-- a read, and what is behind it
pub read_from : (line : Buffer) (s rest : List ℕ)
    → answers_from line (s ++ rest) ≡ (after_read (reading line []) s).answers ++ answers_from (after_read (reading line []) s).line rest
unfolding written_for
read_from line s rest =
    let r = after_read (reading line []) s in
    let from : Reading = reading r.line [] in
    let e : after_read (reading line []) (s ++ rest) ≡ behind r.answers (after_read from rest) =
    read_append (reading line []) s rest ∙ ap (λ (z : Reading). after_read z rest) (ap (reading r.line) (sym (append-nil r.answers))) ∙ read_behind r.answers rest from in
    rw e (append_assoc r.answers (after_read from rest).answers (last_answer (after_read from rest).line))

-- at its end
pub last_from : (line : Buffer) → last_answer line ≡ answers_from line []
unfolding written_for after_read
last_from line = refl

-- from the beginning of an input
pub input_from : (line : Buffer) → length line.bytes ≡ 257 → line.count ≡ 0 → (input before after : Option (List ℕ))
    → AnsweredInput (answers_from line) input before after → AnsweredInput factor_lines input before after
unfolding join
input_from line e n None before after a = tt
input_from line e n (Some bytes) before after a =
    let begun : line ≡ buffer line.bytes 0 = ap (buffer line.bytes) n in
    let all : answers_from line bytes ≡ factor_lines bytes =
    ap (λ (b : Buffer). answers_from b bytes) begun ∙ whole_input line.bytes e (bytes ∷ []) ∙ ap factor_lines (append-nil bytes) in
    subst (Appends before after) all a

-- a read is answered: `AnsweredRead` of the converter, spelled out by its line
pub read_answered : (line next : Buffer) (s : List ℕ) (before after : Option (List ℕ)) → next ≡ (after_read (reading line []) s).line
    → Appends before after (after_read (reading line []) s).answers → (written : List ℕ) × Appends before after written × ((rest : List ℕ) → answers_from line (s ++ rest) ≡ written ++ answers_from next rest)
read_answered line next s before after e a = ((after_read (reading line []) s).answers, a, λ rest. rw e (read_from line s rest))

-- the end of the input is answered
pub last_answered : (line : Buffer) (before after bytes : List ℕ) (n : ℕ) (old new : Option (List ℕ)) → TextFilled before (last_answer line) n after → bytes ≡ part after 0 n
    → Appends old new bytes → Appends old new (answers_from line [])
last_answered line before after bytes n old new t e a = rw (← last_from line) (part_written before (last_answer line) after bytes n old new t e a)
