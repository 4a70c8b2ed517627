-- Reads one behind the other, byte by byte. Assumes nothing.
use Prim.Native.Nat.{ℕ, zero, suc, ◌+◌, ◌<◌}
use mathlib.Core.Path.{◌≡◌, refl, ap, ◌∙◌}
use mathlib.Core.List.{List, [], ◌∷◌, ◌++◌}
use native.Mathlib.Omega.{arith}
use borrow.Author.Tests.{eq-eqb, ne_eqb}
use lib.ListN.{length, get_or, take}
use Rattle.text.specs.Lines.{part}
use Rattle.text.specs.declared.writing.Text.{Text}
use Rattle.text.specs.Buffer.{put_byte, put_text, written, Appends}
use Rattle.text.proofs.BufferLaws.{appends_more, appends_none}
use Rattle.factorlines.specs.FactorLines.{factor_line}
use Rattle.factorlines.specs.Reading.{Reading, reading, after_byte, after_read}

pub read_append : (r : Reading) (a b : List ℕ) → after_read r (a ++ b) ≡ after_read (after_read r a) b
unfolding after_read
read_append r [] b = refl
read_append r (x ∷ a) b = read_append (after_byte r x) a b

-- one byte more
pub read_more : (r : Reading) (s : List ℕ) (i : ℕ) → i < length s → after_read r (take (i + 1) s) ≡ after_byte (after_read r (take i s)) (get_or s i 0)
unfolding after_read
read_more r [] i h = absurd (omega arith)
read_more r (x ∷ s) zero h = refl
read_more r (x ∷ s) (suc i) h = let e : suc i + 1 ≡ suc (i + 1) = omega arith in rw e (read_more (after_byte r x) s i (omega arith))

-- after the first i bytes: the line, in its buffer, and the answers behind what `out` has
pub record Taken (start : Reading) (s : List ℕ) (i : ℕ) (name : _) (line answers out : Text) : Type 0 where
  pub same_buffer : line.buffer.ghost_name ≡ name
  pub line_after : written line ≡ (after_read start (take i s)).line
  pub answered : Appends out (after_read start (take i s)).answers answers

pub none_taken : (start : Reading) (s : List ℕ) (line out : Text) → start ≡ reading (written line) [] → Taken start s 0 line.buffer.ghost_name line out out
unfolding after_read
none_taken start s line out e = record { same_buffer = refl; line_after = rw e refl; answered = rw e (appends_none out) }

-- one byte more is taken
module _ (start : Reading) (s : List ℕ) (i : ℕ) (name : _) (line answers out : Text) (h : i < length s) (t : Taken start s i name line answers out) where
  pub newline_taken : (none next : Text) → get_or s i 0 ≡ 10 → Appends answers (factor_line (part line.buffer.now 0 line.count)) next
      → none.buffer.ghost_name ≡ line.buffer.ghost_name → none.buffer.now ≡ line.buffer.now → none.count ≡ 0 → Taken start s (i + 1) name none next out
  unfolding after_byte
  newline_taken none next n g name bytes count = record {
    same_buffer = name ∙ t.same_buffer;
    line_after = rw (read_more start s i h, eq-eqb (get_or s i 0) 10 n, ← t.line_after, bytes, count) refl;
    answered = rw (read_more start s i h, eq-eqb (get_or s i 0) 10 n, ← t.line_after) (appends_more _ _ _ _ _ t.answered g);
  }

  pub byte_taken : (more : Text) → (get_or s i 0 ≡ 10 → ⊥) → Appends line (get_or s i 0 ∷ []) more → Taken start s (i + 1) name more answers out
  unfolding after_byte put_text
  byte_taken more n g = record {
    same_buffer = g.same_buffer ∙ t.same_buffer;
    line_after = rw (read_more start s i h, ne_eqb (get_or s i 0) 10 n) (g.bytes ∙ ap (λ b. put_byte b (get_or s i 0)) t.line_after);
    answered = rw (read_more start s i h, ne_eqb (get_or s i 0) 10 n) t.answered;
  }
