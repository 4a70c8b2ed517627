-- Reads that are answered one behind the other. Assumes nothing.
use Prim.Native.Nat.{ℕ, ◌+◌, ◌-◌, ◌<◌}
use mathlib.Core.Path.{◌≡◌, refl, sym, ap, ◌∙◌, subst}
use mathlib.Core.List.{List, [], ◌∷◌, ◌++◌, append_assoc}
use native.Mathlib.Omega.{arith}
use borrow.Author.Tests.{le-leb}
use lib.ListN.{length, get_or, take}
use lib.Seq.{take-append_seam}
use Rattle.std.proofs.lemmas.List.{take_more}
use Rattle.std.specs.Prelude.{Option, Some, None}
use Rattle.std.specs.Io.KnownBytes.{Appends, Consumes, IsAtEnd}
use Rattle.std.proofs.KnownBytes.{Appends-nil, Appends-trans, Consumes-nil, Consumes-trans}
use Rattle.text.specs.Lines.{part}
use Rattle.text.specs.Buffer.{filled, TextFilled}
use Rattle.text.specs.Answering.{AnsweredRead, AnsweredInput}

-- so much was read and written, and with the answers to what is still to come it answers both
pub record Answered {A : Type 0} (answers : A → List ℕ → List ℕ) (start now : A) (input left before after : Option (List ℕ)) : Type 0 where
  pub read : List ℕ
  pub written : List ℕ
  pub consumed : Consumes input left read
  pub appended : Appends before after written
  pub answered : (rest : List ℕ) → answers start (read ++ rest) ≡ written ++ answers now rest

pub none_answered : {A : Type 0} (answers : A → List ℕ → List ℕ) (start : A) (input before : Option (List ℕ)) → Answered answers start start input input before before
none_answered answers start input before =
    record { read = []; written = []; consumed = Consumes-nil input; appended = Appends-nil before; answered = λ rest. refl }

module _ {A : Type 0} (answers : A → List ℕ → List ℕ) (start now : A) (input left before after : Option (List ℕ)) (a : Answered answers start now input left before after) where
  -- a read more
  pub read_answered : (next : A) (behind written : Option (List ℕ)) (read : List ℕ) → Consumes left behind read → AnsweredRead answers now next read after written
      → Answered answers start next input behind before written
  read_answered next behind written read c r = record {
    read = a.read ++ read;
    written = a.written ++ r.0;
    consumed = Consumes-trans input left behind a.read read a.consumed c;
    appended = Appends-trans before after written a.written r.0 a.appended r.1;
    answered = λ rest.
        ap (answers start) (append_assoc a.read read rest) ∙ a.answered (read ++ rest) ∙ ap (λ t. a.written ++ t) (r.2 rest) ∙ sym (append_assoc a.written r.0 (answers next rest));
  }

-- at the end of the input
pub input_answered : {A : Type 0} (answers : A → List ℕ → List ℕ) (start now : A) (input left before after last : Option (List ℕ))
    → Answered answers start now input left before after → IsAtEnd left → Appends after last (answers now []) → AnsweredInput (answers start) input before last
input_answered answers start now None left before after last a e p = tt
input_answered answers start now (Some bytes) None before after last a e p = absurd a.consumed
input_answered answers start now (Some bytes) (Some more) before after last a e p =
    let all : bytes ≡ a.read ++ [] = a.consumed ∙ ap (λ t. a.read ++ t) e in
    subst (Appends before last) (sym (ap (answers start) all ∙ a.answered [])) (Appends-trans before after last a.written (answers now []) a.appended p)

-- a read that is answered byte by byte
pub no_byte_answered : {A : Type 0} (answers : A → List ℕ → List ℕ) (start : A) (read : List ℕ) (before : Option (List ℕ)) → AnsweredRead answers start start (take 0 read) before before
no_byte_answered answers start read before = ([], Appends-nil before, λ rest. refl)

pub byte_answered : {A : Type 0} (answers : A → List ℕ → List ℕ) (start now next : A) (read : List ℕ) (i : ℕ) (before after written : Option (List ℕ)) → i < length read
    → AnsweredRead answers start now (take i read) before after → AnsweredRead answers now next (get_or read i 0 ∷ []) after written → AnsweredRead answers start next (take (i + 1) read) before written
byte_answered answers start now next read i before after written h a b = (
  a.0 ++ b.0,
  Appends-trans before after written a.0 b.0 a.1 b.1,
  λ rest.
      let e : take (i + 1) read ++ rest ≡ take i read ++ (get_or read i 0 ∷ rest) = rw (take_more read i 0 h) (append_assoc (take i read) (get_or read i 0 ∷ []) rest) in
      ap (answers start) e ∙ a.2 (get_or read i 0 ∷ rest) ∙ ap (λ t. a.0 ++ t) (b.2 rest) ∙ sym (append_assoc a.0 b.0 (answers next rest)),
)

-- the bytes of a buffer that a text fills
pub filled_bytes : (before text after : List ℕ) (n : ℕ) → TextFilled before text n after → take n after ≡ text
unfolding filled
filled_bytes before text after n t = rw (t.written, t.number) (take-append_seam text _)

pub filled_part : (before text after : List ℕ) (n : ℕ) → TextFilled before text n after → part after 0 n ≡ text
unfolding part
filled_part before text after n t =
    let z : n - 0 ≡ n = omega arith in
    rw (le-leb 0 n (omega arith), le-leb n (length after) t.counts.0, z) (filled_bytes before text after n t)

-- writing them writes the text
pub filled_written : (before text after : List ℕ) (n : ℕ) (old new : Option (List ℕ)) → TextFilled before text n after → Appends old new (take n after) → Appends old new text
filled_written before text after n old new t a = subst (Appends old new) (filled_bytes before text after n t) a

pub part_written : (before text after bytes : List ℕ) (n : ℕ) (old new : Option (List ℕ)) → TextFilled before text n after → bytes ≡ part after 0 n → Appends old new bytes → Appends old new text
part_written before text after bytes n old new t e a = subst (Appends old new) (e ∙ filled_part before text after n t) a
