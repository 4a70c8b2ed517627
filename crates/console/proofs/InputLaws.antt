-- What is written for an input is the answers to its lines. Assumes nothing.
use Prim.Native.Nat.{ℕ, suc, ◌+◌, ◌-◌, ◌≤◌, ◌<◌}
use mathlib.Core.Path.{◌≡◌, refl, sym, ap, ◌∙◌, subst}
use mathlib.Core.Bool.{Bool, true, false, cond, not}
use mathlib.Core.List.{List, [], ◌∷◌, ◌++◌, append_assoc, append-nil}
use native.Mathlib.Omega.{arith}
use borrow.Author.Tests.{eq-eqb, ne_eqb, eqb-true}
use Rattle.std.proofs.lemmas.Bool.{le-leb}
use Rattle.std.proofs.lemmas.List.{get_or-drop, take_more}
use Rattle.std.proofs.Math.Seq.{take-add}
use lib.Seq.{take_all}
use lib.Dec.{eqb}
use lib.ListN.{length, take, drop, get_or, length-drop}
use Rattle.std.specs.Prelude.{Option, Some, None}
use Rattle.std.specs.List.{position_or_len}
use Rattle.std.proofs.lemmas.List.Sums.{prefix_len-le-length}
use Rattle.std.specs.Io.KnownBytes.{Appends}
use Rattle.std.proofs.KnownBytes.{Appends-nil, Appends-trans}
use Rattle.sheet.specs.Words.{Sheet, sheet_of, words}
use Rattle.listener.specs.declared.State.{State}
use Rattle.listener.specs.Calls.{opened}
use Rattle.text.specs.Answering.{AnsweredInput, AnsweredRead}
use Rattle.text.specs.Lines.{part, line_end, said, lines, lines_from}
use Rattle.text.specs.Buffer as put
use Rattle.text.specs.Buffer.{Buffer, buffer, kept, put_byte, put_text, written}
use Rattle.text.proofs.KeptLaws.{Holds, holds_none, holds_more, count_none, count_some, kept_says}
use Rattle.console.specs.Commands.{command_of}
use Rattle.console.specs.Answers.{answer_line}
use Rattle.console.specs.declared.input.Bench.{Bench}
use Rattle.console.specs.Bench.{Turn, answer_to, state_after, answered_line, answered_part, answered_byte, answers_from, lines_answered, bench_text}

module _ (s : Sheet) (langs : List ℕ) where
  -- a line that is whole, by what its buffer has of it
  whole : (st : State) (line : Buffer) (l : List ℕ) (rest : List (List ℕ)) → Holds line l → let t = answered_line s langs st line true in
      t.answer ++ lines_answered s langs t.state rest ≡ lines_answered s langs st (l ∷ rest)
  unfolding answered_line lines_answered
  whole st line l rest h = rw (kept_says line l h) refl

  -- at the end of the input
  last : (st : State) (line : Buffer) (l : List ℕ) → Holds line l → answers_from s langs st line [] ≡ lines_answered s langs st (lines_from l [])
  unfolding answers_from lines_from answered_line lines_answered
  last st line [] h = rw (eq-eqb line.count 0 (count_none line h), answers_from) refl
  last st line (b ∷ l) h =
      let some = count_some line b l h in
      rw (ne_eqb line.count 0 (λ e. let z : line.count ≡ 0 = e in omega (arith, some, z)), kept_says line (b ∷ l) h, answers_from) (sym (append-nil _))

  -- a byte, which ends the line or is one more of it
  module _ (input : List ℕ) (behind : (st : State) (line : Buffer) (l : List ℕ) → Holds line l → answers_from s langs st line input ≡ lines_answered s langs st (lines_from l input)) where
    byte : (t : Bool) (b : ℕ) (st : State) (line : Buffer) (l : List ℕ) → Holds line l
        → let u = cond t (answered_line s langs st line true) (answered_line s langs st (put_byte line b) false) in
        u.answer ++ answers_from s langs u.state u.line input ≡ lines_answered s langs st (cond t (l ∷ lines_from [] input) (lines_from (l ++ (b ∷ [])) input))
    unfolding answered_line lines_answered
    byte true b st line l h =
        let c = command_of (said (kept line)) in
        rw (behind (state_after s langs st c) (buffer line.bytes 0) [] (holds_none line.bytes h.room), kept_says line l h) refl
    byte false b st line l h = behind st (put_byte line b) (l ++ (b ∷ [])) (holds_more line l b h)

  -- an input
  pub input_answered : (input : List ℕ) (st : State) (line : Buffer) (l : List ℕ) → Holds line l → answers_from s langs st line input ≡ lines_answered s langs st (lines_from l input)
  unfolding answers_from answered_byte lines_from
  input_answered [] st line l h = last st line l h
  input_answered (b ∷ input) st line l h = byte input (input_answered input) (eqb b 10) b st line l h

  -- from its beginning
  pub begun_answered : (st : State) (line : Buffer) (input before after : Option (List ℕ)) → length line.bytes ≡ 257 → line.count ≡ 0
      → AnsweredInput (answers_from s langs st line) input before after → AnsweredInput (λ bytes. lines_answered s langs st (lines bytes)) input before after
  unfolding lines
  begun_answered st line None before after e n a = tt
  begun_answered st line (Some bytes) before after e n a =
      let begun : line ≡ buffer line.bytes 0 = ap (buffer line.bytes) n in
      let all : answers_from s langs st line bytes ≡ lines_answered s langs st (lines_from [] bytes) =
      ap (λ (b : Buffer). answers_from s langs st b bytes) begun ∙ input_answered bytes st (buffer line.bytes 0) [] (holds_none line.bytes e) in
      subst (Appends before after) all a

  -- behind the opening's answer
  pub opened_answered : (st : State) (input before mid after : Option (List ℕ)) → st ≡ (opened s langs).state → Appends before mid (answer_line (opened s langs).answer)
      → AnsweredInput (λ bytes. lines_answered s langs st (lines bytes)) input mid after → AnsweredInput (bench_text s langs) input before after
  unfolding bench_text
  opened_answered st None before mid after e p a = tt
  opened_answered st (Some bytes) before mid after e p a =
      rw (← e) (Appends-trans before mid after (answer_line (opened s langs).answer) (lines_answered s langs st (lines bytes)) p a)

  -- at the end of the input there is no line, or one without a newline
  module _ (st : State) (line : Buffer) (before after : Option (List ℕ)) where
    pub nothing_left : line.count ≡ 0 → Appends before before (answers_from s langs st line [])
    unfolding answers_from answered_line
    nothing_left e = rw (eq-eqb line.count 0 e, answers_from) (Appends-nil before)

    pub line_left : (line.count ≡ 0 → ⊥) → Appends before after (answered_line s langs st line true).answer → Appends before after (answers_from s langs st line [])
    unfolding answers_from
    line_left n a = rw (ne_eqb line.count 0 n, answers_from) a

-- what is written for an input from here on
abbrev pub bench_answers : Bench → List ℕ → List ℕ
bench_answers bench = answers_from (sheet_of bench.lent.sheet.now) (words bench.lent.langs.now) bench.state (written bench.line)

-- what answering the line does
abbrev pub line_turn : Bench → Turn
line_turn bench = answered_line (sheet_of bench.lent.sheet.now) (words bench.lent.langs.now) bench.state (written bench.line) true

-- a newline was read
pub newline_read : (now next : Bench) (b : ℕ) (before after : Option (List ℕ)) → b ≡ 10 → next.lent ≡ now.lent → next.state ≡ (line_turn now).state
    → written next.line ≡ (line_turn now).line → Appends before after (line_turn now).answer → AnsweredRead bench_answers now next (b ∷ []) before after
unfolding answers_from answered_byte
newline_read now next b before after n e f g a = ((line_turn now).answer, a, λ rest. rw (n, e, f, g) refl)

-- how many bytes there are before the first newline
abbrev pub line_length : List ℕ → ℕ
line_length = position_or_len (λ b. eqb b 10)

-- the bytes before it go on with the line
line_read : (s : Sheet) (langs : List ℕ) (input rest : List ℕ) (st : State) (line : Buffer)
    → answers_from s langs st line (take (line_length input) input ++ rest) ≡ answers_from s langs st (put_text line (take (line_length input) input)) rest
unfolding answers_from answered_byte answered_line put_text
line_read s langs [] rest st line = refl
line_read s langs (b ∷ input) rest st line =
    let more : 1 + line_length input ≡ suc (line_length input) = omega arith in
    (elim (eqb b 10) as (λ t. eqb b 10 ≡ t → answers_from s langs st line (take (cond (not t) (1 + line_length input) 0) (b ∷ input) ++ rest) ≡ answers_from s langs st (put_text line (take (cond (not t) (1 + line_length input) 0) (b ∷ input))) rest) [
      | true ↦ λ e. refl
      | false ↦ λ e. rw (more, e) (line_read s langs input rest st (put_byte line b))
    ]) refl

pub newline_at : (input : List ℕ) → line_length input < length input → get_or input (line_length input) 0 ≡ 10
newline_at [] = λ h. absurd (omega arith)
newline_at (b ∷ input) =
    let more : 1 + line_length input ≡ suc (line_length input) = omega arith in
    (elim (eqb b 10) as (λ t. eqb b 10 ≡ t → cond (not t) (1 + line_length input) 0 < suc (length input) → get_or (b ∷ input) (cond (not t) (1 + line_length input) 0) 0 ≡ 10) [
      | true ↦ λ e h. eqb-true b 10 e
      | false ↦ λ e h. rw more (newline_at input (omega arith))
    ]) refl

-- so much of a line was read
pub part_read : (now next : Bench) (input p : List ℕ) (before : Option (List ℕ)) → p ≡ take (line_length input) input → next.lent ≡ now.lent → next.state ≡ now.state
    → put.Appends now.line p next.line → AnsweredRead bench_answers now next p before before
part_read now next input p before c e f g =
    ([], Appends-nil before, λ rest. rw (e, f, g.bytes, c) (line_read (sheet_of now.lent.sheet.now) (words now.lent.langs.now) input rest now.state (written now.line)))

-- a byte that is no newline was read
pub byte_read : (now next : Bench) (b : ℕ) (before : Option (List ℕ)) → (b ≡ 10 → ⊥) → next.lent ≡ now.lent → next.state ≡ now.state
    → put.Appends now.line (b ∷ []) next.line → AnsweredRead bench_answers now next (b ∷ []) before before
byte_read now next b before n e f g = part_read now next (b ∷ []) (b ∷ []) before (rw (ne_eqb b 10 n) refl) e f g

-- two stretches of a read
pub both_read : (start now next : Bench) (a b : List ℕ) (before after written : Option (List ℕ))
    → AnsweredRead bench_answers start now a before after → AnsweredRead bench_answers now next b after written → AnsweredRead bench_answers start next (a ++ b) before written
both_read start now next a b before after written h k = (
  h.0 ++ k.0,
  Appends-trans before after written h.0 k.0 h.1 k.1,
  λ rest. ap (bench_answers start) (append_assoc a b rest) ∙ h.2 (b ++ rest) ∙ ap (λ t. h.0 ++ t) (k.2 rest) ∙ sym (append_assoc h.0 k.0 (bench_answers next rest)),
)

-- the part of a read that the code cuts
pub part_is : (read : List ℕ) (at : ℕ) → at ≤ length read → part read at (line_end read at) ≡ take (line_length (drop at read)) (drop at read)
unfolding part line_end
part_is read at h =
    let n = line_length (drop at read) in
    let most : n ≤ length (drop at read) = prefix_len-le-length (λ b. not (eqb b 10)) (drop at read) in
    let within : at + n ≤ length read = omega (arith, most, length-drop at read) in
    let from : at ≤ at + n = omega arith in
    let size : at + n - at ≡ n = omega arith in
    rw (le-leb at (at + n) from, le-leb (at + n) (length read) within, size) refl

-- where it ends
line_ends : (read : List ℕ) (at : ℕ) → line_end read at ≡ at + line_length (drop at read)
unfolding line_end
line_ends read at = refl

-- a read, up to the end of the line that begins at a place of it
module _ (start now mid : Bench) (read p : List ℕ) (at end : ℕ) (before out : Option (List ℕ)) (within : at ≤ length read) (ends : end ≡ line_end read at) (cut : p ≡ part read at end)
    (lent : mid.lent ≡ now.lent) (state : mid.state ≡ now.state) (put : put.Appends now.line p mid.line) (done : AnsweredRead bench_answers start now (take at read) before out) where
  here : end ≡ at + line_length (drop at read)
  here = ends ∙ line_ends read at

  pub line_done : AnsweredRead bench_answers start mid (take end read) before out
  line_done =
      let some : p ≡ take (line_length (drop at read)) (drop at read) = cut ∙ rw ends (part_is read at within) in
      let all : take at read ++ p ≡ take end read = rw (some, here) (sym (take-add at (line_length (drop at read)) read)) in
      subst (λ x. AnsweredRead bench_answers start mid x before out) all
      (both_read start now mid (take at read) p before out out done (part_read now mid (drop at read) p out some lent state put))

  -- all that is left of the read
  pub rest_done : length read ≤ end → AnsweredRead bench_answers start mid read before out
  rest_done h = subst (λ x. AnsweredRead bench_answers start mid x before out) (take_all end read h) line_done

  -- with its newline
  module _ (next : Bench) (after : Option (List ℕ)) (inside : end < length read) (same_lent : next.lent ≡ mid.lent) (turned : next.state ≡ (line_turn mid).state)
      (line_after : written next.line ≡ (line_turn mid).line) (answer : Appends out after (line_turn mid).answer) where
    newline : get_or read end 0 ≡ 10
    newline =
        let left : line_length (drop at read) < length (drop at read) = omega (arith, inside, here, length-drop at read) in
        rw here (sym (get_or-drop at read (line_length (drop at read)) 0) ∙ newline_at (drop at read) left)

    pub line_ended : AnsweredRead bench_answers start next (take (end + 1) read) before after
    line_ended =
        rw (take_more read end 0 inside)
        (both_read start mid next (take end read) (get_or read end 0 ∷ []) before out after line_done (newline_read mid next (get_or read end 0) out after newline same_lent turned line_after answer))
