-- A program reads no more than 65,536 bytes of its input and 131,074 bytes of its list of languages: what follows them does not change the
-- line. "33, tested before rule 1 with the header as its place, the lent list isn't strictly rising"; "1. The header: the sheet is [..] over
-- 65,534 bytes". Assumes nothing.
use Prim.Native.Nat.{ℕ, ◌≤◌, ◌<◌}
use mathlib.Core.Path.{◌≡◌, refl, sym, ap, ◌∙◌}
use mathlib.Core.Bool.{true, false, cond}
use mathlib.Core.List.{List}
use native.Mathlib.Omega.{arith}
use borrow.Author.Tests.{lt-ltb, ltb-true, ltb-false}
use lib.Dec.{ltb}
use lib.ListN.{length, get_or, get_or-eq_default, take}
use lib.Seq.{length-take-le}
use Rattle.std.proofs.lemmas.List.{get_or-take}
use Rattle.sheet.specs.Words.{Sheet, words, sheet_of}
use Rattle.profile.specs.declared.Verdict.TheVariants.{Accepted, Broken}
use Rattle.profile.specs.declared.Place.TheVariants.{Header}
use Rattle.profile.specs.Counting.{any}
use Rattle.profile.specs.Languages.{is_rising}
use Rattle.profile.specs.Rules.{rule1, rule33}
use Rattle.profile.specs.Verdict.{rules, rule_count, rule_at, number_at, breaks, subject_kind, subjects, rule_broken, broken_position, broken_at, verdict}
use Rattle.profile.proofs.BoolLaws.{or_true}
use Rattle.profile.proofs.HeaderLaws.{found_verdict_at, lowest_second, not_rising, placed, rule_broken_lem}
use Rattle.profile.proofs.RisingLaws.{too_many}
use Rattle.profile.proofs.VerdictLaws.{rule_kept}
use Rattle.checker.specs.Checked.{checked}
use Rattle.verdicts.specs.VerdictLine.{verdict_line}

module _ (s : Sheet) (langs : List ℕ) where
  -- it rises, and the sheet is too long
  module _ (rises : is_rising langs ≡ true) (long : 65534 < s.bytes) where
    no_list : any (λ section. any (breaks s langs 33 section) (subjects s 33 section)) 8 ≡ false
    unfolding any breaks subjects subject_kind rule33
    no_list = rw rises refl

    list_kept : rule_broken s langs (number_at 0) ≡ false
    unfolding number_at rule_at rules
    list_kept = rule_kept s langs 33 no_list

    rule_1 : rule1 s 0 0 ≡ true
    unfolding rule1
    rule_1 = rw (lt-ltb 65534 s.bytes long, or_true (ltb s.bytes 32)) refl

    long_subject : subjects s 1 0 ≡ 1
    unfolding subjects subject_kind
    long_subject = refl

    long_broken : breaks s langs 1 0 0 ≡ true
    unfolding breaks
    long_broken = rule_1

    long_number : rule_broken s langs (number_at 1) ≡ true
    unfolding number_at rule_at rules
    long_number = rule_broken_lem s langs 1 long_subject long_broken

    long_position : broken_position s langs ≡ 1
    unfolding broken_position rule_count rules
    long_position = lowest_second (λ i. rule_broken s langs (number_at i)) 23 list_kept long_number

    long_known : cond (ltb 1 rule_count) (broken_at s langs (number_at 1)) Accepted ≡ broken_at s langs 1
    unfolding rule_count number_at rule_at rules
    long_known = refl

    pub too_long : verdict s langs ≡ Broken 1 Header
    too_long = found_verdict_at s langs 1 long_position ∙ long_known ∙ placed s langs 1 long_subject long_broken

-- two sheets that are too long have one verdict under every list
pub both_long : (s t : Sheet) (langs : List ℕ) → 65534 < s.bytes → 65534 < t.bytes → verdict s langs ≡ verdict t langs
both_long s t langs h l =
    (elim (is_rising langs) as (λ b. is_rising langs ≡ b → verdict s langs ≡ verdict t langs) [
      | true ↦ λ e. too_long s langs e h ∙ sym (too_long t langs e l)
      | false ↦ λ e. not_rising s langs e ∙ sym (not_rising t langs e)
    ]) refl

-- the bytes of a part of a list are bytes too
bytes_taken : (n : ℕ) (bytes : List ℕ) → n ≤ length bytes → ((i : ℕ) → get_or bytes i 0 < 256) → (i : ℕ) → get_or (take n bytes) i 0 < 256
bytes_taken n bytes l h i =
    (elim (ltb i n) as (λ b. ltb i n ≡ b → get_or (take n bytes) i 0 < 256) [
      | true ↦ λ e. rw (get_or-take n bytes i 0 (ltb-true _ _ e)) (h i)
      | false ↦ λ e. rw (get_or-eq_default (take n bytes) 0 {n = i} (omega (arith, length-take-le n bytes l, ltb-false _ _ e))) (omega arith)
    ]) refl

-- two lists of so many bytes: under both every sheet has the verdict of rule 33
pub cut_list : (s : Sheet) (langs : List ℕ) → ((i : ℕ) → get_or langs i 0 < 256) → 131074 ≤ length langs → verdict s (words (take 131074 langs)) ≡ verdict s (words langs)
cut_list s langs h l =
    let cut = length-take-le 131074 langs l in
    not_rising s (words (take 131074 langs)) (too_many (take 131074 langs) (bytes_taken 131074 langs l h) (omega (arith, cut)))
    ∙ sym (not_rising s (words langs) (too_many langs h l))

-- the line of an input is that of as much of it as the buffer holds, whatever the list
pub cut_input : (sheet langs : List ℕ) → 65536 ≤ length sheet → verdict_line (checked (take 65536 sheet) langs) ≡ verdict_line (checked sheet langs)
unfolding checked sheet_of
cut_input sheet langs h =
    let cut = length-take-le 65536 sheet h in
    ap verdict_line (both_long (sheet_of (take 65536 sheet)) (sheet_of sheet) (words langs) (omega (arith, cut)) (omega arith))

-- and the line under a list is that under as much of it as the buffer holds, whatever the sheet
pub cut_langs : (sheet langs : List ℕ) → ((i : ℕ) → get_or langs i 0 < 256) → 131074 ≤ length langs → verdict_line (checked sheet (take 131074 langs)) ≡ verdict_line (checked sheet langs)
unfolding checked
cut_langs sheet langs h l = ap verdict_line (cut_list (sheet_of sheet) langs h l)
