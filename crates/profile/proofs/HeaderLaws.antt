-- A rule that has the header as its place: its record and section are the first, so where it is the first broken rule the verdict is that
-- rule at the header. Rule 33 comes before all others. Assumes nothing.
use Prim.Native.Nat.{ℕ, suc}
use mathlib.Core.Path.{◌≡◌, refl, ap, ◌∙◌}
use mathlib.Core.Bool.{Bool, true, false, cond, not}
use mathlib.Core.List.{List}
use lib.Dec.{ltb}
use Rattle.sheet.specs.Words.{Sheet}
use Rattle.profile.specs.declared.Verdict.TheVariants.{Accepted, Broken}
use Rattle.profile.specs.declared.Place.TheVariants.{Header}
use Rattle.profile.specs.Counting.{lowest, lowest_from}
use Rattle.profile.specs.Languages.{is_rising}
use Rattle.profile.specs.Rules.{rule33}
use Rattle.profile.specs.Verdict.{rules, rule_count, rule_at, number_at, breaks, subject_kind, subjects, broken_record, section_broken, broken_section, rule_broken, broken_position, broken_at, place_at, verdict}

-- the lowest number that has p is 0 where 0 has it, and 1 where 1 has it and 0 has not
lowest_first : (p : ℕ → Bool) (n : ℕ) → p 0 ≡ true → lowest p (suc n) ≡ 0
unfolding lowest lowest_from
lowest_first p n e = rw e refl

pub lowest_second : (p : ℕ → Bool) (n : ℕ) → p 0 ≡ false → p 1 ≡ true → lowest p (suc (suc n)) ≡ 1
unfolding lowest lowest_from
lowest_second p n e f = rw (e, f) refl

-- a rule with the header as its place, which is broken
module _ (s : Sheet) (langs : List ℕ) (rule : ℕ) (one_subject : subjects s rule 0 ≡ 1) (header : breaks s langs rule 0 0 ≡ true) where
  first_record : broken_record s langs rule 0 ≡ 0
  unfolding broken_record
  first_record = rw one_subject (lowest_first (breaks s langs rule 0) 0 header)

  header_section : section_broken s langs rule 0 ≡ true
  unfolding section_broken
  header_section = rw (first_record, one_subject) refl

  first_section : broken_section s langs rule ≡ 0
  unfolding broken_section
  first_section = lowest_first (section_broken s langs rule) 7 header_section

  pub rule_broken_lem : rule_broken s langs rule ≡ true
  unfolding rule_broken
  rule_broken_lem = rw first_section refl

  pub placed : broken_at s langs rule ≡ Broken rule Header
  unfolding broken_at place_at
  placed =
      ap (λ (section : ℕ). Broken rule (place_at section (broken_record s langs rule section))) first_section
      ∙ ap (λ (k : ℕ). Broken rule (place_at 0 k)) first_record

-- the verdict by the position that the search finds
pub found_verdict_at : (s : Sheet) (langs : List ℕ) (i : ℕ) → broken_position s langs ≡ i → verdict s langs ≡ cond (ltb i rule_count) (broken_at s langs (number_at i)) Accepted
unfolding verdict
found_verdict_at s langs i e = ap (λ (j : ℕ). cond (ltb j rule_count) (broken_at s langs (number_at j)) Accepted) e

-- rule 33 is the first of all
module _ (s : Sheet) (langs : List ℕ) where
  list_subject : subjects s 33 0 ≡ 1
  unfolding subjects subject_kind
  list_subject = refl

  -- the list does not rise
  module _ (falls : is_rising langs ≡ false) where
    list_broken : breaks s langs 33 0 0 ≡ true
    unfolding breaks rule33
    list_broken = ap not falls

    list_number : rule_broken s langs (number_at 0) ≡ true
    unfolding number_at rule_at rules
    list_number = rule_broken_lem s langs 33 list_subject list_broken

    list_position : broken_position s langs ≡ 0
    unfolding broken_position rule_count rules
    list_position = lowest_first (λ i. rule_broken s langs (number_at i)) 24 list_number

    list_known : cond (ltb 0 rule_count) (broken_at s langs (number_at 0)) Accepted ≡ broken_at s langs 33
    unfolding rule_count number_at rule_at rules
    list_known = refl

    pub not_rising : verdict s langs ≡ Broken 33 Header
    not_rising = found_verdict_at s langs 0 list_position ∙ list_known ∙ placed s langs 33 list_subject list_broken
