-- The verdict is acceptance exactly when no rule is broken at any place, and otherwise the first broken rule with its place. Both
-- follow from the laws of the search alone. Assumes nothing.
use Prim.Native.Nat.{ℕ, zero, suc, ◌<◌, ◌≤◌}
use mathlib.Core.Path.{◌≡◌, refl, sym, ap, ◌∙◌}
use mathlib.Core.Bool.{Bool, true, false, true≢false, ◌&&◌}
use mathlib.Core.Logic.{⊎_elim}
use mathlib.Core.List.{List, [], ◌∷◌}
use native.Mathlib.Omega.{arith}
use lib.Dec.{eqb, ltb, leb}
use lib.ListN.{length, get_or, get_or-eq_default}
use borrow.Author.Tests.{eqb-true, leb-true, ltb-false, ltb-true}
use Rattle.sheet.specs.Words.{Sheet}
use Rattle.sheet.specs.Layout.{count}
use Rattle.profile.specs.declared.Place.{Place}
use Rattle.profile.specs.declared.Verdict.{Verdict}
use Rattle.profile.specs.declared.Verdict.TheVariants.{Accepted, Broken}
use Rattle.profile.specs.Counting.{any, every, lowest, lowest_from}
use Rattle.profile.specs.Verdict.{section_of, record_of, place_at, Rule, section_count, rules, rule_count, rule_at, number_at, position, breaks, subject_kind, subjects, broken_record, section_broken, broken_section, rule_broken, broken_position, broken_at, verdict}
use Rattle.profile.specs.FirstBroken.{BrokenAt, Earlier, FirstBroken}
use Rattle.profile.proofs.PlaceLaws.{place_back}
use Rattle.profile.proofs.CountingLaws.{any_none, found, nothing, finds, finds_none, lowest_before, lowest_holds, lowest_le}
use Rattle.profile.proofs.BoolLaws.{and_both}
use Rattle.profile.proofs.ListLaws.{every_at}

module _ (s : Sheet) (langs : List ℕ) where
  -- a section below the one found has nothing that breaks the rule
  lower_section : (rule section k : ℕ) → section < broken_section s langs rule → k < subjects s rule section → breaks s langs rule section k ≡ false
  unfolding broken_section section_broken broken_record
  lower_section rule section k l m = nothing (breaks s langs rule section) (subjects s rule section) (lowest_before (section_broken s langs rule) section_count section l) k m

  -- a record below the one found does not break the rule
  lower_record : (rule section k : ℕ) → k < broken_record s langs rule section → breaks s langs rule section k ≡ false
  unfolding broken_record
  lower_record rule section k l = lowest_before (breaks s langs rule section) (subjects s rule section) k l

  -- a rule at a lower position than the one found is not broken
  lower_rule : (i : ℕ) → i < broken_position s langs → rule_broken s langs (number_at i) ≡ false
  unfolding broken_position
  lower_rule i l = lowest_before (λ j. rule_broken s langs (number_at j)) rule_count i l

  -- the search over the rules has found nothing
  no_rule : ltb (broken_position s langs) rule_count ≡ false → (i : ℕ) → i < rule_count → rule_broken s langs (number_at i) ≡ false
  unfolding broken_position
  no_rule e i l = nothing (λ j. rule_broken s langs (number_at j)) rule_count e i l

-- what holds and does not hold
clash : {b : Bool} → b ≡ true → b ≡ false → ⊥
clash e f = true≢false (sym e ∙ f)

-- Tests over the whole list of rules, and past its end. No two rules have one number
numbers_apart : every (λ i. eqb (position (number_at i)) i) rule_count ≡ true
unfolding every position lowest lowest_from number_at rule_at rule_count rules
numbers_apart = refl

-- a row has no more entries than there are sections, and its entry for the header is 0 or 1
rows_short : every (λ i. leb (length (rule_at i).subject_kinds) section_count && leb (get_or (rule_at i).subject_kinds 0 0) 1) (suc rule_count) ≡ true
unfolding every rule_at rule_count rules
rows_short = refl

pub position_number : (i : ℕ) → i < rule_count → position (number_at i) ≡ i
position_number i l = eqb-true _ _ (every_at (λ j. eqb (position (number_at j)) j) rule_count i numbers_apart l)

pub number_position : (rule : ℕ) → position rule < rule_count → number_at (position rule) ≡ rule
unfolding position
number_position rule l = eqb-true _ _ (lowest_holds (λ i. eqb (number_at i) rule) rule_count l)

position_most : (rule : ℕ) → position rule ≤ rule_count
unfolding position
position_most rule = lowest_le (λ i. eqb (number_at i) rule) rule_count

-- the row of a rule, or the one past the end
row_short : (rule : ℕ) → (length (rule_at (position rule)).subject_kinds ≤ section_count) × (get_or (rule_at (position rule)).subject_kinds 0 0 ≤ 1)
row_short rule =
    let p = and_both _ _ (every_at (λ i. leb (length (rule_at i).subject_kinds) section_count && leb (get_or (rule_at i).subject_kinds 0 0) 1) (suc rule_count) (position rule) rows_short (omega (arith, position_most rule))) in
    (leb-true _ _ p.0, leb-true _ _ p.1)

-- a section of which a rule has no subjects
no_subjects : (s : Sheet) (rule section k : ℕ) → subject_kind rule section ≡ 0 → k < subjects s rule section → ⊥
unfolding subjects
no_subjects s rule section k e l = let z : k < 0 = rw e at l in omega (arith, z)

module _ (s : Sheet) (rule section k : ℕ) (l : k < subjects s rule section) where
  -- where there is a subject there is such a rule
  pub known_rule : position rule < rule_count
  unfolding subject_kind rule_at
  known_rule =
      (elim (ltb (position rule) rule_count) as (λ b. ltb (position rule) rule_count ≡ b → position rule < rule_count) [
        | true ↦ λ e. ltb-true _ _ e
        | false ↦ λ e. absurd (no_subjects s rule section k (ap (λ (r : Rule). get_or r.subject_kinds section 0) (get_or-eq_default rules _ {n = position rule} (unfold rule_count in ltb-false _ _ e))) l)
      ]) refl

  -- and such a section
  pub known_section : section < section_count
  unfolding subject_kind
  known_section =
      (elim (ltb section section_count) as (λ b. ltb section section_count ≡ b → section < section_count) [
        | true ↦ λ e. ltb-true _ _ e
        | false ↦ λ e. absurd (no_subjects s rule section k (get_or-eq_default (rule_at (position rule)).subject_kinds 0 {n = section} (omega (arith, (row_short rule).0, ltb-false section section_count e))) l)
      ]) refl

-- where something breaks the rule, the search over sections finds it
broken_somewhere : (s : Sheet) (langs : List ℕ) (rule section k : ℕ) → BrokenAt s langs rule section k → rule_broken s langs rule ≡ true
unfolding rule_broken broken_section
broken_somewhere s langs rule section k b =
    finds (section_broken s langs rule) section_count section (known_section s rule section k b.subject)
    (unfold section_broken broken_record in finds (breaks s langs rule section) (subjects s rule section) k b.subject b.broken)

header_subjects : (s : Sheet) (rule : ℕ) → subjects s rule 0 ≤ 1
unfolding subjects subject_kind
header_subjects s rule = few _ (row_short rule).1
  where
    few : (n : ℕ) → n ≤ 1 → get_or (0 ∷ 1 ∷ count s 0 ∷ []) n 0 ≤ 1
    few zero h = omega arith
    few (suc zero) h = omega arith
    few (suc (suc n)) h = absurd (omega arith)

module _ (s : Sheet) (langs : List ℕ) (e : ltb (broken_position s langs) rule_count ≡ true) where
  abbrev rule : ℕ
  rule = number_at (broken_position s langs)

  abbrev section : ℕ
  section = broken_section s langs rule

  abbrev k : ℕ
  k = broken_record s langs rule section

  rule_found : rule_broken s langs rule ≡ true
  unfolding broken_position
  rule_found = found (λ j. rule_broken s langs (number_at j)) rule_count e

  section_found : section_broken s langs rule section ≡ true
  unfolding rule_broken broken_section
  section_found = found (section_broken s langs rule) section_count rule_found

  record_found : breaks s langs rule section k ≡ true
  unfolding section_broken broken_record
  record_found = found (breaks s langs rule section) (subjects s rule section) section_found

  found_here : BrokenAt s langs rule section k
  unfolding section_broken
  found_here = record { subject = ltb-true k (subjects s rule section) section_found; broken = record_found }

  nothing_earlier : (rule' section' k' : ℕ) → Earlier rule' section' k' rule section k → BrokenAt s langs rule' section' k' → ⊥
  nothing_earlier rule' section' k' earlier b =
      ⊎_elim
      (λ l.
      let h : position rule' < broken_position s langs = omega (arith, l, position_number (broken_position s langs) (ltb-true (broken_position s langs) rule_count e)) in
      let q : number_at (position rule') ≡ rule' = number_position rule' (known_rule s rule' section' k' b.subject) in
      clash (broken_somewhere s langs rule' section' k' b) (rw q at (lower_rule s langs (position rule') h)))
      (λ same.
      ⊎_elim
      (λ l. clash b.broken (lower_section s langs rule' section' k' (rw (sym same.0) at l) b.subject))
      (λ both. clash b.broken (lower_record s langs rule' section' k' (rw (sym both.0, sym same.0) at both.1)))
      same.1)
      earlier

  -- what the three searches find is the first broken place
  first_found : FirstBroken s langs rule section k
  first_found = record { here = found_here; nothing_earlier = nothing_earlier }

-- the verdict by what the search over the rules gives
verdict_found : (s : Sheet) (langs : List ℕ) → ltb (broken_position s langs) rule_count ≡ true → verdict s langs ≡ broken_at s langs (number_at (broken_position s langs))
unfolding verdict
verdict_found s langs e = rw e

verdict_nothing : (s : Sheet) (langs : List ℕ) → ltb (broken_position s langs) rule_count ≡ false → verdict s langs ≡ Accepted
unfolding verdict
verdict_nothing s langs e = rw e

-- a verdict is not both
accepted≢broken : (v : Verdict) (rule : ℕ) (place : Place) → v ≡ Accepted → v ≡ Broken rule place → ⊥
accepted≢broken v rule place e f = let z : ◌≡◌ {A = ℕ} 0 1 = cc in omega arith

-- a rule that no record breaks
pub rule_kept : (s : Sheet) (langs : List ℕ) (rule : ℕ) → any (λ section. any (breaks s langs rule section) (subjects s rule section)) section_count ≡ false → rule_broken s langs rule ≡ false
unfolding rule_broken broken_section
rule_kept s langs rule e =
    finds_none (section_broken s langs rule) section_count
    (λ section l.
    let each = any_none (λ j. any (breaks s langs rule j) (subjects s rule j)) section_count e section l in
    unfold section_broken broken_record in finds_none (breaks s langs rule section) (subjects s rule section) (any_none (breaks s langs rule section) (subjects s rule section) each))

-- no rule of the list is broken: accepted
pub kept_accepted : (s : Sheet) (langs : List ℕ) → any (λ i. rule_broken s langs (number_at i)) rule_count ≡ false → verdict s langs ≡ Accepted
kept_accepted s langs kept = verdict_nothing s langs (unfold broken_position in finds_none (λ i. rule_broken s langs (number_at i)) rule_count (any_none (λ i. rule_broken s langs (number_at i)) rule_count kept))

-- accepted: no rule is broken at any place
pub accepted_none : (s : Sheet) (langs : List ℕ) → verdict s langs ≡ Accepted → (rule section k : ℕ) → BrokenAt s langs rule section k → ⊥
unfolding broken_at
accepted_none s langs e rule section k b =
    (elim (ltb (broken_position s langs) rule_count) as (λ t. ltb (broken_position s langs) rule_count ≡ t → ⊥) [
      | true ↦ λ f. accepted≢broken (verdict s langs) _ _ e (verdict_found s langs f)
      | false ↦ λ f.
          let h = known_rule s rule section k b.subject in
          clash (broken_somewhere s langs rule section k b) (rw (number_position rule h) at (no_rule s langs f (position rule) h))
    ]) refl

-- no rule is broken at any place: accepted
pub none_accepted : (s : Sheet) (langs : List ℕ) → ((rule section k : ℕ) → BrokenAt s langs rule section k → ⊥) → verdict s langs ≡ Accepted
none_accepted s langs none =
    (elim (ltb (broken_position s langs) rule_count) as (λ t. ltb (broken_position s langs) rule_count ≡ t → verdict s langs ≡ Accepted) [
      | true ↦ λ f. absurd (none _ _ _ (found_here s langs f))
      | false ↦ λ f. verdict_nothing s langs f
    ]) refl

-- the place found has the section and the record that were found
found_place : (s : Sheet) (langs : List ℕ) (e : ltb (broken_position s langs) rule_count ≡ true)
    → (section_of (place_at (section s langs e) (k s langs e)) ≡ section s langs e) × (record_of (place_at (section s langs e) (k s langs e)) ≡ k s langs e)
found_place s langs e =
    let l = (found_here s langs e).subject in
    place_back (section s langs e) (k s langs e) (known_section s (rule s langs e) (section s langs e) (k s langs e) l)
    (λ z.
    let few : subjects s (rule s langs e) (section s langs e) ≤ 1 = rw z (header_subjects s (rule s langs e)) in
    omega (arith, few, l))

-- so where it is the place of a verdict
found_verdict : (s : Sheet) (langs : List ℕ) (rule : ℕ) (place : Place) (f : ltb (broken_position s langs) rule_count ≡ true) → broken_at s langs (number_at (broken_position s langs)) ≡ Broken rule place
    → FirstBroken s langs rule (section_of place) (record_of place)
unfolding broken_at
found_verdict s langs rule place f h =
    let q : number_at (broken_position s langs) ≡ rule = cc in
    let p : place_at (section s langs f) (k s langs f) ≡ place = cc in
    rw (← q, ← p, (found_place s langs f).0, (found_place s langs f).1) (first_found s langs f)

-- broken: that rule is broken at that place, and nothing earlier is
pub broken_first : (s : Sheet) (langs : List ℕ) (rule : ℕ) (place : Place) → verdict s langs ≡ Broken rule place → FirstBroken s langs rule (section_of place) (record_of place)
broken_first s langs rule place e =
    (elim (ltb (broken_position s langs) rule_count) as (λ t. ltb (broken_position s langs) rule_count ≡ t → FirstBroken s langs rule (section_of place) (record_of place)) [
      | true ↦ λ f. found_verdict s langs rule place f (sym (verdict_found s langs f) ∙ e)
      | false ↦ λ f. absurd (accepted≢broken (verdict s langs) rule place (verdict_nothing s langs f) e)
    ]) refl
