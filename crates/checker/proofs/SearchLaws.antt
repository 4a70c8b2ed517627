-- What one rule finds, what the search over the rules finds, and the tables that are lent. Assumes nothing.
use Prim.Native.Nat.{ℕ, ◌<◌, ◌≤◌}
use mathlib.Core.Path.{◌≡◌, refl, sym, ap, ◌∙◌}
use mathlib.Core.Bool.{Bool, true, false, cond}
use mathlib.Core.List.{List}
use native.Mathlib.Omega.{arith}
use borrow.Author.Tests.{lt-ltb, le-ltb}
use lib.Dec.{ltb}
use lib.ListN.{length, get_or}
use Rattle.std.proofs.Common.{Some, None}
use Rattle.std.proofs.lemmas.Option.{cond_some, none-some}
use Rattle.sheet.specs.Words.{Sheet}
use Rattle.profile.specs.declared.Place.{Place}
use Rattle.profile.specs.declared.Verdict.TheVariants.{Accepted, Broken}
use Rattle.profile.specs.Counting.{lowest, lowest_from}
use Rattle.profile.specs.Verdict.{breaks, subjects, place_at, broken_record, section_broken, broken_section, rule_broken, broken_position, broken_at, verdict, section_count, rules, rule_count, rule_at, number_at, position}
use Rattle.profile.proofs.CountingLaws.{finds_none, lowest_at, lowest_none}
use Rattle.profile.proofs.VerdictLaws.{position_number}
use Rattle.grouping.specs.steps.Groups.{GroupsApart}
use Rattle.checker.proofs.GroupLaws.{groups_apart}
use Rattle.tables.specs.declared.Naming.{Naming}
use Rattle.tables.specs.steps.Marks.{Standing, first_by}
use Rattle.checker.specs.steps.Rows.{rule_place}
use Rattle.checker.proofs.SubjectLaws.{numbered, numbers}

-- what is lent only where a test holds was not lent
pub none_lent : {A : Type 0} (b : Bool) (x : A) → cond b (Some x) None ≡ None → b ≡ false
none_lent true x e = absurd (none-some x (sym e))
none_lent false x e = refl

module _ (s : Sheet) (langs : List ℕ) where
  module _ (rule section n k : ℕ) (all : n ≡ subjects s rule section) (low : k ≡ lowest (breaks s langs rule section) n) where
    found_record : k ≡ broken_record s langs rule section
    unfolding broken_record
    found_record = low ∙ ap (lowest (breaks s langs rule section)) all

    section_by : section_broken s langs rule section ≡ ltb k n
    unfolding section_broken
    section_by = rw (← found_record, ← all) refl

    pub section_found : k < n → section_broken s langs rule section ≡ true
    section_found l = section_by ∙ lt-ltb k n l

    pub section_none : n ≤ k → section_broken s langs rule section ≡ false
    section_none l = section_by ∙ le-ltb k n l

    -- a record that breaks the rule, in the first section with one
    pub rule_found : section < section_count → ((j : ℕ) → j < section → section_broken s langs rule j ≡ false) → k < n → Some (place_at section k) ≡ rule_place s langs rule
    unfolding rule_place rule_broken broken_section
    rule_found inside before l =
        let e : lowest (section_broken s langs rule) section_count ≡ section = lowest_at (section_broken s langs rule) section_count section inside before (section_found l) in
        rw (e, lt-ltb section section_count inside, ← found_record) refl

  pub rule_none : (rule : ℕ) → ((j : ℕ) → j < section_count → section_broken s langs rule j ≡ false) → None ≡ rule_place s langs rule
  unfolding rule_place rule_broken broken_section
  rule_none rule none =
      let e : lowest (section_broken s langs rule) section_count ≡ section_count = lowest_none (section_broken s langs rule) section_count none in
      rw e refl

  -- a rule without a place is kept
  pub broken_none : (rule : ℕ) → None ≡ rule_place s langs rule → rule_broken s langs rule ≡ false
  unfolding rule_place
  broken_none rule e = none_lent _ _ (sym e)

  module _ (i : ℕ) (inside : i < rule_count) (before : (j : ℕ) → j < i → rule_broken s langs (number_at j) ≡ false) where
    pub verdict_broken : (p : Place) → Some p ≡ rule_place s langs (number_at i) → Broken (number_at i) p ≡ verdict s langs
    unfolding verdict broken_position rule_place broken_at
    verdict_broken p e =
        let b = cond_some _ _ p (sym e) in
        let l : lowest (λ j. rule_broken s langs (number_at j)) rule_count ≡ i = lowest_at (λ j. rule_broken s langs (number_at j)) rule_count i inside before b.0 in
        rw (l, lt-ltb i rule_count inside, b.1) refl

    -- when rule 21 comes, rule 19 is kept
    pub apart_before : get_or numbers i 0 ≡ 21 → GroupsApart s
    unfolding position lowest lowest_from number_at rule_at rule_count rules
    apart_before h =
        let e : number_at i ≡ 21 = sym (numbered i inside) ∙ h in
        let p : i ≡ position 21 = sym (position_number i inside) ∙ ap position e in
        groups_apart s langs (before (position 19) (omega (arith, p)))

  pub verdict_none : ((j : ℕ) → j < rule_count → rule_broken s langs (number_at j) ≡ false) → Accepted ≡ verdict s langs
  unfolding verdict broken_position
  verdict_none none = rw (finds_none (λ j. rule_broken s langs (number_at j)) rule_count none) refl

-- the first that names each, where a table had noughts
pub firsts_made : (s : Sheet) (t₀ t : List ℕ) → Standing (λ x. 0) t₀ → length t ≡ length t₀ → (kind : Naming) → Standing (λ x. first_by s kind x (get_or t₀ x 0)) t → Standing (λ x. first_by s kind x 0) t
firsts_made s t₀ t noughts e kind h x l = h x l ∙ ap (first_by s kind x) (noughts x (rw e at l))
