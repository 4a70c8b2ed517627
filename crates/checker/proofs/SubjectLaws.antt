-- The rows of the code are the rules of the list, and the subjects by their digits. Assumes nothing.
use Rattle.std.proofs.Common.{ℕ, ◌<◌, ◌≡◌, refl, sym, ap, ◌∙◌, true, false, List, [], ◌∷◌, get_or, eqb, ltb, cond, length, Option, Some, None, IfSome, is_some, option_copied, Bor, arith}
use Rattle.std.proofs.lemmas.List.{get_or_default}
use borrow.Author.Tests.{eqb-true, ltb-true}
use Rattle.sheet.specs.Words.{Sheet}
use Rattle.sheet.specs.Layout.{count}
use Rattle.profile.specs.Counting.{every}
use Rattle.profile.specs.Verdict.{section_count, rules, rule_count, rule_at, number_at, subject_kind, subjects}
use Rattle.profile.proofs.ListLaws.{every_at}
use Rattle.checker.specs.declared.SubjectKind.{SubjectKind}
use Rattle.checker.specs.declared.SubjectKind.TheVariants.{Nothing, Itself, Records}
use Rattle.checker.specs.steps.Rows.{KindsOf, kind_number, subjects_of}

-- the code's number of rules
pub rule_count_lem : rule_count ≡ 25
unfolding rule_count rules
rule_count_lem = refl

-- the code's numbers of the rules
abbrev pub numbers : List ℕ
numbers = 33 ∷ 1 ∷ 2 ∷ 3 ∷ 4 ∷ 5 ∷ 6 ∷ 7 ∷ 8 ∷ 9 ∷ 10 ∷ 11 ∷ 12 ∷ 13 ∷ 14 ∷ 15 ∷ 16 ∷ 17 ∷ 18 ∷ 19 ∷ 20 ∷ 21 ∷ 22 ∷ 23 ∷ 24 ∷ []

-- the numbers are those of the list of rules: one test over the whole list
numbers_right : every (λ i. eqb (get_or numbers i 0) (number_at i)) rule_count ≡ true
unfolding every number_at rule_at rule_count rules
numbers_right = refl

pub numbered : (i : ℕ) → i < rule_count → get_or numbers i 0 ≡ number_at i
numbered i l = eqb-true _ _ (every_at (λ j. eqb (get_or numbers j 0) (number_at j)) rule_count i numbers_right l)

-- what a read gives that asks whether the place is there
looked : (xs : List ℕ) (i : ℕ) (r : Option (Bor ℕ)) → is_some r ≡ ltb i (length xs) → IfSome r (λ x. x.now ≡ get_or xs i x.now) → option_copied r ≡ cond (ltb i (length xs)) (Some (get_or xs i 0)) None
looked xs i None e f = rw (← e) refl
looked xs i (Some x) e f = rw (← e) (ap Some (f ∙ get_or_default xs i x.now 0 (ltb-true _ _ (sym e))))

-- the rule at a position, as the code reads it
listed : (i : ℕ) → cond (ltb i 25) (Some (get_or numbers i 0)) None ≡ cond (ltb i rule_count) (Some (number_at i)) None
listed i =
    rw rule_count_lem
    ((elim (ltb i 25) as (λ b. ltb i 25 ≡ b → cond b (Some (get_or numbers i 0)) None ≡ cond b (Some (number_at i)) None) [
      | true ↦ λ e. ap Some (numbered i (omega (arith, ltb-true i 25 e, rule_count_lem)))
      | false ↦ λ e. refl
    ]) refl)

pub rule_listed : (i : ℕ) (r : Option (Bor ℕ)) → is_some r ≡ ltb i 25 → IfSome r (λ x. x.now ≡ get_or numbers i x.now) → option_copied r ≡ cond (ltb i rule_count) (Some (number_at i)) None
rule_listed i r e f = looked numbers i r e f ∙ listed i

-- kinds that are right at each section
pub kinds_right : (rule : ℕ) (kinds : List SubjectKind) → every (λ j. eqb (kind_number (get_or kinds j Nothing)) (subject_kind rule j)) section_count ≡ true → KindsOf rule kinds
kinds_right rule kinds e i l = eqb-true _ _ (every_at (λ j. eqb (kind_number (get_or kinds j Nothing)) (subject_kind rule j)) section_count i e l)

-- how many subjects a section has, by their kind
by_kind : (s : Sheet) (section : ℕ) (kind : SubjectKind) → subjects_of s section kind ≡ get_or (0 ∷ 1 ∷ count s section ∷ []) (kind_number kind) 0
unfolding subjects_of kind_number
by_kind s section Nothing = refl
by_kind s section Itself = refl
by_kind s section Records = refl

pub all_subjects : (s : Sheet) (rule : ℕ) (kinds : List SubjectKind) → KindsOf rule kinds → (section : ℕ) → section < section_count → (n : ℕ) → n ≡ subjects_of s section (get_or kinds section Nothing) → n ≡ subjects s rule section
unfolding subjects
all_subjects s rule kinds e section l n f = f ∙ by_kind s section (get_or kinds section Nothing) ∙ ap (λ (k : ℕ). get_or (0 ∷ 1 ∷ count s section ∷ []) k 0) (e section l)
