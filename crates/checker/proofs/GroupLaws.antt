-- Rules 21 and 22 by the pass over the programmes. Assumes nothing.
use Prim.Native.Nat.{ℕ, suc, ◌<◌, ◌≤◌}
use mathlib.Core.Path.{◌≡◌, refl, sym, ap, ◌∙◌}
use mathlib.Core.Bool.{Bool, false, not, true, true≢false, ◌&&◌}
use mathlib.Core.List.{List}
use borrow.Author.Tests.{eq-eqb, eqb-false}
use native.Mathlib.Omega.{arith}
use lib.Dec.{eqb, ltb}
use lib.ListN.{length, get_or}
use Rattle.sheet.specs.Words.{Sheet}
use Rattle.sheet.specs.Layout.{count, number}
use Rattle.sheet.specs.Fields.{complement_list, programmes, objects, value_sets}
use Rattle.profile.specs.Counting.{any, how_many}
use Rattle.profile.specs.Relations.{has_set, included, includes, leader, member, members, wholly_included}
use Rattle.profile.specs.Rules.{rule11, rule19, rule21, rule22}
use Rattle.profile.specs.Verdict.{breaks, broken_record, broken_section, rule_broken, section_broken, section_count, subject_kind, subjects}
use Rattle.profile.proofs.CountingLaws.{finds, how_many_le}
use Rattle.profile.proofs.GroupLaws.{any_witness}
use Rattle.profile.proofs.SumLaws.{any_nowhere}
use Rattle.tables.specs.steps.Right.{Spanned, counted}
use Rattle.tables.proofs.TableLaws.{counted_one}
use Rattle.grouping.specs.steps.Groups.{GroupsApart, OneSpan}
use Rattle.checker.specs.steps.Kept.{KeptBelow, Unbroken}

-- each set is counted once
pub sets_once : (s : Sheet) (t : List ℕ) → Spanned s t → ((v : ℕ) → v < count s value_sets → (v < length t) × (get_or t v 0 ≡ 1)) → OneSpan s
unfolding rule11
sets_once s t right each =
    any_nowhere (rule11 s value_sets) (count s value_sets)
    (λ v l. ap not (sym (counted_one (how_many (λ o. has_set s o v) (count s objects))) ∙ eq-eqb (counted (how_many (λ o. has_set s o v) (count s objects))) 1 (sym (right v (each v l).0) ∙ (each v l).1)))

-- the rules by their numbers; they are about programmes only
pub unbroken_21 : (s : Sheet) (langs : List ℕ) (section k : ℕ) → ((p : ℕ) → p < k → rule21 s programmes p ≡ false) → Unbroken s langs 21 section k
unfolding breaks rule21
unbroken_21 s langs section k kept = kept

pub unbroken_22 : (s : Sheet) (langs : List ℕ) (section k : ℕ) → KeptBelow s k → Unbroken s langs 22 section k
unfolding breaks rule22
unbroken_22 s langs section k kept p l = (kept p l).2 refl

-- an object that breaks rule 19
broken_19 : (s : Sheet) (langs : List ℕ) (k : ℕ) → k < count s objects → rule19 s objects k ≡ true → section_broken s langs 19 objects ≡ true
unfolding section_broken broken_record subjects subject_kind breaks
broken_19 s langs k l e = finds (rule19 s objects) (count s objects) k l e

-- where there is none, no two groups have a member in common
pub groups_apart : (s : Sheet) (langs : List ℕ) → rule_broken s langs 19 ≡ false → GroupsApart s
unfolding rule_broken broken_section
groups_apart s langs kept =
    (elim (any (rule19 s objects) (count s objects)) as (λ b. any (rule19 s objects) (count s objects) ≡ b → b ≡ false) [
      | true ↦ λ h.
          let w = any_witness (rule19 s objects) (count s objects) h in
          absurd (true≢false (sym (finds (section_broken s langs 19) section_count objects (omega arith) (broken_19 s langs w.0 w.1 w.2)) ∙ kept))
      | false ↦ λ h. refl
    ]) refl

-- a test that fails makes the whole fail
and_nothing : (b : Bool) → (b && false) ≡ false
and_nothing true = refl
and_nothing false = refl

-- of two members one or all
one_or_all : (m i : ℕ) → m ≤ 1 → i ≤ suc m → (ltb 0 m && not (eqb i 0) && not (eqb i 1) && not (eqb i (suc m))) ≡ false
one_or_all m i few most =
    (elim (eqb i (suc m)) as (λ b. eqb i (suc m) ≡ b → (ltb 0 m && not (eqb i 0) && not (eqb i 1) && not b) ≡ false) [
      | true ↦ λ e. and_nothing (ltb 0 m && not (eqb i 0) && not (eqb i 1))
      | false ↦ λ e. (elim (eqb i 0) as (λ a. eqb i 0 ≡ a → (ltb 0 m && not a && not (eqb i 1) && true) ≡ false) [
        | true ↦ λ z. rw (and_nothing (ltb 0 m)) refl
        | false ↦ λ z. let one : i ≡ 1 = omega (arith, few, most, eqb-false i (suc m) e, eqb-false i 0 z) in rw (eq-eqb i 1 one, and_nothing (ltb 0 m && true)) refl
      ]) refl
    ]) refl

-- groups of at most two keep rule 21
pub pairs_kept : (s : Sheet) (p : ℕ) → ((l : ℕ) → l < count s objects → number s objects l complement_list ≤ 1) → rule21 s programmes p ≡ false
unfolding rule21 leader wholly_included included members
pairs_kept s p few =
    any_nowhere (λ l. leader s l && not (eqb (included s p l) 0) && not (eqb (included s p l) 1) && not (wholly_included s p l)) (count s objects)
    (λ l h. one_or_all (number s objects l complement_list) (included s p l) (few l h) (how_many_le (λ i. includes s p (member s l i)) (suc (number s objects l complement_list))))
