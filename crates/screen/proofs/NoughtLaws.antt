-- What a pass leaves in a table of noughts. Assumes nothing.
use Prim.Native.Nat.{ℕ, ◌<◌}
use mathlib.Core.Path.{◌≡◌, refl, sym, ap, ◌∙◌}
use mathlib.Core.List.{List}
use lib.ListN.{length, get_or}
use Rattle.sheet.specs.Words.{Sheet}
use Rattle.tables.specs.declared.Naming.{Naming}
use Rattle.tables.specs.declared.Naming.TheVariants.{ContentObjects, Children, SetSpans}
use Rattle.tables.specs.steps.Marks.{Standing, counted_once, repeat, named_by}
use Rattle.tables.specs.steps.Right.{counted, Named, Listed, Spanned}
use Rattle.tables.proofs.TableLaws.{namings_added, span_namings, counted_one, listed_counted}
use mathlib.Core.Bool.{true, false, not, true≢false}
use lib.Dec.{eqb, ltb}
use borrow.Author.Tests.{eq-eqb, ltb-true, ltb-false}
use Rattle.std.proofs.lemmas.List.{get_or_past}
use Rattle.tables.specs.steps.Members.{flagged}
use Rattle.sheet.specs.Layout.{count}
use Rattle.sheet.specs.Fields.{programmes, contents, objects, value_sets, content_list}
use Rattle.profile.specs.Counting.{any, how_many}
use Rattle.profile.specs.Relations.{has_set, lists, namings}
use Rattle.profile.specs.Rules.{rule11, rule12}

module _ (s : Sheet) (t₀ t : List ℕ) (nought : Standing (λ x. 0) t₀) (long : length t ≡ length t₀) where
  pub counts_made : (kind : Naming) → Standing (λ x. repeat counted_once (named_by s kind x) (get_or t₀ x 0)) t → Standing (λ x. counted (named_by s kind x)) t
  unfolding counted
  counts_made kind h x l = h x l ∙ ap (repeat counted_once (named_by s kind x)) (nought x (rw long at l))

  pub spans_made : Standing (λ x. repeat counted_once (named_by s SetSpans x) (get_or t₀ x 0)) t → Spanned s t
  spans_made h x l = counts_made SetSpans h x l ∙ ap counted (span_namings s x)

pub named_made : (s : Sheet) (t₀ t u : List ℕ) → Standing (λ x. 0) t₀ → length t ≡ length t₀ → length u ≡ length t
    → Standing (λ x. repeat counted_once (named_by s ContentObjects x) (get_or t₀ x 0)) t
    → Standing (λ x. repeat counted_once (named_by s Children x) (get_or t x 0)) u → Named s u
named_made s t₀ t u nought long e h k x l =
    k x l
    ∙ ap (repeat counted_once (named_by s Children x)) (h x (rw e at l) ∙ ap (repeat counted_once (named_by s ContentObjects x)) (nought x (rw (e, long) at l)))
    ∙ namings_added s x

-- a set that the table has once is in one span
pub spanned_once : (s : Sheet) (t : List ℕ) (v : ℕ) → Spanned s t → v < length t → get_or t v 0 ≡ 1 → rule11 s value_sets v ≡ false
unfolding rule11
spanned_once s t v right l e =
    let one : eqb (how_many (λ o. has_set s o v) (count s objects)) 1 ≡ true = sym (counted_one (how_many (λ o. has_set s o v) (count s objects))) ∙ eq-eqb (counted (how_many (λ o. has_set s o v) (count s objects))) 1 (sym (right v l) ∙ e) in
    simp one

-- an object that the table has once is named once
pub named_once : (s : Sheet) (t : List ℕ) (o : ℕ) → Named s t → o < length t → get_or t o 0 ≡ 1 → rule11 s objects o ≡ false
unfolding rule11
named_once s t o right l e =
    let one : eqb (namings s o) 1 ≡ true = sym (counted_one (namings s o)) ∙ eq-eqb (counted (namings s o)) 1 (sym (right o l) ∙ e) in
    simp one

-- a content that the table has is in a content list
pub listed_some : (s : Sheet) (t : List ℕ) (c : ℕ) → Listed s t → flagged t c ≡ true → rule12 s contents c ≡ false
unfolding rule12 flagged
listed_some s t c right e =
    (elim (ltb c (length t)) as (λ b. ltb c (length t) ≡ b → rule12 s contents c ≡ false) [
      | true ↦ λ h.
          let some : any (λ p. lists s programmes p content_list c) (count s programmes) ≡ true = listed_counted s c ∙ ap (λ (n : ℕ). not (eqb n 0)) (sym (right c (ltb-true c (length t) h))) ∙ e in
          simp some
      | false ↦ λ h. absurd (true≢false (sym e ∙ ap (λ (n : ℕ). not (eqb n 0)) (get_or_past t c 0 (ltb-false c (length t) h))))
    ]) refl
