-- The rows of the groups, and what they show. Assumes nothing.
use Prim.Native.Nat.{ℕ, zero, suc, ◌+◌, ◌-◌, ◌<◌}
use mathlib.Core.Path.{◌≡◌, refl, sym, ap, subst, ◌∙◌}
use mathlib.Core.Bool.{Bool, true, false, true≢false, cond, not, ◌&&◌, ◌||◌}
use mathlib.Core.List.{List}
use mathlib.Core.Logic.{⊎_elim}
use native.Mathlib.Omega.{arith}
use native.Mathlib.Nat.{le_of_suc-le-suc}
use borrow.Author.Count.{below_more}
use borrow.Author.Tests.{eqb-true, eq-eqb, not-false}
use lib.Dec.{eqb, leb, ltb}
use lib.ListN.{get_or}
use Rattle.sheet.specs.Words.{Sheet}
use Rattle.sheet.specs.Layout.{count, number, entry}
use Rattle.sheet.specs.Fields.{objects, complement_list}
use Rattle.sheet.specs.declared.spans.Entries.{Entries}
use Rattle.profile.specs.Counting.{any, how_many}
use Rattle.profile.specs.Relations.{member, members}
use Rattle.profile.specs.Rules.{sets_differ}
use Rattle.profile.proofs.CountingLaws.{any_none}
use Rattle.profile.proofs.GroupLaws.{any_witness}
use Rattle.profile.proofs.SumLaws.{how_many_eq}
use Rattle.inclusion.specs.steps.Groups.{GroupKept, ListsComplements, PairKept, group_whole, many_in, sets_in}
use Rattle.inclusion.specs.declared.Rows.{Rows}
use Rattle.inclusion.specs.steps.Rows.{HasListed, HasRow, OnlyComplement, RowAdded, RowKept, RowsComplete, SameLists}
use Rattle.profile.proofs.SetLaws.{sets_own}
use Rattle.inclusion.proofs.PassLaws.{pair_group}

-- the same lists
pub same_lists : (rows : Rows) → SameLists rows rows
same_lists rows = record { same_leading = refl; same_partners = refl; long_leading = refl; long_partners = refl }

pub same_after : (rows₀ rows rows' : Rows) → SameLists rows₀ rows → SameLists rows rows' → SameLists rows₀ rows'
same_after rows₀ rows rows' a b =
    record {
      same_leading = b.same_leading ∙ a.same_leading;
      same_partners = b.same_partners ∙ a.same_partners;
      long_leading = b.long_leading ∙ a.long_leading;
      long_partners = b.long_partners ∙ a.long_partners;
    }

-- a row more
module _ (s : Sheet) (rows rows' : Rows) (l j m : ℕ) (e : m ≡ entry s objects l complement_list j) (added : RowAdded rows rows' l m) where
  stays : (x y : ℕ) → HasRow rows.leading.now rows.partners.now rows.count x y → HasRow rows'.leading.now rows'.partners.now rows'.count x y
  stays x y w = (w.0, omega (arith, w.1, added.more), added.leader.0 w.0 w.1 ∙ w.2, added.partner.0 w.0 w.1 ∙ w.3)

  -- where there is one complement, it is the first
  partner : j < number s objects l complement_list → OnlyComplement s l m
  partner inside one = let z : j ≡ 0 = omega arith in e ∙ ap (entry s objects l complement_list) z

  pub listed_row : j < number s objects l complement_list → HasListed s rows l j → HasListed s rows' l (j + 1)
  listed_row inside before =
      record {
        objects_before = λ k r i h. stays k (entry s objects k complement_list i) (before.objects_before k r i h);
        own = below_more (λ i. HasRow rows'.leading.now rows'.partners.now rows'.count l (entry s objects l complement_list i)) j
            (λ i h. stays l (entry s objects l complement_list i) (before.own i h))
            (rows.count, omega (arith, added.more), added.leader.1, added.partner.1 ∙ e);
        each = rw added.more (below_more (λ i. OnlyComplement s (get_or rows'.leading.now i 0) (get_or rows'.partners.now i 0)) rows.count
            (λ i h. rw (added.leader.0 i h, added.partner.0 i h) (before.each i h))
            (rw (added.leader.1, added.partner.1) (partner inside)));
      }

-- an object more
pub listed_next : (s : Sheet) (rows : Rows) (l j : ℕ) → j ≡ number s objects l complement_list → HasListed s rows l j → HasListed s rows (l + 1) 0
listed_next s rows l j z before =
    record {
      objects_before = below_more (λ k. (i : ℕ) → i < number s objects k complement_list → HasRow rows.leading.now rows.partners.now rows.count k (entry s objects k complement_list i)) l before.objects_before (rw z at before.own);
      own = λ i h. absurd (omega arith);
      each = before.each;
    }

-- the group of a leader whose list has one complement, by what the table has for both
pub led_pair : (s : Sheet) (t : List ℕ) (base l m e c : ℕ) (others : Entries) → ListsComplements s base l others → others.list.count ≡ 1 → OnlyComplement s l m → e ≡ get_or t l 0 → c ≡ get_or t m 0 → PairKept s e c → GroupKept s t l
unfolding members member
led_pair s t base l m e c others led one only d r kept =
    let z : number s objects l complement_list ≡ 1 = sym led.many ∙ one in
    pair_group s t l m (sym (only z)) (ap suc z) (rw (sym d, sym r) kept)

-- one test for all
same_test : (b : Bool) (n : ℕ) → how_many (λ i. b) n ≡ cond b n 0
unfolding how_many
same_test true zero = refl
same_test true (suc n) = omega (arith, same_test true n)
same_test false zero = refl
same_test false (suc n) = omega (arith, same_test false n)

same_whole : (n : ℕ) (b c : Bool) → group_whole n (cond b n 0) (cond c n 0) ≡ true
unfolding group_whole
same_whole n false c = refl
same_whole n true c = ap (λ (a : Bool). leb n 1 || a && (eqb (cond c n 0) 0 || eqb (cond c n 0) n)) (eq-eqb n n refl) ∙ ap (λ (a : Bool). leb n 1 || a) (set c) ∙ either (leb n 1)
  where
    either : (a : Bool) → (a || true) ≡ true
    either true = refl
    either false = refl

    set : (c : Bool) → (eqb (cond c n 0) 0 || eqb (cond c n 0) n) ≡ true
    set true = ap (λ (a : Bool). eqb n 0 || a) (eq-eqb n n refl) ∙ either (eqb n 0)
    set false = refl

-- the table has one number for all members
module _ (s : Sheet) (t : List ℕ) (l : ℕ) (same : (i : ℕ) → i < number s objects l complement_list → get_or t l 0 ≡ get_or t (entry s objects l complement_list i) 0) where
  each : (i : ℕ) → i < members s l → get_or t (member s l i) 0 ≡ get_or t l 0
  unfolding members member
  each zero h = refl
  each (suc i) h = sym (same i (le_of_suc-le-suc h))

  counted : (p : ℕ → Bool) → how_many (λ i. p (get_or t (member s l i) 0)) (members s l) ≡ cond (p (get_or t l 0)) (members s l) 0
  counted p = how_many_eq (λ i. p (get_or t (member s l i) 0)) (λ i. p (get_or t l 0)) (members s l) (λ i h. ap p (each i h)) ∙ same_test (p (get_or t l 0)) (members s l)

  same_kept : GroupKept s t l
  unfolding many_in sets_in
  same_kept = (
    rw (counted (λ x. not (eqb x 0)), counted (λ x. ltb 1 x)) (same_whole (members s l) (not (eqb (get_or t l 0) 0)) (ltb 1 (get_or t l 0))),
    λ a i h b. ap (λ (x : ℕ). sets_differ s (get_or t l 0 - 2) (x - 2)) (each i h) ∙ sets_own s (get_or t l 0 - 2),
  )

-- each group is kept where each row is
pub rows_kept : (s : Sheet) (t leading partners : List ℕ) (g : ℕ) → RowsComplete s leading partners g → ((i : ℕ) → i < g → RowKept s t (get_or leading i 0) (get_or partners i 0))
    → (l : ℕ) → l < count s objects → GroupKept s t l
rows_kept s t leading partners g all kept l k =
    (elim (any other n) as (λ b. any other n ≡ b → GroupKept s t l) [
      | true ↦ λ e.
          let w = any_witness other n e in
          let r = all.objects_before l k w.0 w.1 in
          ⊎_elim
          (λ q. absurd (true≢false (sym w.2 ∙ ap not (eq-eqb _ _ (ap (λ (x : ℕ). get_or t x 0) (sym r.2) ∙ q ∙ ap (λ (x : ℕ). get_or t x 0) r.3)))))
          (λ so. subst (λ (x : ℕ). GroupKept s t x) r.2 so)
          (kept r.0 r.1)
      | false ↦ λ e. same_kept s t l (λ i h. eqb-true _ _ (not-false _ (any_none other n e i h)))
    ]) refl
  where
    n : ℕ
    n = number s objects l complement_list

    other : ℕ → Bool
    other i = not (eqb (get_or t l 0) (get_or t (entry s objects l complement_list i) 0))
