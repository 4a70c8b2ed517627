-- Groups by the leaders of a programme's objects. Assumes nothing.
use Prim.Native.Nat.{ℕ, suc, ◌+◌, ◌-◌, ◌*◌, ◌<◌, ◌≤◌}
use mathlib.Core.Path.{◌≡◌, refl, sym, ap, subst, ◌∙◌}
use mathlib.Core.Bool.{Bool, true, false, cond, not}
use mathlib.Core.List.{List}
use mathlib.Core.Logic.{⊎_elim}
use native.Mathlib.Omega.{arith}
use native.Mathlib.Numerals.{add-one}
use borrow.Author.Tests.{eqb-true, eqb-false, eq-eqb, ne_eqb, ltb-true, ltb-false, not-false}
use lib.Dec.{eqb, ltb}
use lib.ListN.{length, get_or}
use Rattle.sheet.specs.Words.{Sheet}
use Rattle.sheet.specs.Layout.{count, number}
use Rattle.sheet.specs.Fields.{programmes, objects, content_list, complement_list}
use Rattle.profile.specs.Counting.{how_many}
use Rattle.profile.specs.Relations.{leader, leader_of, member, members, includes}
use Rattle.profile.proofs.SumLaws.{how_many_eq}
use Rattle.tables.specs.declared.Naming.TheVariants.{Included}
use Rattle.tables.specs.steps.Marks.{Standing, repeat, times_by}
use Rattle.tables.proofs.MarkLaws.{repeat_store}
use Rattle.tables.proofs.TableLaws.{included_marked}
use Rattle.grouping.specs.steps.Leaders.{AllAsked, Asked, AskedFor, Ready, UpTo, group_at}
use Rattle.inclusion.specs.steps.Groups.{GroupKept, many_in}
use Rattle.grouping.specs.steps.Groups.{GroupsApart, KeptTo}
use Rattle.inclusion.specs.steps.Entering.{Entered, object_at}
use Rattle.grouping.specs.steps.Passing.{Passing}
use Rattle.inclusion.proofs.CountLaws.{Apart}
use Rattle.grouping.proofs.KeptLaws.{entries_apart, programme_more, tells_entered}
use Rattle.grouping.proofs.MemberLaws.{group_count}
use Rattle.inclusion.proofs.PassLaws.{one_kept}

-- one place of a table is written: what it has, and what the others have
module _ (h h' : List ℕ) (l v : ℕ) (long : length h' ≡ length h) (now : Standing (λ z. cond (eqb l z) v (get_or h z 0)) h') where
  pub put : l < length h → get_or h' l 0 ≡ v
  put inside = now l (rw long inside) ∙ ap (λ (b : Bool). cond b v (get_or h l 0)) (eq-eqb l l refl)

  pub others : (x : ℕ) → x < length h → (l ≡ x → ⊥) → get_or h' x 0 ≡ get_or h x 0
  others x inside other = now x (rw long inside) ∙ ap (λ (b : Bool). cond b v (get_or h x 0)) (ne_eqb l x other)

module _ (s : Sheet) (p : ℕ) (t : List ℕ) (seen : ℕ) where
  pub asked_none : (h : List ℕ) → Asked s p t seen 0 h h
  unfolding how_many
  asked_none h few = (λ x l. omega (arith, few x l), λ l k. (λ r. omega arith, λ r. absurd (omega (arith, few l k))))

  -- an object more
  module _ (i l : ℕ) (h₀ h h' : List ℕ) (e : l ≡ group_at s p i) (long : length h' ≡ length h) (step : AskedFor s t seen l h h') where
    -- by place: that of the group, or another
    split : (P : ℕ → Type 0) → P l → ((x : ℕ) → x < length h' → (l ≡ x → ⊥) → P x) → (x : ℕ) → x < length h' → P x
    split P here there x k =
        (elim (eqb l x) as (λ b. eqb l x ≡ b → P x) [
          | true ↦ λ q. subst P (eqb-true l x q) here
          | false ↦ λ q. there x k (eqb-false l x q)
        ]) refl

    counted : (x : ℕ) → how_many (λ k. eqb (group_at s p k) x) (i + 1) ≡ how_many (λ k. eqb (group_at s p k) x) i + cond (eqb l x) 1 0
    unfolding how_many
    counted x = ap (how_many (λ k. eqb (group_at s p k) x)) (add-one i) ∙ ap (λ (y : ℕ). how_many (λ k. eqb (group_at s p k) x) i + cond (eqb y x) 1 0) (sym e)

    module _ (before : UpTo (seen + 2) h × ((l : ℕ) → l < length h → (get_or h l 0 ≤ seen + 1 → how_many (λ k. eqb (group_at s p k) l) i ≤ get_or h l 0 - seen) × (seen + 1 < get_or h l 0 → GroupKept s t l))) where
      inside : l < length h
      inside = step.0

      abbrev Here : Type 0
      Here = (get_or h' l 0 ≤ seen + 2) × ((get_or h' l 0 ≤ seen + 1 → how_many (λ k. eqb (group_at s p k) l) (i + 1) ≤ get_or h' l 0 - seen) × (seen + 1 < get_or h' l 0 → GroupKept s t l))

      more : how_many (λ k. eqb (group_at s p k) l) (i + 1) ≡ how_many (λ k. eqb (group_at s p k) l) i + 1
      more = counted l ∙ ap (λ (b : Bool). how_many (λ k. eqb (group_at s p k) l) i + cond b 1 0) (eq-eqb l l refl)

      here : Here
      here =
          ⊎_elim
          (λ a. (omega (arith, a.1), (λ r. omega (arith, more, a.0, a.1, (before.1 l inside).0 (omega (arith, a.0))), λ r. absurd (omega (arith, r, a.1)))))
          (λ q. ⊎_elim
          (λ a. (omega (arith, a.1), (λ r. absurd (omega (arith, r, a.1)), λ r. a.0)))
          (λ a. (omega (arith, a.1, before.0 l inside), (λ r. absurd (omega (arith, r, a.0, a.1)), λ r. (before.1 l inside).1 a.0)))
          q)
          step.2

      same : (x : ℕ) → (l ≡ x → ⊥) → how_many (λ k. eqb (group_at s p k) x) (i + 1) ≡ how_many (λ k. eqb (group_at s p k) x) i + 0
      same x other = counted x ∙ ap (λ (b : Bool). how_many (λ k. eqb (group_at s p k) x) i + cond b 1 0) (ne_eqb l x other)

      there : (x : ℕ) → x < length h' → (l ≡ x → ⊥) → (get_or h' x 0 ≤ seen + 2) × ((get_or h' x 0 ≤ seen + 1 → how_many (λ k. eqb (group_at s p k) x) (i + 1) ≤ get_or h' x 0 - seen) × (seen + 1 < get_or h' x 0 → GroupKept s t x))
      there x k other =
          let z : get_or h' x 0 ≡ get_or h x 0 = step.1 x (rw long at k) other in
          let k₀ : x < length h = rw long at k in
          (omega (arith, z, before.0 x k₀), (λ r. omega (arith, z, same x other, (before.1 x k₀).0 (omega (arith, z, r))), λ r. (before.1 x k₀).1 (omega (arith, z, r))))

      both : (x : ℕ) → x < length h' → (get_or h' x 0 ≤ seen + 2) × ((get_or h' x 0 ≤ seen + 1 → how_many (λ k. eqb (group_at s p k) x) (i + 1) ≤ get_or h' x 0 - seen) × (seen + 1 < get_or h' x 0 → GroupKept s t x))
      both = split (λ x. (get_or h' x 0 ≤ seen + 2) × ((get_or h' x 0 ≤ seen + 1 → how_many (λ k. eqb (group_at s p k) x) (i + 1) ≤ get_or h' x 0 - seen) × (seen + 1 < get_or h' x 0 → GroupKept s t x))) here there

    pub asked_more : Asked s p t seen i h₀ h → Asked s p t seen (i + 1) h₀ h'
    asked_more before few = (λ x k. (both (before few) x k).0, λ x k. (both (before few) x k).1)

-- one object with the test at most
at_most_one : (p : ℕ → Bool) → how_many p 1 ≤ 1
unfolding how_many
at_most_one p =
    (elim (p 0) as (λ b. p 0 ≡ b → 0 + cond b 1 0 ≤ 1) [
      | true ↦ λ e. omega arith
      | false ↦ λ e. omega arith
    ]) refl

-- where the table tells what the programme includes, the groups that were asked for and those with one object at most are all
module _ (s : Sheet) (p : ℕ) (t : List ℕ) (apart : GroupsApart s) (entries : Apart (object_at s p) (number s programmes p content_list)) (tells : (x : ℕ) → includes s p x ≡ not (eqb (get_or t x 0) 0)) where
  abbrev n : ℕ
  n = number s programmes p content_list

  -- the members of a group that are included are the objects with its leader
  led : (l : ℕ) → l < count s objects → leader s l ≡ true → many_in s t l ≡ how_many (λ i. eqb (group_at s p i) l) n
  unfolding many_in includes object_at group_at
  led l k h =
      how_many_eq (λ i. not (eqb (get_or t (member s l i) 0) 0)) (λ i. includes s p (member s l i)) (members s l) (λ i m. sym (tells (member s l i)))
      ∙ group_count s apart (object_at s p) n l entries k h

  -- an object that leads none is alone
  alone : (l : ℕ) → leader s l ≡ false → many_in s t l ≤ 1
  unfolding many_in leader members
  alone l h =
      let z : number s objects l complement_list ≡ 0 = omega (arith, ltb-false 0 (number s objects l complement_list) h) in
      subst (λ (k : ℕ). how_many (λ i. not (eqb (get_or t (member s l i) 0) 0)) (suc k) ≤ 1) (sym z) (at_most_one (λ i. not (eqb (get_or t (member s l i) 0) 0)))

  pub asked_kept : (seen : ℕ) (h h' : List ℕ) → UpTo seen h → length h' ≡ count s objects → Asked s p t seen n h h' → (l : ℕ) → l < count s objects → GroupKept s t l
  asked_kept seen h h' few long asked l k =
      let so = (asked few).1 l (rw long k) in
      (elim (ltb (seen + 1) (get_or h' l 0)) as (λ b. ltb (seen + 1) (get_or h' l 0) ≡ b → GroupKept s t l) [
        | true ↦ λ e. so.1 (ltb-true (seen + 1) (get_or h' l 0) e)
        | false ↦ λ e. (elim (leader s l) as (λ b. leader s l ≡ b → GroupKept s t l) [
          | true ↦ λ h. one_kept s t l (omega (arith, led l k h, so.0 (ltb-false (seen + 1) (get_or h' l 0) e), ltb-false (seen + 1) (get_or h' l 0) e))
          | false ↦ λ h. one_kept s t l (alone l h)
        ]) refl
      ]) refl

-- nothing stands in the table once the places of what the programme includes have 0
module _ (s : Sheet) (p : ℕ) (t t' : List ℕ) (long : length t' ≡ length t) (tells : (x : ℕ) → includes s p x ≡ not (eqb (get_or t x 0) 0))
    (now : Standing (λ x. repeat (λ (c : ℕ). 0) (times_by s Included p x) (get_or t x 0)) t') where
  -- what is never named is not included
  unnamed : (x : ℕ) → eqb (times_by s Included p x) 0 ≡ true → get_or t x 0 ≡ 0
  unnamed x e =
      let z : ◌≡◌ {A = ℕ} (cond (includes s p x) 1 0) 0 = sym (included_marked s p x) ∙ repeat_store 1 (times_by s Included p x) 0 ∙ ap (λ (b : Bool). cond b 0 1) e in
      eqb-true (get_or t x 0) 0 (not-false _ (sym (tells x) ∙ none (includes s p x) z))
    where
      none : (b : Bool) → ◌≡◌ {A = ℕ} (cond b 1 0) 0 → b ≡ false
      none true z = absurd (omega (arith, z))
      none false z = refl

  pub left_empty : Standing (λ x. 0) t'
  left_empty x l =
      now x l ∙ repeat_store 0 (times_by s Included p x) (get_or t x 0)
      ∙ (elim (eqb (times_by s Included p x) 0) as (λ b. eqb (times_by s Included p x) 0 ≡ b → cond b (get_or t x 0) 0 ≡ 0) [
        | true ↦ λ e. unnamed x e
        | false ↦ λ e. refl
      ]) refl

pub group_entry : (s : Sheet) (p i l o : ℕ) → l ≡ leader_of s o → o ≡ object_at s p i → l ≡ group_at s p i
unfolding group_at
group_entry s p i l o a b = a ∙ ap (leader_of s) b

-- a programme more, by groups that were asked for, after which the marks of the objects are taken back
module _ (s : Sheet) (both : Bool) (owners alike : List ℕ) (p : ℕ) (t t' h h' : List ℕ) (pass : Passing s both owners alike) (entered : Entered s both alike p t t') (ready : Ready s p t h)
    (asked : AllAsked s p t' h h') (long : length h' ≡ length h) where
  tells : (x : ℕ) → includes s p x ≡ not (eqb (get_or t' x 0) 0)
  tells = tells_entered s p both alike t t' ready.1 entered

  pub led_more : GroupsApart s → KeptTo s both p → KeptTo s both (p + 1)
  led_more apart =
      programme_more s both owners alike p t t' pass entered ready.1 ready.0
      (asked_kept s p t' apart (entries_apart s p both alike t t' ready.1 entered) tells (2 * p) h h' ready.3 (long ∙ ready.2) asked)

  pub led_ready : (q : ℕ) (t'' : List ℕ) → p < q → length t' ≡ length t → length t'' ≡ length t'
      → Standing (λ x. repeat (λ (c : ℕ). 0) (times_by s Included p x) (get_or t' x 0)) t'' → Ready s q t'' h'
  led_ready q t'' more same cleared now = (cleared ∙ same ∙ ready.0, left_empty s p t' t'' cleared tells now, long ∙ ready.2, λ x l. omega (arith, (asked ready.3).0 x l))

-- with one that is passed over, the tables are ready for the next
pub ready_later : (s : Sheet) (p : ℕ) (t h : List ℕ) → Ready s p t h → Ready s (p + 1) t h
ready_later s p t h ready = (ready.0, ready.1, ready.2, λ x l. omega (arith, ready.3 x l))
