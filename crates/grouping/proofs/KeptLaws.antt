-- What the table shows of a programme. Assumes nothing.
use Prim.Native.Nat.{ℕ, zero, suc, ◌+◌, ◌-◌, ◌<◌, ◌≤◌}
use mathlib.Core.Path.{◌≡◌, refl, sym, ap, subst, ◌∙◌}
use mathlib.Core.Bool.{Bool, true, false, true≢false, cond, not, ◌&&◌, ◌||◌}
use mathlib.Core.List.{List}
use mathlib.Core.Logic.{⊎_elim}
use native.Mathlib.Omega.{arith}
use borrow.Author.Count.{below_more}
use borrow.Author.Tests.{eqb-true, eq-eqb, ne_eqb, leb-true, lt-leb, ltb-true, ltb-false, lt-ltb, not-false}
use lib.Dec.{eqb, leb, ltb}
use lib.ListN.{length, get_or}
use Rattle.sheet.specs.Words.{Sheet}
use Rattle.sheet.specs.Layout.{count, field, number, entry}
use Rattle.sheet.specs.Fields.{programmes, contents, objects, value_sets, content_list, set_list, content_object, complement_list}
use Rattle.profile.specs.Counting.{any, how_many, two_of}
use Rattle.profile.specs.Relations.{leader, member, members, leader_of, includes, included, wholly_included, has_set, owner, named_set, names_set}
use Rattle.profile.specs.Rules.{repeats, rule11, rule21, rule22, owner_at, sets_named, sets_differ}
use Rattle.profile.proofs.BoolLaws.{or_either, and_both}
use Rattle.profile.proofs.CountingLaws.{any_none}
use Rattle.profile.proofs.GroupLaws.{any_witness, leader_index, member_zero, member_at, no_leader}
use Rattle.profile.proofs.SumLaws.{any_nowhere, how_many_eq, how_many_all}
use Rattle.tables.specs.steps.Marks.{Standing}
use Rattle.inclusion.specs.steps.Entering.{Changed, Entered, Noted, object_at}
use Rattle.inclusion.specs.steps.Groups.{GroupKept, group_whole, many_in, sets_in}
use Rattle.grouping.specs.steps.Groups.{KeptTo, OneSpan, ProgrammeKept}
use Rattle.inclusion.specs.steps.Alike.{Alike, representative}
use Rattle.grouping.specs.steps.Passing.{Passing, same_list, same_lists}
use Rattle.inclusion.proofs.CountLaws.{Apart, two_counted}
use Rattle.tables.proofs.TableLaws.{any_below}
use Rattle.grouping.proofs.MemberLaws.{one_owner}
use Rattle.profile.proofs.SetLaws.{sets_alike}
use Rattle.inclusion.proofs.PassLaws.{past}

-- one at most, or all
one_or_all : (c n : ℕ) (b : Bool) → (leb c 1 || eqb c n && b) ≡ true → (true && not (eqb c 0) && not (eqb c 1) && not (eqb c n)) ≡ false
one_or_all c n b e = ⊎_elim (λ h. one c (leb-true c 1 h)) (λ h. all (not (eqb c 0)) (not (eqb c 1)) (eqb c n) (and_both (eqb c n) b h).0) (or_either (leb c 1) (eqb c n && b) e)
  where
    one : (c : ℕ) → c ≤ 1 → (true && not (eqb c 0) && not (eqb c 1) && not (eqb c n)) ≡ false
    one zero l = refl
    one (suc zero) l = refl
    one (suc (suc c)) l = absurd (omega arith)

    all : (p q r : Bool) → r ≡ true → (true && p && q && not r) ≡ false
    all true true r h = ap not h
    all true false r h = refl
    all false q r h = refl

-- two or more are included: sets are named for none or all
named_alike : (c n t : ℕ) → 1 < c → (leb c 1 || eqb c n && (eqb t 0 || eqb t n)) ≡ true → (eqb t 0 || eqb t n) ≡ true
named_alike c n t l e = (and_both (eqb c n) (eqb t 0 || eqb t n) (ap (λ (b : Bool). b || eqb c n && (eqb t 0 || eqb t n)) (sym (lt-leb c 1 l)) ∙ e)).1

none_or_all : (c n t : ℕ) → 1 < c → (leb c 1 || eqb c n && (eqb t 0 || eqb t n)) ≡ true → (true && true && not (eqb t 0) && not (eqb t n)) ≡ false
none_or_all c n t l e = either (eqb t 0) (eqb t n) (named_alike c n t l e)
  where
    either : (p q : Bool) → (p || q) ≡ true → (true && true && not p && not q) ≡ false
    either true q h = refl
    either false true h = refl
    either false false h = absurd (true≢false (sym h))

-- and where some have sets, all have
all_set : (c n t : ℕ) → 1 < c → 0 < t → (leb c 1 || eqb c n && (eqb t 0 || eqb t n)) ≡ true → t ≡ n
all_set c n t l k e =
    ⊎_elim (λ h. let z : t ≡ 0 = eqb-true t 0 h in absurd (omega arith)) (λ h. eqb-true t n h) (or_either (eqb t 0) (eqb t n) (named_alike c n t l e))

all_none : (a b c d : Bool) → a ≡ false → b ≡ false → c ≡ false → d ≡ false → (a || b || c || d) ≡ false
all_none a b c d p q r t = rw (p, q, r, t) refl

-- what the table tells with the first m sets noted
module _ (s : Sheet) (p : ℕ) (t₀ t₁ t₂ : List ℕ) (put : ℕ → ℕ) (m : ℕ) (noughts : Standing (λ x. 0) t₀) (long : length t₁ ≡ length t₀) (long₂ : length t₂ ≡ length t₁)
    (entered : Changed (object_at s p) (number s programmes p content_list) 0 1 t₀ t₁)
    (named : Noted (owner_at s p) put m t₁ t₂) where
  abbrev n : ℕ
  n = number s programmes p content_list

  -- the owner of a named set is the object of a content
  owner_object : (j : ℕ) → j < m → any (λ i. eqb (object_at s p i) (owner_at s p j)) n ≡ true
  owner_object j l =
      let w : ℕ = owner_at s p j in
      let read : cond (any (λ i. eqb (object_at s p i) w) n) 1 (get_or t₀ w 0) ≡ 1 = sym (entered.3 w (named.0 j l)) ∙ named.1 j l in
      (elim (any (λ i. eqb (object_at s p i) w) n) as (λ b. any (λ i. eqb (object_at s p i) w) n ≡ b → b ≡ true) [
        | true ↦ λ h. refl
        | false ↦ λ h.
            let z : ◌≡◌ {A = ℕ} 0 1 = sym (noughts w (rw long at (named.0 j l))) ∙ sym (ap (λ (b : Bool). cond b 1 (get_or t₀ w 0)) h) ∙ read in
            absurd (omega arith)
      ]) refl

  -- what a place has where no set is noted
  unnamed : (x : ℕ) → any (λ j. eqb (owner_at s p j) x) m ≡ false → get_or t₂ x 0 ≡ cond (any (λ i. eqb (object_at s p i) x) n) 1 0
  unnamed x none =
      (elim (ltb x (length t₁)) as (λ b. ltb x (length t₁) ≡ b → get_or t₂ x 0 ≡ cond (any (λ i. eqb (object_at s p i) x) n) 1 0) [
        | true ↦ λ e.
            let l : x < length t₁ = ltb-true x (length t₁) e in
            named.4 x l none ∙ entered.3 x l ∙ ap (λ (c : ℕ). cond (any (λ i. eqb (object_at s p i) x) n) 1 c) (noughts x (rw long at l))
        | false ↦ λ e.
            let l : length t₁ ≤ x = ltb-false x (length t₁) e in
            sym (past t₂ x (omega arith)) ∙ ap (λ (b : Bool). cond b 1 0) (sym (outside l))
      ]) refl
    where
      outside : length t₁ ≤ x → any (λ i. eqb (object_at s p i) x) n ≡ false
      outside l = any_nowhere (λ i. eqb (object_at s p i) x) n (λ i k. ne_eqb (object_at s p i) x (λ q. let z : object_at s p i ≡ x = q in absurd (omega (arith, entered.0 i k))))

  -- and where one is
  noted : (x : ℕ) → any (λ j. eqb (owner_at s p j) x) m ≡ true → 1 < get_or t₂ x 0
  noted x some =
      let w = any_witness (λ j. eqb (owner_at s p j) x) m some in
      let z : get_or t₂ x 0 ≡ put w.0 + 2 = ap (λ (y : ℕ). get_or t₂ y 0) (sym (eqb-true _ _ w.2)) ∙ named.3 w.0 w.1 in
      omega (arith, z)

  -- so the table tells what the programme includes
  tells_included : (x : ℕ) → includes s p x ≡ not (eqb (get_or t₂ x 0) 0)
  unfolding includes object_at
  tells_included x =
      (elim (any (λ j. eqb (owner_at s p j) x) m) as (λ b. any (λ j. eqb (owner_at s p j) x) m ≡ b → any (λ i. eqb (object_at s p i) x) n ≡ not (eqb (get_or t₂ x 0) 0)) [
        | true ↦ λ e.
            let w = any_witness (λ j. eqb (owner_at s p j) x) m e in
            ap (λ (y : ℕ). any (λ i. eqb (object_at s p i) y) n) (sym (eqb-true _ _ w.2)) ∙ owner_object w.0 w.1 ∙ ap not (sym (ne_eqb (get_or t₂ x 0) 0 (λ q. let z : get_or t₂ x 0 ≡ 0 = q in absurd (omega (arith, noted x e)))))
        | false ↦ λ e. rw (unnamed x e) (flagged (any (λ i. eqb (object_at s p i) x) n))
      ]) refl
    where
      flagged : (b : Bool) → b ≡ not (eqb (cond b 1 0) 0)
      flagged true = refl
      flagged false = refl

  -- and for what it names sets
  tells_named : (x : ℕ) → any (λ j. eqb (owner_at s p j) x) m ≡ ltb 1 (get_or t₂ x 0)
  tells_named x =
      (elim (any (λ j. eqb (owner_at s p j) x) m) as (λ b. any (λ j. eqb (owner_at s p j) x) m ≡ b → b ≡ ltb 1 (get_or t₂ x 0)) [
        | true ↦ λ e. sym (lt-ltb 1 (get_or t₂ x 0) (noted x e))
        | false ↦ λ e. rw (unnamed x e) (small (any (λ i. eqb (object_at s p i) x) n))
      ]) refl
    where
      small : (b : Bool) → false ≡ ltb 1 (cond b 1 0)
      small true = refl
      small false = refl

-- contents of different objects are different
no_repeat : (s : Sheet) (p : ℕ) → Apart (object_at s p) (number s programmes p content_list) → repeats s programmes p content_list ≡ false
unfolding repeats two_of object_at
no_repeat s p apart =
    any_nowhere (λ j. any (λ i. eqb (entry s programmes p content_list i) (entry s programmes p content_list j)) j) (number s programmes p content_list)
    (λ j l. any_nowhere (λ i. eqb (entry s programmes p content_list i) (entry s programmes p content_list j)) j (pair j l))
  where
    pair : (j : ℕ) → j < number s programmes p content_list → (i : ℕ) → i < j → eqb (entry s programmes p content_list i) (entry s programmes p content_list j) ≡ false
    pair j l i k =
        (elim (eqb (entry s programmes p content_list i) (entry s programmes p content_list j)) as (λ b. eqb (entry s programmes p content_list i) (entry s programmes p content_list j) ≡ b → b ≡ false) [
          | true ↦ λ q.
              let z : object_at s p i ≡ object_at s p j = ap (λ (c : ℕ). field s contents c content_object) (eqb-true _ _ q) in
              absurd (true≢false (sym (eq-eqb (object_at s p i) (object_at s p j) z) ∙ any_none (λ i. eqb (object_at s p i) (object_at s p j)) j (apart j l) i k))
          | false ↦ λ q. refl
        ]) refl

-- where the table tells what the programme includes
module _ (s : Sheet) (p : ℕ) (t : List ℕ) (tells : (x : ℕ) → includes s p x ≡ not (eqb (get_or t x 0) 0)) where
  included_counted : (l : ℕ) → included s p l ≡ many_in s t l
  unfolding included many_in
  included_counted l = how_many_eq (λ i. includes s p (member s l i)) (λ i. not (eqb (get_or t (member s l i) 0) 0)) (members s l) (λ i k. tells (member s l i))

  keeps_21 : ((l : ℕ) → l < count s objects → GroupKept s t l) → rule21 s programmes p ≡ false
  unfolding rule21 wholly_included group_whole
  keeps_21 kept = any_nowhere (λ l. leader s l && not (eqb (included s p l) 0) && not (eqb (included s p l) 1) && not (eqb (included s p l) (members s l))) (count s objects) alone
    where
      alone : (l : ℕ) → l < count s objects → (leader s l && not (eqb (included s p l) 0) && not (eqb (included s p l) 1) && not (eqb (included s p l) (members s l))) ≡ false
      alone l k =
          (elim (leader s l) as (λ b. leader s l ≡ b → (b && not (eqb (included s p l) 0) && not (eqb (included s p l) 1) && not (eqb (included s p l) (members s l))) ≡ false) [
            | true ↦ λ h. one_or_all (included s p l) (members s l) (eqb (sets_in s t l) 0 || eqb (sets_in s t l) (members s l)) (rw (included_counted l) (kept l k).0)
            | false ↦ λ h. refl
          ]) refl

-- rule 22, with all sets noted
module _ (s : Sheet) (p : ℕ) (t₀ t₁ t₂ : List ℕ) (put : ℕ → ℕ) (noughts : Standing (λ x. 0) t₀) (long : length t₁ ≡ length t₀) (long₂ : length t₂ ≡ length t₁)
    (entered : Changed (object_at s p) (number s programmes p content_list) 0 1 t₀ t₁)
    (named : Noted (owner_at s p) put (number s programmes p set_list) t₁ t₂)
    (full : length t₀ ≡ count s objects) (spans : OneSpan s) (inside : (j : ℕ) → j < number s programmes p set_list → named_set s p j < count s value_sets)
    (same : (j : ℕ) → j < number s programmes p set_list → sets_differ s (put j) (named_set s p j) ≡ false) (kept : (l : ℕ) → l < count s objects → GroupKept s t₂ l) where
  abbrev contained : ℕ
  contained = number s programmes p content_list

  abbrev m : ℕ
  m = number s programmes p set_list

  all_included : (l : ℕ) → included s p l ≡ many_in s t₂ l
  all_included = included_counted s p t₂ (tells_included s p t₀ t₁ t₂ put m noughts long long₂ entered named)

  one_span : (v : ℕ) → v < count s value_sets → how_many (λ o. has_set s o v) (count s objects) ≡ 1
  unfolding rule11
  one_span v l = eqb-true _ _ (not-false _ (any_none (rule11 s value_sets) (count s value_sets) spans v l))

  names_owner : (o : ℕ) → o < count s objects → names_set s p o ≡ any (λ j. eqb (owner_at s p j) o) m
  unfolding names_set owner_at
  names_owner o k =
      any_below (λ j. has_set s o (named_set s p j)) (λ j. eqb (owner s (named_set s p j)) o) m
      (λ j l. one_owner s (named_set s p j) o k (one_span (named_set s p j) (inside j l)))

  -- a wholly included group has two members or more
  two : (l : ℕ) → leader s l ≡ true → wholly_included s p l ≡ true → 1 < included s p l
  unfolding leader wholly_included members
  two l h w = omega (arith, ltb-true 0 (number s objects l complement_list) h, eqb-true (included s p l) (suc (number s objects l complement_list)) w)

  -- the owners of the named sets are included, and objects of the sheet
  owners_included : (j : ℕ) → j < m → includes s p (owner_at s p j) ≡ true
  unfolding includes object_at
  owners_included j l = owner_object s p t₀ t₁ t₂ put m noughts long long₂ entered named j l

  owner_inside : (j : ℕ) → j < m → owner_at s p j < count s objects
  owner_inside j l = rw (sym full, sym long) (named.0 j l)

  -- the members of a wholly included group are objects of the sheet
  member_inside : (l k : ℕ) → wholly_included s p l ≡ true → k < members s l → member s l k < count s objects
  unfolding wholly_included included includes object_at
  member_inside l k whole h =
      let inc : any (λ i. eqb (object_at s p i) (member s l k)) contained ≡ true = how_many_all (λ i. includes s p (member s l i)) (members s l) (eqb-true _ _ whole) k h in
      let w = any_witness (λ i. eqb (object_at s p i) (member s l k)) contained inc in
      let z : object_at s p w.0 ≡ member s l k = eqb-true _ _ w.2 in
      rw (sym z, sym full) (entered.0 w.0 w.1)

  sets_counted : (l : ℕ) → wholly_included s p l ≡ true → sets_named s p l ≡ sets_in s t₂ l
  unfolding sets_named sets_in
  sets_counted l whole =
      how_many_eq (λ i. names_set s p (member s l i)) (λ i. ltb 1 (get_or t₂ (member s l i) 0)) (members s l)
      (λ i r. names_owner (member s l i) (member_inside l i whole r) ∙ tells_named s p t₀ t₁ t₂ put m noughts long long₂ entered named (member s l i))

  -- sets for all or none of a wholly included group
  abbrev partly : ℕ → Bool
  partly l = leader s l && wholly_included s p l && not (eqb (sets_named s p l) 0) && not (eqb (sets_named s p l) (members s l))

  none_partly : (l : ℕ) → l < count s objects → partly l ≡ false
  unfolding group_whole
  none_partly l k =
      (elim (leader s l) as (λ b. leader s l ≡ b → (b && wholly_included s p l && not (eqb (sets_named s p l) 0) && not (eqb (sets_named s p l) (members s l))) ≡ false) [
        | true ↦ λ h. (elim (wholly_included s p l) as (λ b. wholly_included s p l ≡ b → (true && b && not (eqb (sets_named s p l) 0) && not (eqb (sets_named s p l) (members s l))) ≡ false) [
          | true ↦ λ w. none_or_all (included s p l) (members s l) (sets_named s p l) (two l h w) (rw (sets_counted l w, all_included l) (kept l k).0)
          | false ↦ λ w. refl
        ]) refl
        | false ↦ λ h. refl
      ]) refl

  -- two named sets in one group
  module _ (i j : ℕ) (k : i < j) (l : j < m) (z : leader_of s (owner_at s p i) ≡ leader_of s (owner_at s p j)) where
    abbrev u : ℕ
    u = leader_of s (owner_at s p j)

    -- they are of two objects
    apart : owner_at s p i ≡ owner_at s p j → ⊥
    apart q = true≢false (sym (eq-eqb (owner_at s p i) (owner_at s p j) q) ∙ any_none (λ x. eqb (owner_at s p x) (owner_at s p j)) j (named.2 j l) i k)

    -- so the group has a leader
    led : leader s u ≡ true
    led =
        (elim (leader s u) as (λ b. leader s u ≡ b → b ≡ true) [
          | true ↦ λ e. refl
          | false ↦ λ e. absurd (apart (sym (no_leader s (owner_at s p i) (ap (leader s) z ∙ e)) ∙ z ∙ no_leader s (owner_at s p j) e))
        ]) refl

    -- the member that a named set is of
    has : (x : ℕ) → x < m → (k : ℕ) → member s u k ≡ owner_at s p x → get_or t₂ (member s u k) 0 ≡ put x + 2
    has x h k e = ap (λ (y : ℕ). get_or t₂ y 0) e ∙ named.3 x h

    pub alike : sets_differ s (named_set s p i) (named_set s p j) ≡ false
    unfolding group_whole many_in sets_in
    alike =
        let a = member_at s (owner_at s p i) u z led in
        let b = member_at s (owner_at s p j) u refl led in
        let va : get_or t₂ (member s u a.0) 0 ≡ put i + 2 = has i (omega arith) a.0 a.2 in
        let vb : get_or t₂ (member s u b.0) 0 ≡ put j + 2 = has j l b.0 b.2 in
        let whole = kept u (leader_index s (owner_at s p j) (owner_inside j l)) in
        let other : a.0 ≡ b.0 → ⊥ = λ q. apart (sym a.2 ∙ ap (member s u) q ∙ b.2) in
        let ia : not (eqb (get_or t₂ (member s u a.0) 0) 0) ≡ true = ap not (ne_eqb (get_or t₂ (member s u a.0) 0) 0 (λ q. let y : get_or t₂ (member s u a.0) 0 ≡ 0 = q in absurd (omega (arith, va)))) in
        let ib : not (eqb (get_or t₂ (member s u b.0) 0) 0) ≡ true = ap not (ne_eqb (get_or t₂ (member s u b.0) 0) 0 (λ q. let y : get_or t₂ (member s u b.0) 0 ≡ 0 = q in absurd (omega (arith, vb)))) in
        let many : 1 < how_many (λ x. not (eqb (get_or t₂ (member s u x) 0) 0)) (members s u) = two_counted (λ x. not (eqb (get_or t₂ (member s u x) 0) 0)) (members s u) a.0 b.0 other a.1 b.1 ia ib in
        let sa : ltb 1 (get_or t₂ (member s u a.0) 0) ≡ true = lt-ltb 1 (get_or t₂ (member s u a.0) 0) (omega (arith, va)) in
        let sb : ltb 1 (get_or t₂ (member s u b.0) 0) ≡ true = lt-ltb 1 (get_or t₂ (member s u b.0) 0) (omega (arith, vb)) in
        let some : 1 < how_many (λ x. ltb 1 (get_or t₂ (member s u x) 0)) (members s u) = two_counted (λ x. ltb 1 (get_or t₂ (member s u x) 0)) (members s u) a.0 b.0 other a.1 b.1 sa sb in
        let full : how_many (λ x. ltb 1 (get_or t₂ (member s u x) 0)) (members s u) ≡ members s u = all_set (how_many (λ x. not (eqb (get_or t₂ (member s u x) 0) 0)) (members s u)) (members s u) (how_many (λ x. ltb 1 (get_or t₂ (member s u x) 0)) (members s u)) many (omega (arith, some)) whole.0 in
        let first : 1 < get_or t₂ u 0 = subst (λ (y : ℕ). 1 < get_or t₂ y 0) (member_zero s u) (ltb-true 1 (get_or t₂ (member s u 0) 0) (how_many_all (λ x. ltb 1 (get_or t₂ (member s u x) 0)) (members s u) full 0 (omega (arith, a.1)))) in
        let da : get_or t₂ (member s u a.0) 0 - 2 ≡ put i = omega (arith, va) in
        let db : get_or t₂ (member s u b.0) 0 - 2 ≡ put j = omega (arith, vb) in
        let both : sets_differ s (put i) (put j) ≡ false = sets_alike s (get_or t₂ u 0 - 2) (put i) (put j)
        (ap (sets_differ s (get_or t₂ u 0 - 2)) (sym da) ∙ whole.1 first a.0 a.1 (omega (arith, va)))
        (ap (sets_differ s (get_or t₂ u 0 - 2)) (sym db) ∙ whole.1 first b.0 b.1 (omega (arith, vb))) in
        sets_alike s (put j) (named_set s p i) (named_set s p j) (sets_alike s (put i) (put j) (named_set s p i) both (same i (omega arith))) (same j l)

  none_differ : two_of (λ i j. eqb (leader_of s (owner_at s p i)) (leader_of s (owner_at s p j)) && sets_differ s (named_set s p i) (named_set s p j)) m ≡ false
  unfolding two_of
  none_differ =
      any_nowhere (λ j. any (λ i. eqb (leader_of s (owner_at s p i)) (leader_of s (owner_at s p j)) && sets_differ s (named_set s p i) (named_set s p j)) j) m
      (λ j l. any_nowhere (λ i. eqb (leader_of s (owner_at s p i)) (leader_of s (owner_at s p j)) && sets_differ s (named_set s p i) (named_set s p j)) j (pair j l))
    where
      pair : (j : ℕ) → j < m → (i : ℕ) → i < j → (eqb (leader_of s (owner_at s p i)) (leader_of s (owner_at s p j)) && sets_differ s (named_set s p i) (named_set s p j)) ≡ false
      pair j l i k =
          (elim (eqb (leader_of s (owner_at s p i)) (leader_of s (owner_at s p j))) as (λ b. eqb (leader_of s (owner_at s p i)) (leader_of s (owner_at s p j)) ≡ b → (b && sets_differ s (named_set s p i) (named_set s p j)) ≡ false) [
            | true ↦ λ q. alike i j k l (eqb-true _ _ q)
            | false ↦ λ q. refl
          ]) refl

  pub keeps_22 : rule22 s programmes p ≡ false
  unfolding rule22 two_of
  keeps_22 =
      all_none (any (λ i. not (includes s p (owner_at s p i))) m) (any (λ j. any (λ i. eqb (owner_at s p i) (owner_at s p j)) j) m) (any partly (count s objects))
      (any (λ j. any (λ i. eqb (leader_of s (owner_at s p i)) (leader_of s (owner_at s p j)) && sets_differ s (named_set s p i) (named_set s p j)) j) m)
      (any_nowhere (λ i. not (includes s p (owner_at s p i))) m (λ j l. ap not (owners_included j l)))
      (any_nowhere (λ j. any (λ i. eqb (owner_at s p i) (owner_at s p j)) j) m named.2)
      (any_nowhere partly (count s objects) none_partly)
      none_differ

-- a programme that is entered
module _ (s : Sheet) (p : ℕ) (both : Bool) (alike t₀ t₂ : List ℕ) (noughts : Standing (λ x. 0) t₀) (entered : Entered s both alike p t₀ t₂) where
  abbrev put : ℕ → ℕ
  put j = representative alike (named_set s p j)

  -- no two of its contents have one object
  pub entries_apart : Apart (object_at s p) (number s programmes p content_list)
  entries_apart = entered.objects.2

  -- the table tells what it includes
  pub tells_entered : (x : ℕ) → includes s p x ≡ not (eqb (get_or t₂ x 0) 0)
  tells_entered =
      (elim both as (λ b. both ≡ b → (x : ℕ) → includes s p x ≡ not (eqb (get_or t₂ x 0) 0)) [
        | true ↦ λ e.
            let sets = entered.sets e in
            tells_included s p t₀ entered.marked t₂ put (number s programmes p set_list) noughts entered.long sets.0 entered.objects sets.1.noted
        | false ↦ λ e.
            subst (λ (t : List ℕ). (x : ℕ) → includes s p x ≡ not (eqb (get_or t x 0) 0)) (sym (entered.alone e))
            (tells_included s p t₀ entered.marked entered.marked put 0 noughts entered.long refl entered.objects
            (λ k l. absurd (omega arith), λ k l. absurd (omega arith), λ k l. absurd (omega arith), λ k l. absurd (omega arith), λ x l none. refl))
      ]) refl

  -- and it keeps the rules where the groups are kept
  pub entered_kept : length t₀ ≡ count s objects → (both ≡ true → OneSpan s) → Alike s alike → ((l : ℕ) → l < count s objects → GroupKept s t₂ l) → ProgrammeKept s both p
  entered_kept full spans same kept = (
    no_repeat s p entries_apart,
    keeps_21 s p t₂ tells_entered kept,
    λ e.
        let sets = entered.sets e in
        keeps_22 s p t₀ entered.marked t₂ put noughts entered.long sets.0 entered.objects sets.1.noted full (spans e) sets.1.inside (λ j l. same (named_set s p j)) kept,
  )

-- a programme more
pub programme_more : (s : Sheet) (both : Bool) (owners alike : List ℕ) (p : ℕ) (t t' : List ℕ) → Passing s both owners alike → Entered s both alike p t t' → Standing (λ x. 0) t → length t ≡ count s objects
    → ((l : ℕ) → l < count s objects → GroupKept s t' l) → KeptTo s both p → KeptTo s both (p + 1)
programme_more s both owners alike p t t' pass entered noughts full kept before = below_more (ProgrammeKept s both) p before (entered_kept s p both alike t t' noughts entered full pass.2 pass.1 kept)

-- the two words of a list
abbrev SameList : Sheet → ℕ → ℕ → ℕ → Type 0
SameList s p q at = (field s programmes p at ≡ field s programmes q at) × (number s programmes p at ≡ number s programmes q at)

same_words : (s : Sheet) (p q at : ℕ) → same_list s p q at ≡ true → SameList s p q at
unfolding same_list
same_words s p q at e =
    let both = and_both (eqb (field s programmes p at) (field s programmes q at)) (eqb (number s programmes p at) (number s programmes q at)) e in
    (eqb-true (field s programmes p at) (field s programmes q at) both.0, eqb-true (number s programmes p at) (number s programmes q at) both.1)

-- a programme with the lists of another keeps what that keeps
module _ (s : Sheet) (p q : ℕ) where
  same_repeats : SameList s p q content_list → repeats s programmes p content_list ≡ repeats s programmes q content_list
  unfolding repeats entry
  same_repeats same = rw (same.0, same.1) refl

  same_21 : SameList s p q content_list → rule21 s programmes p ≡ rule21 s programmes q
  unfolding rule21 wholly_included included includes entry
  same_21 same = rw (same.0, same.1) refl

  same_22 : SameList s p q content_list → SameList s p q set_list → rule22 s programmes p ≡ rule22 s programmes q
  unfolding rule22 wholly_included included includes sets_named names_set owner_at named_set entry
  same_22 same also = rw (same.0, same.1, also.0, also.1) refl

  pub same_kept : (both : Bool) → same_lists s both p q ≡ true → ProgrammeKept s both q → ProgrammeKept s both p
  unfolding same_lists
  same_kept both e kept =
      let lists = and_both (same_list s p q content_list) (not both || same_list s p q set_list) e in
      let same = same_words s p q content_list lists.0 in
      (same_repeats same ∙ kept.0, same_21 same ∙ kept.1, λ b. same_22 same (same_words s p q set_list (rw b at lists.1)) ∙ kept.2 b)

-- a programme more, which has the lists of the one before it
pub repeated_kept : (s : Sheet) (both : Bool) (from p : ℕ) → (from < p) × (same_lists s both p (p - 1) ≡ true) → KeptTo s both p → KeptTo s both (p + 1)
repeated_kept s both from p same before = below_more (ProgrammeKept s both) p before (same_kept s p (p - 1) both same.1 (before (p - 1) (omega (arith, same.0))))
