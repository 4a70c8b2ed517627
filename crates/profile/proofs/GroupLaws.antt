-- Leaders, members, inclusion and naming on a sheet that has what acceptance grants. Assumes nothing.
use Prim.Native.Nat.{ℕ, zero, suc, ◌+◌, ◌<◌, ◌≤◌}
use mathlib.Core.Path.{◌≡◌, refl, sym, ap, subst, ◌∙◌}
use mathlib.Core.Bool.{Bool, true, false, true≢false, cond, not}
use mathlib.Core.Logic.{⊎_elim}
use native.Mathlib.Omega.{arith}
use native.Mathlib.Nat.{le_of_suc-le-suc, eq-zero-or-pos}
use lib.Dec.{eqb, ltb}
use borrow.Author.Tests.{ltb-true, ltb-false, lt-ltb, eqb-true, eq-eqb, ne_eqb, not-false}
use Rattle.sheet.specs.Words.{Sheet}
use Rattle.sheet.specs.Layout.{count, field, number, entry}
use Rattle.sheet.specs.Fields.{programmes, contents, objects, content_list, content_object, child_list, complement_list}
use Rattle.profile.specs.Counting.{any, how_many, sum, lowest}
use Rattle.profile.specs.Relations.{lists, times, top, leader, complement, member, members, leader_of, includes, included, wholly_included, namings}
use Rattle.profile.specs.AcceptedSheet.{AcceptedSheet}
use Rattle.profile.proofs.CountingLaws.{any_how_many, any_none, lowest_holds, finds}
use Rattle.profile.proofs.SumLaws.{sum_one, sum_two, any_one, how_many_all, how_many_shift}

-- where some number has the test, one can be named
pub any_witness : (p : ℕ → Bool) (n : ℕ) → any p n ≡ true → (k : ℕ) × (k < n) × (p k ≡ true)
unfolding any
any_witness p zero e = absurd (true≢false (sym e))
any_witness p (suc n) e =
    (elim (any p n) as (λ b. any p n ≡ b → (k : ℕ) × (k < suc n) × (p k ≡ true)) [
      | true ↦ λ h. let w = any_witness p n h in (w.0, omega (arith, w.1), w.2)
      | false ↦ λ h. (n, omega arith, rw h at e)
    ]) refl

-- what is counted once or more holds somewhere, and the other way round
pub any_count : (p : ℕ → Bool) (n : ℕ) → any p n ≡ true → 1 ≤ how_many p n
any_count p n e =
    ⊎_elim
    (λ z. absurd (true≢false (sym e ∙ any_how_many p n ∙ ap (λ (k : ℕ). not (eqb k 0)) z)))
    (λ l. l)
    (eq-zero-or-pos (how_many p n))

-- an entry of a list is in it
pub lists_entry : (s : Sheet) (section k at i : ℕ) → i < number s section k at → lists s section k at (entry s section k at i) ≡ true
unfolding lists
lists_entry s section k at i l = any_one (λ j. eqb (entry s section k at j) (entry s section k at i)) (number s section k at) i l (eq-eqb (entry s section k at i) (entry s section k at i) refl)

-- what is in a list is an entry of it
pub lists_witness : (s : Sheet) (section k at x : ℕ) → lists s section k at x ≡ true → (i : ℕ) × (i < number s section k at) × (entry s section k at i ≡ x)
unfolding lists
lists_witness s section k at x e =
    let w = any_witness (λ j. eqb (entry s section k at j) x) (number s section k at) e in
    (w.0, w.1, eqb-true _ _ w.2)

pub lists_times : (s : Sheet) (section k at x : ℕ) → lists s section k at x ≡ true → 1 ≤ times s section k at x
unfolding lists times
lists_times s section k at x e = any_count (λ i. eqb (entry s section k at i) x) (number s section k at) e

-- an object that is in no complement list leads itself
pub own_leader : (s : Sheet) (o : ℕ) → complement s o ≡ false → leader_of s o ≡ o
unfolding leader_of
own_leader s o e = rw e

-- the leader of one that is in some list lists it
pub leader_lists : (s : Sheet) (o : ℕ) → complement s o ≡ true → (leader_of s o < count s objects) × (lists s objects (leader_of s o) complement_list o ≡ true)
unfolding leader_of complement
leader_lists s o e =
    let p : ℕ → Bool = λ l. lists s objects l complement_list o in
    let w = any_witness p (count s objects) e in
    let f : lowest p (count s objects) < count s objects = ltb-true _ _ (finds p (count s objects) w.0 w.1 w.2) in
    rw e (f, lowest_holds p (count s objects) f)

-- the leader of an object of the sheet is one too
pub leader_index : (s : Sheet) (o : ℕ) → o < count s objects → leader_of s o < count s objects
leader_index s o m =
    (elim (complement s o) as (λ b. complement s o ≡ b → leader_of s o < count s objects) [
      | true ↦ λ e. (leader_lists s o e).0
      | false ↦ λ e. rw (own_leader s o e) m
    ]) refl

-- who lists something is a leader
pub lists_leader : (s : Sheet) (l x : ℕ) → lists s objects l complement_list x ≡ true → leader s l ≡ true
unfolding leader
lists_leader s l x e = let w = lists_witness s objects l complement_list x e in lt-ltb 0 (number s objects l complement_list) (omega (arith, w.1))

-- the members of a group
pub member_zero : (s : Sheet) (l : ℕ) → member s l 0 ≡ l
unfolding member
member_zero s l = refl

pub member_suc : (s : Sheet) (l i : ℕ) → member s l (suc i) ≡ entry s objects l complement_list i
unfolding member
member_suc s l i = refl

-- whoever has a leader for its leader is one of the members
pub member_of : (s : Sheet) (q : ℕ) → leader s (leader_of s q) ≡ true → (i : ℕ) × (i < members s (leader_of s q)) × (member s (leader_of s q) i ≡ q)
unfolding members
member_of s q h =
    (elim (complement s q) as (λ b. complement s q ≡ b → (i : ℕ) × (i < members s (leader_of s q)) × (member s (leader_of s q) i ≡ q)) [
      | true ↦ λ e.
          let w = lists_witness s objects (leader_of s q) complement_list q (leader_lists s q e).1 in
          (suc w.0, omega (arith, w.1), member_suc s (leader_of s q) w.0 ∙ w.2)
      | false ↦ λ e. (0, omega arith, member_zero s (leader_of s q) ∙ own_leader s q e)
    ]) refl

pub member_at : (s : Sheet) (q u : ℕ) → leader_of s q ≡ u → leader s u ≡ true → (i : ℕ) × (i < members s u) × (member s u i ≡ q)
member_at s q u z e = subst (λ (x : ℕ). (i : ℕ) × (i < members s x) × (member s x i ≡ q)) z (member_of s q (rw z e))

-- where the leader of an object is none, it is the object itself
pub no_leader : (s : Sheet) (q : ℕ) → leader s (leader_of s q) ≡ false → leader_of s q ≡ q
no_leader s q h =
    (elim (complement s q) as (λ b. complement s q ≡ b → leader_of s q ≡ q) [
      | true ↦ λ e. absurd (true≢false (sym (lists_leader s (leader_of s q) q (leader_lists s q e).1) ∙ h))
      | false ↦ λ e. own_leader s q e
    ]) refl

-- how often an object is among the members: as the leader, and in its list
pub members_counted : (s : Sheet) (l o : ℕ) → how_many (λ i. eqb (member s l i) o) (members s l) ≡ cond (eqb l o) 1 0 + times s objects l complement_list o
unfolding members member times
members_counted s l o = how_many_shift (λ i. eqb (member s l i) o) (number s objects l complement_list)

module _ (s : Sheet) (a : AcceptedSheet s) where
  -- who lists a complement is the only one
  lister : (o i l : ℕ) → o < count s objects → i < number s objects o complement_list → l < count s objects
      → lists s objects l complement_list (entry s objects o complement_list i) ≡ true → l ≡ o
  lister o i l m n k e =
      let q : ℕ = entry s objects o complement_list i in
      let f : ℕ → ℕ = λ j. times s objects j complement_list q in
      let mine : 1 ≤ times s objects o complement_list q = lists_times s objects o complement_list q (lists_entry s objects o complement_list i n) in
      let other : 1 ≤ times s objects l complement_list q = lists_times s objects l complement_list q e in
      let most : sum f (count s objects) ≤ 1 = a.complement_once o i m n in
      (elim (ltb l o) as (λ b. ltb l o ≡ b → l ≡ o) [
        | true ↦ λ x. absurd (omega (arith, sum_two f (count s objects) l o (ltb-true l o x) m))
        | false ↦ λ x. (elim (ltb o l) as (λ b. ltb o l ≡ b → l ≡ o) [
          | true ↦ λ y. absurd (omega (arith, sum_two f (count s objects) o l (ltb-true o l y) k))
          | false ↦ λ y. omega (arith, ltb-false l o x, ltb-false o l y)
        ]) refl
      ]) refl

  is_complement : (o i : ℕ) → o < count s objects → i < number s objects o complement_list → complement s (entry s objects o complement_list i) ≡ true
  unfolding complement
  is_complement o i m n = any_one (λ l. lists s objects l complement_list (entry s objects o complement_list i)) (count s objects) o m (lists_entry s objects o complement_list i n)

  -- the leader of a complement is who lists it
  pub complement_leader : (o i : ℕ) → o < count s objects → i < number s objects o complement_list → leader_of s (entry s objects o complement_list i) ≡ o
  complement_leader o i m n =
      let w = leader_lists s (entry s objects o complement_list i) (is_complement o i m n) in
      lister o i (leader_of s (entry s objects o complement_list i)) m n w.0 w.1

  -- a leader is no complement
  pub leader_alone : (l : ℕ) → leader s l ≡ true → complement s l ≡ false
  leader_alone l h =
      (elim (complement s l) as (λ b. complement s l ≡ b → complement s l ≡ false) [
        | true ↦ λ e.
            let k = leader_lists s l e in
            let w = lists_witness s objects (leader_of s l) complement_list l k.1 in
            absurd (true≢false (sym (rw (sym w.2) at h) ∙ a.complement_follows (leader_of s l) w.0 k.0 w.1))
        | false ↦ λ e. e
      ]) refl

  pub leads_itself : (l : ℕ) → leader s l ≡ true → leader_of s l ≡ l
  leads_itself l h = own_leader s l (leader_alone l h)

  -- a member's leader, its index and its being top
  pub member_leader : (l i : ℕ) → l < count s objects → leader s l ≡ true → i < members s l → leader_of s (member s l i) ≡ l
  unfolding members
  member_leader l zero m h k = rw (member_zero s l) (leads_itself l h)
  member_leader l (suc i) m h k = rw (member_suc s l i) (complement_leader l i m (le_of_suc-le-suc k))

  pub member_index : (l i : ℕ) → l < count s objects → i < members s l → member s l i < count s objects
  unfolding members
  member_index l zero m k = rw (member_zero s l) m
  member_index l (suc i) m k = rw (member_suc s l i) (a.complement_index l i m (le_of_suc-le-suc k))

  pub member_top : (l i : ℕ) → l < count s objects → leader s l ≡ true → i < members s l → top s (member s l i) ≡ true
  unfolding members
  member_top l zero m h k = rw (member_zero s l) (a.leader_top l m h)
  member_top l (suc i) m h k = rw (member_suc s l i) (a.complement_top l i m (le_of_suc-le-suc k))

  -- what a programme includes is a top object of the sheet
  pub included_top : (p o : ℕ) → p < count s programmes → includes s p o ≡ true → (o < count s objects) × (top s o ≡ true)
  unfolding includes top
  included_top p o l e =
      let w = any_witness (λ i. eqb (field s contents (entry s programmes p content_list i) content_object) o) (number s programmes p content_list) e in
      let c : ℕ = entry s programmes p content_list w.0 in
      let m : c < count s contents = a.content_index p w.0 l w.1 in
      let q : field s contents c content_object ≡ o = eqb-true _ _ w.2 in
      (rw (sym q) (a.object_index c m), any_one (λ j. eqb (field s contents j content_object) o) (count s contents) c m w.2)

  -- all members of a wholly included group are included
  pub whole_member : (p l i : ℕ) → wholly_included s p l ≡ true → i < members s l → includes s p (member s l i) ≡ true
  unfolding wholly_included included
  whole_member p l i e m = how_many_all (λ j. includes s p (member s l j)) (members s l) (eqb-true _ _ e) i m

  -- no child list names a top object
  pub top_no_child : (o q : ℕ) → o < count s objects → q < count s objects → top s o ≡ true → times s objects q child_list o ≡ 0
  unfolding top namings
  top_no_child o q m k e =
      let once : how_many (λ c. eqb (field s contents c content_object) o) (count s contents) + sum (λ j. times s objects j child_list o) (count s objects) ≡ 1 = a.named_once o m in
      let some : 1 ≤ how_many (λ c. eqb (field s contents c content_object) o) (count s contents) = any_count (λ c. eqb (field s contents c content_object) o) (count s contents) e in
      omega (arith, sum_one (λ j. times s objects j child_list o) (count s objects) q k)

  -- an object is once among the members of its group
  listed_once : (o : ℕ) → complement s o ≡ true → (eqb (leader_of s o) o ≡ false) × (times s objects (leader_of s o) complement_list o ≡ 1)
  listed_once o e =
      let k = leader_lists s o e in
      let w = lists_witness s objects (leader_of s o) complement_list o k.1 in
      let most : sum (λ l. times s objects l complement_list o) (count s objects) ≤ 1 = rw w.2 at (a.complement_once (leader_of s o) w.0 k.0 w.1) in
      let follows : leader s o ≡ false = rw w.2 at (a.complement_follows (leader_of s o) w.0 k.0 w.1) in (
        ne_eqb (leader_of s o) o (λ q. true≢false (sym (rw q at (lists_leader s (leader_of s o) o k.1)) ∙ follows)),
        omega (arith, lists_times s objects (leader_of s o) complement_list o k.1, sum_one (λ l. times s objects l complement_list o) (count s objects) (leader_of s o) k.0),
      )

  unlisted : (o l : ℕ) → complement s o ≡ false → l < count s objects → times s objects l complement_list o ≡ 0
  unfolding complement lists times
  unlisted o l e m =
      let none : any (λ i. eqb (entry s objects l complement_list i) o) (number s objects l complement_list) ≡ false = any_none (λ j. lists s objects j complement_list o) (count s objects) e l m in
      eqb-true _ _ (not-false _ (sym (any_how_many (λ i. eqb (entry s objects l complement_list i) o) (number s objects l complement_list)) ∙ none))

  pub member_once : (o : ℕ) → o < count s objects → leader s (leader_of s o) ≡ true → how_many (λ i. eqb (member s (leader_of s o) i) o) (members s (leader_of s o)) ≡ 1
  member_once o m h =
      members_counted s (leader_of s o) o
      ∙ (elim (complement s o) as (λ b. complement s o ≡ b → cond (eqb (leader_of s o) o) 1 0 + times s objects (leader_of s o) complement_list o ≡ 1) [
        | true ↦ λ e. let k = listed_once o e in rw (k.0, k.1)
        | false ↦ λ e. let q = own_leader s o e in rw (q, eq-eqb o o refl, unlisted o o e m)
      ]) refl
