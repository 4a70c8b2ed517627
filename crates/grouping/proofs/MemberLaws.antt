-- Groups where rule 19 is kept: no two have a member in common, and none has one twice. Assumes nothing.
use Prim.Native.Nat.{ℕ, ◌+◌, ◌<◌, ◌≤◌}
use mathlib.Core.Path.{◌≡◌, refl, sym, ap, ◌∙◌}
use mathlib.Core.Bool.{Bool, true, false, true≢false, cond, not}
use native.Mathlib.Omega.{arith}
use native.Mathlib.Nat.{zero-add, add-zero}
use borrow.Author.Tests.{eqb-true, eqb-false, ne_eqb, ltb-true, ltb-false, not-false}
use lib.Dec.{eqb, ltb}
use Rattle.sheet.specs.Words.{Sheet}
use Rattle.sheet.specs.Layout.{count, number, entry}
use Rattle.sheet.specs.Fields.{objects, complement_list}
use Rattle.profile.specs.Counting.{any, how_many, sum, lowest}
use Rattle.profile.specs.Relations.{lists, times, top, leader, complement, member, members, leader_of, has_set, owner}
use Rattle.profile.specs.Rules.{bad_complement, rule19}
use Rattle.profile.proofs.BoolLaws.{or_none_3}
use Rattle.profile.proofs.CountingLaws.{any_none, any_how_many, lowest_holds, finds}
use Rattle.profile.proofs.GroupLaws.{members_counted, any_witness, lists_witness, lists_times, own_leader, leader_lists}
use Rattle.profile.proofs.SumLaws.{sum_one, how_many_sum}
use Rattle.inclusion.proofs.CountLaws.{Apart, sum_pair, exchange}
use Rattle.tables.proofs.TableLaws.{eqb_turned}

-- no list has an object that is no complement
unlisted : (s : Sheet) (o l : ℕ) → complement s o ≡ false → l < count s objects → times s objects l complement_list o ≡ 0
unfolding complement lists times
unlisted s o l e m =
    let none : any (λ i. eqb (entry s objects l complement_list i) o) (number s objects l complement_list) ≡ false = any_none (λ j. lists s objects j complement_list o) (count s objects) e l m in
    eqb-true _ _ (not-false _ (sym (any_how_many (λ i. eqb (entry s objects l complement_list i) o) (number s objects l complement_list)) ∙ none))

module _ (s : Sheet) (kept : any (rule19 s objects) (count s objects) ≡ false) where
  -- a complement is no leader and is in one list, once
  good : (o i : ℕ) → o < count s objects → i < number s objects o complement_list
      → (leader s (entry s objects o complement_list i) ≡ false) × (sum (λ l. times s objects l complement_list (entry s objects o complement_list i)) (count s objects) ≤ 1)
  unfolding rule19 bad_complement
  good o i m n =
      let q : ℕ = entry s objects o complement_list i in
      let parts = or_none_3 (not (top s q)) (leader s q) (ltb 1 (sum (λ l. times s objects l complement_list q) (count s objects)))
      (any_none (λ j. bad_complement s (entry s objects o complement_list j)) (number s objects o complement_list) (any_none (rule19 s objects) (count s objects) kept o m) i n) in
      (parts.1, ltb-false _ _ parts.2)

  follows : (o : ℕ) → complement s o ≡ true → (leader s o ≡ false) × (sum (λ l. times s objects l complement_list o) (count s objects) ≤ 1)
  follows o e =
      let k = leader_lists s o e in
      let w = lists_witness s objects (leader_of s o) complement_list o k.1 in
      rw w.2 at (good (leader_of s o) w.0 k.0 w.1)

  -- an object is once in its own group, and in no other
  in_group : (l o : ℕ) → l < count s objects → leader s l ≡ true → how_many (λ i. eqb (member s l i) o) (members s l) ≡ cond (eqb (leader_of s o) l) 1 0
  in_group l o m h =
      members_counted s l o
      ∙ (elim (complement s o) as (λ b. complement s o ≡ b → cond (eqb l o) 1 0 + times s objects l complement_list o ≡ cond (eqb (leader_of s o) l) 1 0) [
        | true ↦ λ e. listed e
        | false ↦ λ e. rw (own_leader s o e, unlisted s o l e m, add-zero, eqb_turned l o) refl
      ]) refl
    where
      listed : complement s o ≡ true → cond (eqb l o) 1 0 + times s objects l complement_list o ≡ cond (eqb (leader_of s o) l) 1 0
      listed e =
          let f : ℕ → ℕ = λ j. times s objects j complement_list o in
          let k = leader_lists s o e in
          let some : 1 ≤ times s objects (leader_of s o) complement_list o = lists_times s objects (leader_of s o) complement_list o k.1 in
          let most : sum f (count s objects) ≤ 1 = (follows o e).1 in
          let other : eqb l o ≡ false = ne_eqb l o (λ q. true≢false (sym h ∙ ap (leader s) q ∙ (follows o e).0)) in
          (elim (eqb (leader_of s o) l) as (λ b. eqb (leader_of s o) l ≡ b → cond (eqb l o) 1 0 + times s objects l complement_list o ≡ cond b 1 0) [
            | true ↦ λ q.
                let z : leader_of s o ≡ l = eqb-true (leader_of s o) l q in
                let one : 1 ≤ times s objects l complement_list o = rw z at some in
                rw (other, zero-add) (omega (arith, one, most, sum_one f (count s objects) l m))
            | false ↦ λ q. rw (other, zero-add) (omega (arith, some, most, sum_pair f (count s objects) (leader_of s o) l (eqb-false (leader_of s o) l q) k.0 m))
          ]) refl

  -- the members of a group that are among x 0 to x (n - 1): as many as those that have its leader
  pub group_count : (x : ℕ → ℕ) (n l : ℕ) → Apart x n → l < count s objects → leader s l ≡ true
      → how_many (λ k. any (λ i. eqb (x i) (member s l k)) n) (members s l) ≡ how_many (λ i. eqb (leader_of s (x i)) l) n
  group_count x n l apart m h = exchange (member s l) (members s l) x n (λ i. eqb (leader_of s (x i)) l) apart (λ i k. in_group l (x i) m h)

-- a set that is in one span is its owner's and no other's
pub one_owner : (s : Sheet) (v o : ℕ) → o < count s objects → how_many (λ q. has_set s q v) (count s objects) ≡ 1 → has_set s o v ≡ eqb (owner s v) o
unfolding owner
one_owner s v o l one =
    let p : ℕ → Bool = λ q. has_set s q v in
    let n : ℕ = count s objects in
    let some : any p n ≡ true = any_how_many p n ∙ ap (λ (c : ℕ). not (eqb c 0)) one in
    let w = any_witness p n some in
    let first : lowest p n < n = ltb-true _ _ (finds p n w.0 w.1 w.2) in
    let holds : has_set s (lowest p n) v ≡ true = lowest_holds p n first in
    (elim (eqb (lowest p n) o) as (λ b. eqb (lowest p n) o ≡ b → has_set s o v ≡ b) [
      | true ↦ λ e. ap p (sym (eqb-true (lowest p n) o e)) ∙ holds
      | false ↦ λ e. (elim (has_set s o v) as (λ b. has_set s o v ≡ b → b ≡ false) [
        | true ↦ λ h.
            let two = sum_pair (λ q. cond (p q) 1 0) n (lowest p n) o (eqb-false (lowest p n) o e) first l in
            let a : ◌≡◌ {A = ℕ} (cond (has_set s (lowest p n) v) 1 0) 1 = ap (λ (b : Bool). cond b 1 0) holds in
            let b : ◌≡◌ {A = ℕ} (cond (has_set s o v) 1 0) 1 = ap (λ (b : Bool). cond b 1 0) h in
            absurd (omega (arith, two, a, b, how_many_sum p n, one))
        | false ↦ λ h. refl
      ]) refl
    ]) refl
