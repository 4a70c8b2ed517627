-- What a programme starts its objects with is legal and in the range that it grants them. Assumes nothing.
use Prim.Native.Nat.{ℕ, ◌<◌}
use mathlib.Core.Path.{◌≡◌, sym, ap, ◌∙◌}
use mathlib.Core.Bool.{Bool, true, cond}
use native.Mathlib.Omega.{arith}
use lib.Dec.{eqb, ltb}
use borrow.Author.Tests.{ltb-true, ltb-false}
use borrow.Table.Steps.{cases}
use Rattle.sheet.specs.Words.{Sheet}
use Rattle.sheet.specs.Layout.{count, field, number}
use Rattle.sheet.specs.Fields.{programmes, objects, value_sets, set_list, set_own}
use Rattle.values.specs.declared.Sort.{Sort}
use Rattle.values.specs.Values.{is_absent, or_else, is_value}
use Rattle.values.proofs.Zero.{zero_value, zero_in_range}
use Rattle.profile.specs.Counting.{how_many, sum, lowest}
use Rattle.profile.specs.Relations.{has_set, owner, named_set, names_set, set_for, object_value, set_value, own_value, effective_value, effective_minimum, effective_maximum}
use Rattle.profile.specs.AcceptedSheet.{AcceptedSheet, Legal, LegalRange, Within}
use Rattle.profile.proofs.CountingLaws.{finds, lowest_holds}
use Rattle.profile.proofs.SumLaws.{how_many_sum, sum_two}
use Rattle.profile.proofs.GroupLaws.{any_witness}
use Rattle.granted.specs.Granted.{start_value, granted_minimum, granted_maximum}

-- a legal word, or else a value, is a value
legal_or : (t : Sort) (w d : ℕ) → Legal t w → is_value t d ≡ true → is_value t (or_else w d) ≡ true
unfolding or_else
legal_or t w d h e =
    cases (is_absent w)
    (λ q. rw q e)
    (λ q. rw q (rw q at h))

-- what is counted once is in one place
pub once : (p : ℕ → Bool) (n i j : ℕ) → how_many p n ≡ 1 → i < n → j < n → p i ≡ true → p j ≡ true → i ≡ j
once p n i j e l m a b =
    let f : ℕ → ℕ = λ k. cond (p k) 1 0 in
    let one : sum f n ≡ 1 = sym (how_many_sum p n) ∙ e in
    let fi : f i ≡ 1 = ap (λ (t : Bool). cond t 1 0) a in
    let fj : f j ≡ 1 = ap (λ (t : Bool). cond t 1 0) b in
    cases (ltb i j)
    (λ x. absurd (omega (arith, sum_two f n i j (ltb-true i j x) m)))
    (λ x. cases (ltb j i)
    (λ y. absurd (omega (arith, sum_two f n j i (ltb-true j i y) l)))
    (λ y. omega (arith, ltb-false i j x, ltb-false j i y)))

module _ (s : Sheet) (a : AcceptedSheet s) where
  -- the owner of a set is the object whose span has it
  owner_of : (o v : ℕ) → o < count s objects → v < count s value_sets → has_set s o v ≡ true → owner s v ≡ o
  unfolding owner
  owner_of o v l m e =
      let p : ℕ → Bool = λ q. has_set s q v in
      let f : lowest p (count s objects) < count s objects = ltb-true _ _ (finds p (count s objects) o l e) in
      once p (count s objects) (lowest p (count s objects)) o (a.one_span v m) f l (lowest_holds p (count s objects) f) e

  -- the set that a programme names for an object is one of the sheet, and the object's
  named : (p o : ℕ) → p < count s programmes → names_set s p o ≡ true → (set_for s p o < count s value_sets) × (has_set s o (set_for s p o) ≡ true)
  unfolding names_set set_for
  named p o l e =
      let t : ℕ → Bool = λ i. has_set s o (named_set s p i) in
      let n : ℕ = number s programmes p set_list in
      let w = any_witness t n e in
      let f : lowest t n < n = ltb-true _ _ (finds t n w.0 w.1 w.2) in
      (a.set_index p (lowest t n) l f, lowest_holds t n f)

  own_legal : (o : ℕ) (t : Sort) → o < count s objects → is_value t (own_value s o t) ≡ true
  unfolding own_value
  own_legal o t l = legal_or t (field s objects o (object_value t)) 0 (a.object_value_lem o t l) (zero_value t)

  pub start_legal : (p o : ℕ) (t : Sort) → p < count s programmes → o < count s objects → is_value t (start_value s p o t) ≡ true
  unfolding start_value effective_value
  start_legal p o t l m =
      cases (names_set s p o)
      (λ e. rw e (legal_or t (field s value_sets (set_for s p o) (set_value t)) (own_value s o t) (a.set_value_lem (set_for s p o) t (named p o l e).0) (own_legal o t m)))
      (λ e. rw e (own_legal o t m))

  pub start_within : (p o : ℕ) (t : Sort) → p < count s programmes → o < count s objects → Within t (granted_minimum s p o t) (start_value s p o t) (granted_maximum s p o t)
  unfolding start_value granted_minimum granted_maximum
  start_within p o t l m =
      cases (names_set s p o)
      (λ e.
      let n = named p o l e in
      rw e (rw (owner_of o (set_for s p o) m n.0 n.1) at (a.set_within (set_for s p o) t n.0)))
      (λ e. rw e (a.object_within o t m))

  effective_legal : (o v : ℕ) (t : Sort) → o < count s objects → v < count s value_sets → LegalRange t (effective_minimum s o v t) (effective_maximum s o v t)
  unfolding effective_minimum effective_maximum
  effective_legal o v t l m =
      cases (eqb (field s value_sets v set_own) 1)
      (λ e. rw e (a.set_range_lem v t m))
      (λ e. rw e (a.object_range_lem o t l))

  pub granted_legal : (p o : ℕ) (t : Sort) → p < count s programmes → o < count s objects → LegalRange t (granted_minimum s p o t) (granted_maximum s p o t)
  unfolding granted_minimum granted_maximum
  granted_legal p o t l m =
      cases (names_set s p o)
      (λ e. rw e (effective_legal o (set_for s p o) t m (named p o l e).0))
      (λ e. rw e (a.object_range_lem o t m))

  -- 0 is in every range that is granted
  pub zero_within : (p o : ℕ) (t : Sort) → p < count s programmes → o < count s objects → Within t (granted_minimum s p o t) 0 (granted_maximum s p o t)
  zero_within p o t l m present = let r = granted_legal p o t l m present in zero_in_range t (granted_minimum s p o t) (granted_maximum s p o t) r.0 r.1
