-- n numbers are 0 to n - 1, each once, where none is n or more and no two are the same. Assumes nothing.
use Prim.Native.Nat.{ℕ, zero, suc, ◌+◌, ◌<◌, ◌≤◌}
use mathlib.Core.Path.{◌≡◌, refl, sym, ap, ◌∙◌}
use mathlib.Core.Bool.{Bool, true, false, cond, not, ◌||◌}
use native.Mathlib.Omega.{arith}
use mathlib.Core.Logic.{⊎_elim}
use native.Mathlib.Nat.{eq-or-lt_of_le, le_of_suc-le-suc}
use borrow.Author.Tests.{eqb-true, eq-eqb, lt-ltb, ltb-true, ltb-false, leb-false, lt-leb, not-false}
use lib.Dec.{eqb, leb, ltb}
use Rattle.profile.specs.Counting.{any, how_many, sum, two_of}
use Rattle.profile.proofs.BoolLaws.{or_none}
use Rattle.profile.proofs.CountingLaws.{any_none, any_how_many}
use Rattle.profile.proofs.GroupLaws.{any_witness}
use Rattle.profile.proofs.ListLaws.{sum_ones}
use Rattle.profile.proofs.SumLaws.{when, sum_le, sum_eq, sum_swap, sum_two, sum_at, sum_past, how_many_sum, how_many_all, any_nowhere}

-- one number's places among 0 to n - 1
places : (k n : ℕ) → sum (λ c. when (eqb k c) 1) n ≡ cond (ltb k n) 1 0
places k n =
    (elim (ltb k n) as (λ b. ltb k n ≡ b → sum (λ c. when (eqb k c) 1) n ≡ cond b 1 0) [
      | true ↦ λ e. sum_at (λ c. 1) k n (ltb-true k n e)
      | false ↦ λ e. sum_past (λ c. 1) k n (ltb-false k n e)
    ]) refl

-- none above 1 and n together: each is 1
full : (h : ℕ → ℕ) (n : ℕ) → ((c : ℕ) → c < n → h c ≤ 1) → sum h n ≡ n → (c : ℕ) → c < n → h c ≡ 1
unfolding sum
full h zero most e c l = absurd (omega arith)
full h (suc n) most e c l =
    let m : h n ≤ 1 = most n (omega arith) in
    let s : sum h n ≤ n = omega (arith, sum_le h (λ k. 1) n (λ i k. most i (omega arith)), sum_ones n) in
    ⊎_elim (λ q. ap h q ∙ omega arith) (λ k. full h n (λ i j. most i (omega arith)) (omega arith) c k) (eq-or-lt_of_le (le_of_suc-le-suc l))

module _ (f : ℕ → ℕ) (n : ℕ) where
  abbrev times : ℕ → ℕ
  times c = how_many (λ i. eqb (f i) c) n

  -- all counts together are the numbers below n
  total : sum times n ≡ how_many (λ i. ltb (f i) n) n
  total =
      sum_eq times (λ c. sum (λ i. cond (eqb (f i) c) 1 0) n) n (λ c l. how_many_sum (λ i. eqb (f i) c) n)
      ∙ sum_swap (λ c i. cond (eqb (f i) c) 1 0) n n
      ∙ sum_eq (λ i. sum (λ c. cond (eqb (f i) c) 1 0) n) (λ i. cond (ltb (f i) n) 1 0) n (λ i l. places (f i) n)
      ∙ sym (how_many_sum (λ i. ltb (f i) n) n)

  -- no two the same: each count is at most 1
  at_most_lem : (c m : ℕ) → ((j : ℕ) → j < m → any (λ i. eqb (f i) (f j)) j ≡ false) → how_many (λ i. eqb (f i) c) m ≤ 1
  unfolding how_many
  at_most_lem c zero h = omega arith
  at_most_lem c (suc m) h =
      (elim (eqb (f m) c) as (λ b. eqb (f m) c ≡ b → how_many (λ i. eqb (f i) c) m + cond (eqb (f m) c) 1 0 ≤ 1) [
        | true ↦ λ e.
            let q : f m ≡ c = eqb-true (f m) c e in
            let a : any (λ i. eqb (f i) c) m ≡ false = ap (λ (x : ℕ). any (λ i. eqb (f i) x) m) (sym q) ∙ h m (omega arith) in
            let z : how_many (λ i. eqb (f i) c) m ≡ 0 = eqb-true (how_many (λ i. eqb (f i) c) m) 0 (not-false _ (sym (any_how_many (λ i. eqb (f i) c) m) ∙ a)) in
            rw e (omega arith)
        | false ↦ λ e. rw e (omega (arith, at_most_lem c m (λ j l. h j (omega arith))))
      ]) refl

  -- each of 0 to n - 1 once
  abbrev uneven : Bool
  uneven = any (λ c. not (eqb (times c) 1)) n

  abbrev outside : Bool
  outside = any (λ i. leb n (f i)) n

  abbrev alike : Bool
  alike = two_of (λ i j. eqb (f i) (f j)) n

  even : (outside || alike) ≡ false → uneven ≡ false
  unfolding two_of
  even e =
      let parts = or_none outside alike e in
      let inside : (i : ℕ) → i < n → ltb (f i) n ≡ true = λ i l. lt-ltb (f i) n (leb-false n (f i) (any_none (λ j. leb n (f j)) n parts.0 i l)) in
      let sums : sum times n ≡ n = total ∙ how_many_sum (λ i. ltb (f i) n) n ∙ sum_eq (λ i. cond (ltb (f i) n) 1 0) (λ i. 1) n (λ i l. ap (λ (b : Bool). cond b 1 0) (inside i l)) ∙ sum_ones n in
      any_nowhere (λ c. not (eqb (times c) 1)) n
      (λ c l. ap not (eq-eqb (times c) 1 (full times n (λ d m. at_most_lem d n (any_none (λ j. any (λ i. eqb (f i) (f j)) j) n parts.1)) sums c l)))

  spread : uneven ≡ false → (outside || alike) ≡ false
  unfolding two_of
  spread e =
      let one : (c : ℕ) → c < n → times c ≡ 1 = λ c l. eqb-true (times c) 1 (not-false _ (any_none (λ d. not (eqb (times d) 1)) n e c l)) in
      let all : how_many (λ i. ltb (f i) n) n ≡ n = sym total ∙ sum_eq times (λ c. 1) n one ∙ sum_ones n in
      let inside : (i : ℕ) → i < n → f i < n = λ i l. ltb-true (f i) n (how_many_all (λ j. ltb (f j) n) n all i l) in
      rw (any_nowhere (λ i. leb n (f i)) n (λ i l. lt-leb n (f i) (inside i l))) (any_nowhere (λ j. any (λ i. eqb (f i) (f j)) j) n (apart one inside))
    where
      apart : ((c : ℕ) → c < n → times c ≡ 1) → ((i : ℕ) → i < n → f i < n) → (j : ℕ) → j < n → any (λ i. eqb (f i) (f j)) j ≡ false
      apart one inside j l =
          (elim (any (λ i. eqb (f i) (f j)) j) as (λ b. any (λ i. eqb (f i) (f j)) j ≡ b → b ≡ false) [
            | true ↦ λ q.
                let w = any_witness (λ i. eqb (f i) (f j)) j q in
                let two = sum_two (λ i. cond (eqb (f i) (f j)) 1 0) n w.0 j w.1 l in
                let a : ◌≡◌ {A = ℕ} (cond (eqb (f w.0) (f j)) 1 0) 1 = ap (λ (b : Bool). cond b 1 0) w.2 in
                let b : ◌≡◌ {A = ℕ} (cond (eqb (f j) (f j)) 1 0) 1 = ap (λ (b : Bool). cond b 1 0) (eq-eqb (f j) (f j) refl) in
                absurd (omega (arith, two, a, b, how_many_sum (λ i. eqb (f i) (f j)) n, one (f j) (inside j l)))
            | false ↦ λ q. refl
          ]) refl

  pub once_each : uneven ≡ (outside || alike)
  once_each =
      (elim uneven as (λ b. uneven ≡ b → uneven ≡ (outside || alike)) [
        | true ↦ λ e. (elim (outside || alike) as (λ b. (outside || alike) ≡ b → uneven ≡ b) [
          | true ↦ λ q. e
          | false ↦ λ q. even q
        ]) refl
        | false ↦ λ e. e ∙ sym (spread e)
      ]) refl
