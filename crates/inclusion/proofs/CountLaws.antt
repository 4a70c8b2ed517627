-- Numbers counted in two ways. Assumes nothing.
use Prim.Native.Nat.{ℕ, zero, suc, ◌+◌, ◌<◌, ◌≤◌}
use mathlib.Core.Path.{◌≡◌, refl, sym, ap, ◌∙◌}
use mathlib.Core.Bool.{Bool, true, false, cond, ◌||◌}
use native.Mathlib.Omega.{arith}
use native.Mathlib.Nat.{add-zero}
use borrow.Author.Tests.{eqb-true, ltb-true, ltb-false}
use lib.Dec.{eqb, ltb}
use Rattle.profile.specs.Counting.{any, how_many, sum}
use Rattle.profile.proofs.BoolLaws.{or_false}
use Rattle.tables.proofs.TableLaws.{eqb_turned}
use Rattle.profile.proofs.SumLaws.{sum_eq, sum_swap, sum_two, how_many_sum, how_many_eq}

-- no two of x 0 to x (n - 1) are the same
abbrev pub Apart : (ℕ → ℕ) → ℕ → Type 0
Apart x n = (k : ℕ) → k < n → any (λ i. eqb (x i) (x k)) k ≡ false

-- two summands together are at most the sum
pub sum_pair : (f : ℕ → ℕ) (n j k : ℕ) → (j ≡ k → ⊥) → j < n → k < n → f j + f k ≤ sum f n
sum_pair f n j k other l m =
    (elim (ltb j k) as (λ b. ltb j k ≡ b → f j + f k ≤ sum f n) [
      | true ↦ λ e. sum_two f n j k (ltb-true j k e) m
      | false ↦ λ e. (elim (ltb k j) as (λ b. ltb k j ≡ b → f j + f k ≤ sum f n) [
        | true ↦ λ h. omega (arith, sum_two f n k j (ltb-true k j h) l)
        | false ↦ λ h. let z : j ≡ k = omega (arith, ltb-false j k e, ltb-false k j h) in absurd (other z)
      ]) refl
    ]) refl

-- one of them at most is o
once : (x : ℕ → ℕ) (o n : ℕ) → Apart x n → how_many (λ i. eqb (x i) o) n ≡ cond (any (λ i. eqb (x i) o) n) 1 0
unfolding any how_many
once x o zero h = refl
once x o (suc n) h =
    (elim (eqb (x n) o) as (λ b. eqb (x n) o ≡ b → how_many (λ i. eqb (x i) o) n + cond b 1 0 ≡ cond (any (λ i. eqb (x i) o) n || b) 1 0) [
      | true ↦ λ e.
          let none : any (λ i. eqb (x i) o) n ≡ false = ap (λ (w : ℕ). any (λ i. eqb (x i) w) n) (sym (eqb-true (x n) o e)) ∙ h n (omega arith) in
          let z : how_many (λ i. eqb (x i) o) n ≡ 0 = once x o n (λ k l. h k (omega arith)) ∙ ap (λ (b : Bool). cond b 1 0) none in
          rw (none, z) refl
      | false ↦ λ e. add-zero (how_many (λ i. eqb (x i) o) n) ∙ once x o n (λ k l. h k (omega arith)) ∙ ap (λ (b : Bool). cond b 1 0) (sym (or_false (any (λ i. eqb (x i) o) n)))
    ]) refl

-- How many of the m places k have one of the n numbers, where no two numbers are the same and each is at one place or none: as many as
-- there are numbers at a place.
pub exchange : (place : ℕ → ℕ) (m : ℕ) (x : ℕ → ℕ) (n : ℕ) (placed : ℕ → Bool) → Apart x n
    → ((i : ℕ) → i < n → how_many (λ k. eqb (place k) (x i)) m ≡ cond (placed i) 1 0)
    → how_many (λ k. any (λ i. eqb (x i) (place k)) n) m ≡ how_many placed n
exchange place m x n placed apart each =
    how_many_sum (λ k. any (λ i. eqb (x i) (place k)) n) m
    ∙ sum_eq (λ k. cond (any (λ i. eqb (x i) (place k)) n) 1 0) (λ k. sum (λ i. cond (eqb (x i) (place k)) 1 0) n) m (λ k l. sym (once x (place k) n apart) ∙ how_many_sum (λ i. eqb (x i) (place k)) n)
    ∙ sum_swap (λ k i. cond (eqb (x i) (place k)) 1 0) m n
    ∙ sum_eq (λ i. sum (λ k. cond (eqb (x i) (place k)) 1 0) m) (λ i. cond (placed i) 1 0) n (λ i l. sym (how_many_sum (λ k. eqb (x i) (place k)) m) ∙ how_many_eq (λ k. eqb (x i) (place k)) (λ k. eqb (place k) (x i)) m (λ k h. eqb_turned (x i) (place k)) ∙ each i l)
    ∙ sym (how_many_sum placed n)

-- two of n that have the test
pub two_counted : (p : ℕ → Bool) (n j k : ℕ) → (j ≡ k → ⊥) → j < n → k < n → p j ≡ true → p k ≡ true → 1 < how_many p n
two_counted p n j k other l m a b =
    let pair : cond (p j) 1 0 + cond (p k) 1 0 ≤ sum (λ i. cond (p i) 1 0) n = sum_pair (λ i. cond (p i) 1 0) n j k other l m in
    let x : ◌≡◌ {A = ℕ} (cond (p j) 1 0) 1 = ap (λ (b : Bool). cond b 1 0) a in
    let y : ◌≡◌ {A = ℕ} (cond (p k) 1 0) 1 = ap (λ (b : Bool). cond b 1 0) b in
    omega (arith, pair, x, y, how_many_sum p n)

pub positive : (n : ℕ) → (n ≡ 0 → ⊥) → 0 < n
positive zero h = absurd (h refl)
positive (suc n) h = omega arith
