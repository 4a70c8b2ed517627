-- Laws of finite sums and counts, over any function and any test. Assumes nothing.
use Prim.Native.Nat.{ℕ, zero, suc, ◌+◌, ◌<◌, ◌≤◌, zero-le, max}
use mathlib.Core.Path.{◌≡◌, refl, ap, sym, ◌∙◌}
use mathlib.Core.Bool.{Bool, true, false, cond, ◌&&◌}
use mathlib.Core.Logic.{⊎_elim}
use native.Mathlib.Omega.{arith}
use native.Mathlib.Nat.{eq-or-lt_of_le, le_of_suc-le-suc, zero-add, add-zero, le_trans}
use lib.Dec.{eqb}
use borrow.Author.Tests.{eq-eqb, ne_eqb}
use Rattle.profile.proofs.BoolLaws.{or_true}
use Rattle.profile.proofs.CountingLaws.{how_many_le}
use Rattle.profile.specs.Counting.{any, how_many, sum, largest}

-- x where the test holds, else 0
abbrev pub when : Bool → ℕ → ℕ
when b x = cond b x 0

-- what holds below n and at n holds below n + 1
split_last : (P : ℕ → Type 0) (n : ℕ) → ((k : ℕ) → k < n → P k) → P n → (k : ℕ) → k < suc n → P k
split_last P n below last k l = ⊎_elim (λ e. rw e last) (λ m. below k m) (eq-or-lt_of_le (le_of_suc-le-suc l))

pub sum_le : (f g : ℕ → ℕ) (n : ℕ) → ((i : ℕ) → i < n → f i ≤ g i) → sum f n ≤ sum g n
unfolding sum
sum_le f g zero h = zero-le
sum_le f g (suc n) h = omega (arith, sum_le f g n (λ i p. h i (omega arith)), h n (omega arith))

pub sum_eq : (f g : ℕ → ℕ) (n : ℕ) → ((i : ℕ) → i < n → f i ≡ g i) → sum f n ≡ sum g n
unfolding sum
sum_eq f g zero h = refl
sum_eq f g (suc n) h = omega (arith, sum_eq f g n (λ i p. h i (omega arith)), h n (omega arith))

pub sum_zero : (f : ℕ → ℕ) (n : ℕ) → ((i : ℕ) → i < n → f i ≡ 0) → sum f n ≡ 0
unfolding sum
sum_zero f zero h = refl
sum_zero f (suc n) h = omega (arith, sum_zero f n (λ i p. h i (omega arith)), h n (omega arith))

pub sum_add : (f g : ℕ → ℕ) (n : ℕ) → sum (λ i. f i + g i) n ≡ sum f n + sum g n
unfolding sum
sum_add f g zero = refl
sum_add f g (suc n) = omega (arith, sum_add f g n)

pub sum_swap : (f : ℕ → ℕ → ℕ) (m n : ℕ) → sum (λ i. sum (f i) n) m ≡ sum (λ j. sum (λ i. f i j) m) n
unfolding sum
sum_swap f zero n = sym (sum_zero (λ j. 0) n (λ i p. refl))
sum_swap f (suc m) n = ap (λ (x : ℕ). x + sum (f m) n) (sum_swap f m n) ∙ sym (sum_add (λ j. sum (λ i. f i j) m) (f m) n)

-- one summand is at most the sum
pub sum_one : (f : ℕ → ℕ) (n k : ℕ) → k < n → f k ≤ sum f n
unfolding sum
sum_one f zero k l = absurd (omega arith)
sum_one f (suc n) k l = split_last (λ j. f j ≤ sum f n + f n) n (λ j m. omega (arith, sum_one f n j m)) (omega arith) k l

-- two summands together are
pub sum_two : (f : ℕ → ℕ) (n j k : ℕ) → j < k → k < n → f j + f k ≤ sum f n
unfolding sum
sum_two f zero j k m l = absurd (omega arith)
sum_two f (suc n) j k m l =
    ⊎_elim (λ e. rw e (omega (arith, sum_one f n j (rw e at m)))) (λ h. omega (arith, sum_two f n j k m h)) (eq-or-lt_of_le (le_of_suc-le-suc l))

-- a sum goes on unchanged where the summands are 0
pub sum_more : (f : ℕ → ℕ) (m n : ℕ) → m ≤ n → ((i : ℕ) → m ≤ i → i < n → f i ≡ 0) → sum f n ≡ sum f m
unfolding sum
sum_more f m zero l h = let e : m ≡ 0 = omega arith in rw e
sum_more f m (suc n) l h =
    ⊎_elim (λ e. rw e refl)
    (λ k. omega (arith, sum_more f m n (le_of_suc-le-suc k) (λ i a b. h i a (omega arith)), h n (le_of_suc-le-suc k) (omega arith)))
    (eq-or-lt_of_le l)

-- the one index that a test for equality picks
pub sum_past : (f : ℕ → ℕ) (k n : ℕ) → n ≤ k → sum (λ i. when (eqb k i) (f i)) n ≡ 0
sum_past f k n h = sum_zero (λ i. when (eqb k i) (f i)) n (λ i p. rw (ne_eqb k i (λ q. let z : k ≡ i = q in absurd (omega arith))))

pub sum_at : (f : ℕ → ℕ) (k n : ℕ) → k < n → sum (λ i. when (eqb k i) (f i)) n ≡ f k
unfolding sum
sum_at f k zero h = absurd (omega arith)
sum_at f k (suc n) h =
    ⊎_elim
    (λ q. let z : k ≡ n = q in rw (sum_past f k n (omega arith), eq-eqb k n z, z, zero-add))
    (λ m. let d : eqb k n ≡ false = ne_eqb k n (λ q. let z : k ≡ n = q in absurd (omega arith)) in rw (sum_at f k n m, d, add-zero))
    (eq-or-lt_of_le (le_of_suc-le-suc h))

-- a count is a sum
pub how_many_sum : (p : ℕ → Bool) (n : ℕ) → how_many p n ≡ sum (λ i. cond (p i) 1 0) n
unfolding how_many sum
how_many_sum p zero = refl
how_many_sum p (suc n) = ap (λ (x : ℕ). x + cond (p n) 1 0) (how_many_sum p n)

pub how_many_eq : (p q : ℕ → Bool) (n : ℕ) → ((i : ℕ) → i < n → p i ≡ q i) → how_many p n ≡ how_many q n
how_many_eq p q n h =
    how_many_sum p n ∙ sum_eq (λ i. cond (p i) 1 0) (λ i. cond (q i) 1 0) n (λ i l. ap (λ (b : Bool). cond b 1 0) (h i l)) ∙ sym (how_many_sum q n)

-- where all have the test, none fails it
pub how_many_all : (p : ℕ → Bool) (n : ℕ) → how_many p n ≡ n → (k : ℕ) → k < n → p k ≡ true
unfolding how_many
how_many_all p zero e k l = absurd (omega arith)
how_many_all p (suc n) e k l =
    (elim (p n) as (λ b. p n ≡ b → p k ≡ true) [
      | true ↦ λ h. split_last (λ j. p j ≡ true) n (how_many_all p n (omega (arith, rw h at e))) h k l
      | false ↦ λ h. absurd (omega (arith, how_many_le p n, rw h at e))
    ]) refl

-- some number has the test where there is one
pub any_one : (p : ℕ → Bool) (n k : ℕ) → k < n → p k ≡ true → any p n ≡ true
unfolding any
any_one p zero k l e = absurd (omega arith)
any_one p (suc n) k l e =
    ⊎_elim (λ q. let z : p n ≡ true = ap p (sym q) ∙ e in rw z (or_true (any p n)))
    (λ m. rw (any_one p n k m e))
    (eq-or-lt_of_le (le_of_suc-le-suc l))

-- the largest is at least each
pub largest_one : (f : ℕ → ℕ) (n k : ℕ) → k < n → f k ≤ largest f n
unfolding largest
largest_one f zero k l = absurd (omega arith)
largest_one f (suc n) k l = split_last (λ j. f j ≤ max (largest f n) (f n)) n (λ j m. omega (arith, largest_one f n j m)) (omega arith) k l

-- a count by its first and the others
pub how_many_shift : (p : ℕ → Bool) (n : ℕ) → how_many p (suc n) ≡ cond (p 0) 1 0 + how_many (λ i. p (suc i)) n
unfolding how_many
how_many_shift p zero = omega arith
how_many_shift p (suc n) = omega (arith, how_many_shift p n)

-- a count of 0 leaves no number with the test
none_at : (b : ℕ → Bool) (n : ℕ) → how_many b n ≡ 0 → (i : ℕ) → i < n → b i ≡ false
none_at b n e i l =
    (elim (b i) as (λ t. b i ≡ t → b i ≡ false) [
      | true ↦ λ h. let one : ◌≡◌ {A = ℕ} (cond (b i) 1 0) 1 = rw h in absurd (omega (arith, sum_one (λ k. cond (b k) 1 0) n i l, how_many_sum b n))
      | false ↦ λ h. h
    ]) refl

-- one number at most has the test: what it is worth is counted once at most
pub at_most_once : (b : ℕ → Bool) (c n : ℕ) → how_many b n ≤ 1 → sum (λ i. cond (b i) c 0) n ≤ c
unfolding sum how_many
at_most_once b c zero h = zero-le
at_most_once b c (suc n) h =
    (elim (b n) as (λ t. b n ≡ t → sum (λ i. cond (b i) c 0) n + cond (b n) c 0 ≤ c) [
      | true ↦ λ e.
          let none : how_many b n ≡ 0 = omega (arith, rw e at h) in
          let zeros : sum (λ i. cond (b i) c 0) n ≡ 0 = sum_zero (λ i. cond (b i) c 0) n (λ i l. rw (none_at b n none i l)) in
          rw (e, zeros) (omega arith)
      | false ↦ λ e. rw e (omega (arith, at_most_once b c n (omega (arith, rw e at h))))
    ]) refl

-- Each number o that counts is in the unit `lead o`. Where each unit has at most one that counts, and none is larger than its unit's
-- share, all that counts is at most the shares together.
module _ (n : ℕ) (counts : ℕ → Bool) (size share lead : ℕ → ℕ) (one : (u : ℕ) → u < n → how_many (λ o. counts o && eqb (lead o) u) n ≤ 1)
    (fits : (o : ℕ) → o < n → counts o ≡ true → (lead o < n) × (size o ≤ share (lead o))) where
  in_units : (o : ℕ) → o < n → cond (counts o) (size o) 0 ≤ sum (λ u. cond (counts o && eqb (lead o) u) (share u) 0) n
  in_units o l =
      (elim (counts o) as (λ t. counts o ≡ t → cond (counts o) (size o) 0 ≤ sum (λ u. cond (counts o && eqb (lead o) u) (share u) 0) n) [
        | true ↦ λ e. let f = fits o l e in rw (e, sum_at share (lead o) n f.0) f.1
        | false ↦ λ e. rw e zero-le
      ]) refl

  pub unit_bound : sum (λ o. cond (counts o) (size o) 0) n ≤ sum share n
  unit_bound =
      le_trans (sum_le (λ o. cond (counts o) (size o) 0) (λ o. sum (λ u. cond (counts o && eqb (lead o) u) (share u) 0) n) n in_units)
      (rw (sum_swap (λ o u. cond (counts o && eqb (lead o) u) (share u) 0) n n)
      (sum_le (λ u. sum (λ o. cond (counts o && eqb (lead o) u) (share u) 0) n) share n (λ u l. at_most_once (λ o. counts o && eqb (lead o) u) (share u) n (one u l))))

-- none has a test that holds nowhere
pub any_nowhere : (p : ℕ → Bool) (n : ℕ) → ((k : ℕ) → k < n → p k ≡ false) → any p n ≡ false
unfolding any
any_nowhere p zero h = refl
any_nowhere p (suc n) h = rw (any_nowhere p n (λ k l. h k (omega arith)), h n (omega arith))
