-- Laws of lists made from the numbers below n, for any type of element. Assumes nothing.
use Prim.Native.Nat.{ℕ, zero, suc, ◌+◌, ◌<◌}
use mathlib.Core.Path.{◌≡◌, refl, ap, ◌∙◌}
use mathlib.Core.Bool.{Bool, true}
use mathlib.Core.List.{List, [], ◌∷◌}
use mathlib.Core.Logic.{⊎_elim}
use native.Mathlib.Omega.{arith}
use native.Mathlib.Nat.{eq-or-lt_of_le, le_of_suc-le-suc}
use lib.ListN.{length, get_or, length-append, get_or-append}
use lib.Seq.{get_or_at}
use Rattle.profile.specs.Counting.{sum, every, concat_below, tabulate}
use Rattle.profile.proofs.BoolLaws.{and_both}

pub sum_ones : (n : ℕ) → sum (λ k. 1) n ≡ n
unfolding sum
sum_ones zero = refl
sum_ones (suc n) = omega (arith, sum_ones n)

module _ {X : Type 0} where
  pub length_concat : (f : ℕ → List X) (n : ℕ) → length (concat_below f n) ≡ sum (λ k. length (f k)) n
  unfolding concat_below sum
  length_concat f zero = refl
  length_concat f (suc n) = length-append (concat_below f n) (f n) ∙ ap (λ (x : ℕ). x + length (f n)) (length_concat f n)

  pub length_tabulate : (f : ℕ → X) (n : ℕ) → length (tabulate f n) ≡ n
  unfolding tabulate
  length_tabulate f n = length_concat (λ k. f k ∷ []) n ∙ sum_ones n

  pub get_d_tabulate : (f : ℕ → X) (n i : ℕ) (d : X) → i < n → get_or (tabulate f n) i d ≡ f i
  unfolding tabulate concat_below
  get_d_tabulate f zero i d l = absurd (omega arith)
  get_d_tabulate f (suc n) i d l =
      ⊎_elim
      (λ e. rw e (get_or_at (concat_below (λ k. f k ∷ []) n) (f n) [] d n (length_tabulate f n)))
      (λ m. get_or-append (concat_below (λ k. f k ∷ []) n) (f n ∷ []) d i (rw (length_tabulate f n) m) ∙ get_d_tabulate f n i d m)
      (eq-or-lt_of_le (le_of_suc-le-suc l))

-- a test that holds at every number below n
pub every_at : (p : ℕ → Bool) (n k : ℕ) → every p n ≡ true → k < n → p k ≡ true
unfolding every
every_at p zero k e l = absurd (omega arith)
every_at p (suc n) k e l =
    let parts = and_both (every p n) (p n) e in
    ⊎_elim (λ q. rw q parts.1) (λ m. every_at p n k parts.0 m) (eq-or-lt_of_le (le_of_suc-le-suc l))

pub every_all : (p : ℕ → Bool) (n : ℕ) → ((k : ℕ) → k < n → p k ≡ true) → every p n ≡ true
unfolding every
every_all p zero h = refl
every_all p (suc n) h = rw (every_all p n (λ k l. h k (omega arith)), h n (omega arith))
