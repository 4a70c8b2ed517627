-- A loop that fills a list by its index, whole or from its start on: what a turn keeps, and what the end gives. For any type of element.
-- Assumes nothing.
use Prim.Native.Nat.{ℕ, ◌+◌, ◌<◌, ◌≤◌}
use mathlib.Core.Path.{◌≡◌, sym, ◌∙◌}
use mathlib.Core.List.{List}
use native.Mathlib.Omega.{arith}
use lib.Dec.{ltb}
use lib.ListN.{length, get_or, set, replicate, length-set, length-replicate, get_or-replicate}
use lib.Seq.{get_or-set_same, get_or-set_other, ext_get_or}
use borrow.Author.Count.{below_none, below_more}
use borrow.Author.Tests.{ltb-true, ltb-false}
use borrow.Table.Steps.{cases}
use Rattle.profile.specs.Counting.{tabulate}
use Rattle.profile.proofs.ListLaws.{length_tabulate, get_d_tabulate}

module _ {X : Type 0} where
  -- the first i places of t, of n, are right
  pub record Filled (n : ℕ) (f : ℕ → X) (d : X) (t : List X) (i : ℕ) : Type 0 where
    pub long : length t ≡ n
    pub right : (k : ℕ) → k < i → get_or t k d ≡ f k

  pub filled_more : {n : ℕ} {f : ℕ → X} {d : X} {t : List X} {i : ℕ} (v : X) → Filled n f d t i → i < n → v ≡ f i → Filled n f d (set t i v) (i + 1)
  filled_more {n} {f} {d} {t} {i} v h l e =
      let b : i < length t = omega (arith, h.long) in
      record {
        long = length-set t i v ∙ h.long;
        right = below_more (λ k. get_or (set t i v) k d ≡ f k) i
            (λ k m. get_or-set_other t i k v d (λ q. let z : k ≡ i = q in absurd (omega arith)) ∙ h.right k m)
            (get_or-set_same t i v d b ∙ e);
      }

  pub filled_all : {n : ℕ} {f : ℕ → X} {d : X} {t : List X} {i : ℕ} → Filled n f d t i → n ≤ i → t ≡ tabulate f n
  filled_all {n} {f} {d} {t} {i} h l =
      ext_get_or d t (tabulate f n) (h.long ∙ sym (length_tabulate f n))
      (λ k m. h.right k (omega (arith, h.long)) ∙ sym (get_d_tabulate f n k d (omega (arith, h.long))))

  -- and the others are as they were
  pub record Begun (n : ℕ) (f : ℕ → X) (d e : X) (t : List X) (i : ℕ) : Type 0 where
    pub filled : Filled n f d t i
    pub rest : (k : ℕ) → i ≤ k → k < n → get_or t k d ≡ e

  pub begun_none : (n : ℕ) (f : ℕ → X) (d e : X) → Begun n f d e (replicate n e) 0
  begun_none n f d e =
      record {
        filled = record { long = length-replicate n e; right = below_none _ };
        rest = λ k l m. get_or-replicate n k e d m;
      }

  pub begun_more : {n : ℕ} {f : ℕ → X} {d e : X} {t : List X} {i : ℕ} (v : X) → Begun n f d e t i → i < n → v ≡ f i → Begun n f d e (set t i v) (i + 1)
  begun_more {n} {f} {d} {e} {t} {i} v h l q =
      record {
        filled = filled_more v h.filled l q;
        rest = λ k m b. get_or-set_other t i k v d (λ z. let y : k ≡ i = z in absurd (omega arith)) ∙ h.rest k (omega arith) b;
      }

  -- a loop that ends before the list does, where the others were right before it
  pub begun_all : {n : ℕ} {f : ℕ → X} {d e : X} {t : List X} {i : ℕ} → Begun n f d e t i → ((k : ℕ) → i ≤ k → k < n → e ≡ f k) → t ≡ tabulate f n
  begun_all {n} {f} {d} {e} {t} {i} h g =
      ext_get_or d t (tabulate f n) (h.filled.long ∙ sym (length_tabulate f n)) (λ k m. at k (omega (arith, h.filled.long)) ∙ sym (get_d_tabulate f n k d (omega (arith, h.filled.long))))
    where
      at : (k : ℕ) → k < n → get_or t k d ≡ f k
      at k m =
          cases (ltb k i)
          (λ z. h.filled.right k (ltb-true k i z))
          (λ z. h.rest k (ltb-false k i z) m ∙ g k (ltb-false k i z) m)
