-- Laws of the counting definitions, for any test. Assumes nothing.
use Prim.Native.Nat.{ℕ, zero, suc, ◌+◌, ◌<◌, ◌≤◌}
use mathlib.Core.Path.{◌≡◌, refl, sym, ap, ◌∙◌}
use mathlib.Core.Bool.{Bool, true, false, true≢false, cond, not, ◌||◌}
use mathlib.Core.Logic.{⊎_elim}
use native.Mathlib.Omega.{arith}
use native.Mathlib.Nat.{eq-or-lt_of_le, le_of_suc-le-suc, add-zero}
use lib.Dec.{ltb, eqb}
use borrow.Author.Tests.{le-ltb, ltb-true, ltb-false, ne_eqb}
use Rattle.profile.proofs.BoolLaws.{or_true, or_false}
use Rattle.profile.specs.Counting.{any, how_many, lowest, lowest_from}

module _ (p : ℕ → Bool) where
  -- where the test holds at i the search from i ends there, else it goes on
  hit : (i n : ℕ) → p i ≡ true → lowest_from p i (suc n) ≡ i
  unfolding lowest_from
  hit i n e = rw e

  miss : (i n : ℕ) → p i ≡ false → lowest_from p i (suc n) ≡ lowest_from p (suc i) n
  unfolding lowest_from
  miss i n e = rw e

  from_le : (i n : ℕ) → lowest_from p i n ≤ i + n
  from_le i zero = unfold lowest_from in omega arith
  from_le i (suc n) = go (p i) refl (from_le (suc i) n)
    where
      go : (b : Bool) → p i ≡ b → lowest_from p (suc i) n ≤ suc i + n → lowest_from p i (suc n) ≤ i + suc n
      go true e h = rw (hit i n e) (omega arith)
      go false e h = rw (miss i n e) (omega arith)

  from_holds : (i n : ℕ) → lowest_from p i n < i + n → p (lowest_from p i n) ≡ true
  from_holds i zero l = absurd (unfold lowest_from in omega arith)
  from_holds i (suc n) l = go (p i) refl (from_holds (suc i) n)
    where
      go : (b : Bool) → p i ≡ b → (lowest_from p (suc i) n < suc i + n → p (lowest_from p (suc i) n) ≡ true) → p (lowest_from p i (suc n)) ≡ true
      go true e h = rw (hit i n e) e
      go false e h = rw (miss i n e) (h (omega (arith, rw (miss i n e) at l)))

  from_before : (i n k : ℕ) → i ≤ k → k < lowest_from p i n → p k ≡ false
  from_before i zero k f l = absurd (unfold lowest_from in omega arith)
  from_before i (suc n) k f l = go (p i) refl (from_before (suc i) n k)
    where
      go : (b : Bool) → p i ≡ b → (suc i ≤ k → k < lowest_from p (suc i) n → p k ≡ false) → p k ≡ false
      go true e h = absurd (omega (arith, rw (hit i n e) at l))
      go false e h =
          ⊎_elim (λ q. let z : i ≡ k = q in rw (sym z) e)
          (λ m. h m (rw (miss i n e) at l))
          (eq-or-lt_of_le f)

module _ (p : ℕ → Bool) (n : ℕ) where
  pub lowest_le : lowest p n ≤ n
  unfolding lowest
  lowest_le = omega (arith, from_le p 0 n)

  -- what is found has the test
  pub lowest_holds : lowest p n < n → p (lowest p n) ≡ true
  unfolding lowest
  lowest_holds l = from_holds p 0 n (omega arith)

  -- nothing below it has
  pub lowest_before : (k : ℕ) → k < lowest p n → p k ≡ false
  unfolding lowest
  lowest_before k l = from_before p 0 n k (omega arith) l

  -- the search has found something
  pub found : ltb (lowest p n) n ≡ true → p (lowest p n) ≡ true
  found e = lowest_holds (ltb-true _ _ e)

  -- the search has found nothing
  pub nothing : ltb (lowest p n) n ≡ false → (k : ℕ) → k < n → p k ≡ false
  nothing e k l = lowest_before k (omega (arith, ltb-false (lowest p n) n e))

  -- the search finds something where there is something
  pub finds : (k : ℕ) → k < n → p k ≡ true → ltb (lowest p n) n ≡ true
  finds k l e = go (ltb (lowest p n) n) refl
    where
      go : (b : Bool) → ltb (lowest p n) n ≡ b → ltb (lowest p n) n ≡ true
      go true h = h
      go false h = absurd (true≢false (sym e ∙ nothing h k l))

-- a test that holds nowhere below n
pub any_none : (p : ℕ → Bool) (n : ℕ) → any p n ≡ false → (k : ℕ) → k < n → p k ≡ false
unfolding any
any_none p zero e k l = absurd (omega arith)
any_none p (suc n) e k l = go (any p n) refl (any_none p n)
  where
    go : (b : Bool) → any p n ≡ b → (any p n ≡ false → (k : ℕ) → k < n → p k ≡ false) → p k ≡ false
    go true q h = absurd (true≢false (sym (ap (λ (b : Bool). b || p n) q) ∙ e))
    go false q h =
        ⊎_elim (λ z. let y : k ≡ n = z in rw y (sym (ap (λ (b : Bool). b || p n) q) ∙ e))
        (λ m. h q k m)
        (eq-or-lt_of_le (le_of_suc-le-suc l))

module _ (p : ℕ → Bool) (n : ℕ) where
  -- what a loop that stops at the first gives
  pub lowest_at : (i : ℕ) → i < n → ((k : ℕ) → k < i → p k ≡ false) → p i ≡ true → lowest p n ≡ i
  lowest_at i l before e =
      (elim (ltb (lowest p n) i) as (λ t. ltb (lowest p n) i ≡ t → lowest p n ≡ i) [
        | true ↦ λ f.
            let m : lowest p n < i = ltb-true (lowest p n) i f in
            absurd (true≢false (sym (lowest_holds p n (omega arith)) ∙ before (lowest p n) m))
        | false ↦ λ f.
            ⊎_elim (λ q. sym q) (λ h. absurd (true≢false (sym e ∙ lowest_before p n i h))) (eq-or-lt_of_le (ltb-false (lowest p n) i f))
      ]) refl

  -- and what one gives that does not stop
  pub lowest_none : ((k : ℕ) → k < n → p k ≡ false) → lowest p n ≡ n
  lowest_none none =
      ⊎_elim (λ q. let z : lowest p n ≡ n = q in z)
      (λ h. absurd (true≢false (sym (lowest_holds p n h) ∙ none (lowest p n) h)))
      (eq-or-lt_of_le (lowest_le p n))

  -- the search finds nothing where there is nothing
  pub finds_none : ((k : ℕ) → k < n → p k ≡ false) → ltb (lowest p n) n ≡ false
  finds_none none = ap (λ (m : ℕ). ltb m n) (lowest_none none) ∙ le-ltb n n (omega arith)

-- some number has the test where not none has
pub any_how_many : (p : ℕ → Bool) (n : ℕ) → any p n ≡ not (eqb (how_many p n) 0)
unfolding any how_many
any_how_many p zero = refl
any_how_many p (suc n) = go (p n) refl (any_how_many p n)
  where
    go : (b : Bool) → p n ≡ b → any p n ≡ not (eqb (how_many p n) 0) → (any p n || p n) ≡ not (eqb (how_many p n + cond (p n) 1 0) 0)
    go true e h = rw (e, or_true (any p n), ne_eqb (how_many p n + 1) 0 (λ q. let z : how_many p n + 1 ≡ 0 = q in omega arith))
    go false e h = rw (e, or_false (any p n), h, add-zero)

-- how many is at most all
pub how_many_le : (p : ℕ → Bool) (n : ℕ) → how_many p n ≤ n
unfolding how_many
how_many_le p zero = omega arith
how_many_le p (suc n) = go (p n) refl (how_many_le p n)
  where
    go : (b : Bool) → p n ≡ b → how_many p n ≤ n → how_many p n + cond (p n) 1 0 ≤ suc n
    go true e h = rw e (omega arith)
    go false e h = rw e (omega arith)
