-- Tables filled from the end. Assumes nothing.
use Rattle.std.specs.Prelude.{min}
use Prim.Native.Nat.{ℕ, zero, suc, ◌+◌, ◌<◌, ◌≤◌}
use mathlib.Core.Path.{◌≡◌, refl, sym, ap, ap₂, ◌∙◌}
use mathlib.Core.Bool.{Bool, true, false, true≢false, cond, ◌&&◌, ◌||◌}
use mathlib.Core.List.{List}
use mathlib.Core.Logic.{⊎_elim}
use native.Mathlib.Omega.{arith}
use native.Mathlib.Nat.{add-zero, eq-or-lt_of_le}
use borrow.Author.Tests.{lt-ltb, le-ltb, ltb-true, ltb-false, eqb-true, eqb-false}
use lib.Dec.{eqb, ltb}
use lib.ListN.{length, get_or}
use Rattle.profile.specs.Counting.{any, two_of}
use Rattle.profile.proofs.BoolLaws.{or_false, and_both}
use Rattle.tables.specs.steps.Marks.{Standing}
use Rattle.tables.proofs.TableLaws.{any_below, eqb_turned}
use Rattle.runs.specs.steps.Runs.{Next, Repeat}

-- the first of the numbers, and the others
any_shift : (p : ℕ → Bool) (n : ℕ) → any p (suc n) ≡ (p 0 || any (λ i. p (suc i)) n)
unfolding any
any_shift p zero = sym (or_false (p 0))
any_shift p (suc n) = ap (λ (b : Bool). b || p (suc n)) (any_shift p n) ∙ grouped (p 0) (any (λ i. p (suc i)) n) (p (suc n))
  where
    grouped : (a b d : Bool) → ((a || b) || d) ≡ (a || (b || d))
    grouped true b d = refl
    grouped false b d = refl

-- one of two tests
any_either : (p q : ℕ → Bool) (n : ℕ) → any (λ i. p i || q i) n ≡ (any p n || any q n)
unfolding any
any_either p q zero = refl
any_either p q (suc n) = ap (λ (b : Bool). b || (p n || q n)) (any_either p q n) ∙ exchanged (any p n) (any q n) (p n) (q n)
  where
    exchanged : (a b d e : Bool) → ((a || b) || (d || e)) ≡ ((a || d) || (b || e))
    exchanged true b d e = refl
    exchanged false true true e = refl
    exchanged false true false e = refl
    exchanged false false d e = refl

two_shift : (r : ℕ → ℕ → Bool) (n : ℕ) → two_of r (suc n) ≡ (any (λ j. r 0 (suc j)) n || two_of (λ i j. r (suc i) (suc j)) n)
unfolding two_of
two_shift r n =
    any_shift (λ j. any (λ i. r i j) j) n
    ∙ ap (λ (b : Bool). b || any (λ j. any (λ i. r i (suc j)) (suc j)) n) none
    ∙ any_below (λ j. any (λ i. r i (suc j)) (suc j)) (λ j. r 0 (suc j) || any (λ i. r (suc i) (suc j)) j) n (λ j l. any_shift (λ i. r i (suc j)) j)
    ∙ any_either (λ j. r 0 (suc j)) (λ j. any (λ i. r (suc i) (suc j)) j) n
  where
    none : any (λ i. r i 0) 0 ≡ false
    none = unfold any in refl

-- below either of two
lower_below : (a b y : ℕ) → ltb (min a b) y ≡ (ltb a y || ltb b y)
lower_below a b y =
    (elim (ltb a y) as (λ t. ltb a y ≡ t → ltb (min a b) y ≡ (t || ltb b y)) [
      | true ↦ λ e. lt-ltb (min a b) y (omega (arith, ltb-true a y e))
      | false ↦ λ e.
          (elim (ltb b y) as (λ t. ltb b y ≡ t → ltb (min a b) y ≡ t) [
            | true ↦ λ f. lt-ltb (min a b) y (omega (arith, ltb-true b y f))
            | false ↦ λ f. le-ltb (min a b) y (omega (arith, ltb-false a y e, ltb-false b y f))
          ]) refl
    ]) refl

module _ (m : ℕ) where
  -- past the last there is none
  pub next_start : (p : ℕ → Bool) (v : ℕ) → m ≤ v → Next p m m v
  unfolding any
  next_start p v l zero h = le-ltb v (m + 0) (omega arith)
  next_start p v l (suc n) h = absurd (omega arith)

  pub repeat_start : (f : ℕ → ℕ) (v : ℕ) → m ≤ v → Repeat f m m v
  unfolding any two_of
  repeat_start f v l zero h = le-ltb v (m + 0) (omega arith)
  repeat_start f v l (suc n) h = absurd (omega arith)

  module _ (x : ℕ) (inside : suc x ≤ m) where
    -- what is found from the next index on is past this one
    past : (v : ℕ) (b : Bool) → ltb v (suc x + 0) ≡ b → b ≡ false → x ≤ v
    past v b e z = let l : suc x + 0 ≤ v = ltb-false v (suc x + 0) (e ∙ z) in omega arith

    -- one index more
    pub next_more : (p : ℕ → Bool) (v : ℕ) → Next p m (suc x) v → Next p m x (cond (p x) x v)
    next_more p v h zero l =
        (elim (p x) as (λ b. p x ≡ b → ltb (cond b x v) (x + 0) ≡ any (λ i. p (x + i)) 0) [
          | true ↦ λ e. unfold any in le-ltb x (x + 0) (omega arith)
          | false ↦ λ e. unfold any in le-ltb v (x + 0) (omega (arith, past v _ (h 0 (omega arith)) (unfold any in refl)))
        ]) refl
    next_more p v h (suc n) l =
        (elim (p x) as (λ b. p x ≡ b → ltb (cond b x v) (x + suc n) ≡ any (λ i. p (x + i)) (suc n)) [
          | true ↦ λ e. lt-ltb x (x + suc n) (omega arith) ∙ sym (split ∙ ap (λ (b : Bool). b || any (λ i. p (suc x + i)) n) e)
          | false ↦ λ e.
              let z : x + suc n ≡ suc x + n = omega arith in
              ap (ltb v) z ∙ h n (omega arith) ∙ sym (split ∙ ap (λ (b : Bool). b || any (λ i. p (suc x + i)) n) e)
        ]) refl
      where
        split : any (λ i. p (x + i)) (suc n) ≡ (p x || any (λ i. p (suc x + i)) n)
        split =
            any_shift (λ i. p (x + i)) n
            ∙ ap₂ (λ (a b : Bool). a || b) (ap p (add-zero x)) (any_below (λ i. p (x + suc i)) (λ i. p (suc x + i)) n (λ i k. let z : x + suc i ≡ suc x + i = omega arith in ap p z))

    pub repeat_more : (f : ℕ → ℕ) (w v : ℕ) → Next (λ y. eqb (f y) (f x)) m (suc x) w → Repeat f m (suc x) v → Repeat f m x (min w v)
    repeat_more f w v g h zero l =
        lower_below w v (x + 0)
        ∙ ap₂ (λ (a b : Bool). a || b) (le-ltb w (x + 0) (omega (arith, past w _ (g 0 (omega arith)) (unfold any in refl)))) (le-ltb v (x + 0) (omega (arith, past v _ (h 0 (omega arith)) (unfold any two_of in refl))))
        ∙ unfold any two_of in refl
    repeat_more f w v g h (suc n) l =
        lower_below w v (x + suc n)
        ∙ ap₂ (λ (a b : Bool). a || b) (ap (ltb w) z ∙ g n (omega arith) ∙ first) (ap (ltb v) z ∙ h n (omega arith) ∙ others)
        ∙ sym (two_shift (λ i j. eqb (f (x + i)) (f (x + j))) n)
      where
        z : x + suc n ≡ suc x + n
        z = omega arith

        at : (i : ℕ) → f (suc x + i) ≡ f (x + suc i)
        at i = let y : suc x + i ≡ x + suc i = omega arith in ap f y

        first : any (λ i. eqb (f (suc x + i)) (f x)) n ≡ any (λ j. eqb (f (x + 0)) (f (x + suc j))) n
        first =
            any_below (λ i. eqb (f (suc x + i)) (f x)) (λ j. eqb (f (x + 0)) (f (x + suc j))) n
            (λ i k. eqb_turned (f (suc x + i)) (f x) ∙ ap₂ (λ (a b : ℕ). eqb a b) (ap f (sym (add-zero x))) (at i))

        others : two_of (λ i j. eqb (f (suc x + i)) (f (suc x + j))) n ≡ two_of (λ i j. eqb (f (x + suc i)) (f (x + suc j))) n
        others =
            unfold two_of in
            any_below (λ j. any (λ i. eqb (f (suc x + i)) (f (suc x + j))) j) (λ j. any (λ i. eqb (f (x + suc i)) (f (x + suc j))) j) n
            (λ j k. any_below (λ i. eqb (f (suc x + i)) (f (suc x + j))) (λ i. eqb (f (x + suc i)) (f (x + suc j))) j (λ i q. ap₂ (λ (a b : ℕ). eqb a b) (at i) (at j)))

-- what stands from x on has P
abbrev pub FilledFrom : (ℕ → ℕ → Type 0) → ℕ → ℕ → List ℕ → Type 0
FilledFrom P m x t = (z : ℕ) → x ≤ z → z < length t → z < m → P z (get_or t z 0)

pub filled_start : (P : ℕ → ℕ → Type 0) (m : ℕ) (t : List ℕ) → FilledFrom P m m t
filled_start P m t z a b d = absurd (omega arith)

pub filled_more : (P : ℕ → ℕ → Type 0) (m x v : ℕ) (t t' : List ℕ) → length t' ≡ length t → FilledFrom P m (suc x) t → P x v
    → Standing (λ z. cond (eqb x z) v (get_or t z 0)) t' → FilledFrom P m x t'
filled_more P m x v t t' long before here now z a b d =
    (elim (eqb x z) as (λ q. eqb x z ≡ q → P z (get_or t' z 0)) [
      | true ↦ λ e.
          let k : get_or t' z 0 ≡ v = now z b ∙ ap (λ (q : Bool). cond q v (get_or t z 0)) e in
          rw (k, ← eqb-true x z e) here
      | false ↦ λ e.
          let k : get_or t' z 0 ≡ get_or t z 0 = now z b ∙ ap (λ (q : Bool). cond q v (get_or t z 0)) e in
          rw k (before z (⊎_elim (λ q. absurd (eqb-false x z e q)) (λ l. l) (eq-or-lt_of_le a)) (rw long at b) d)
    ]) refl

pub all_three : (a b d : Bool) → (a && b && d) ≡ true → (a ≡ true) × (b ≡ true) × (d ≡ true)
all_three true b d e = (refl, (and_both b d e).0, (and_both b d e).1)
all_three false b d e = absurd (true≢false (sym e))
