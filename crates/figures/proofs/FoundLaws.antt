-- The first of several clashes: it is found where one of them is, and it has what each that is found has; and which verdicts have no
-- figures. Assumes nothing.
use Prim.Native.Nat.{ℕ, zero, suc, ◌<◌}
use mathlib.Core.Path.{◌≡◌, refl, sym, ap, ap₂, ◌∙◌}
use mathlib.Core.Bool.{Bool, true, false, true≢false, ◌||◌}
use mathlib.Core.List.{List, [], ◌∷◌}
use mathlib.Core.Logic.{⊎_elim}
use native.Mathlib.Nat.{eq-or-lt_of_le, le_of_suc-le-suc}
use native.Mathlib.Omega.{arith}
use borrow.Author.Tests.{ne_eqb}
use Rattle.std.specs.Prelude.{Option, Some, None, is_some, IfSome}
use Rattle.sheet.specs.Words.{Sheet}
use Rattle.profile.specs.declared.Place.{Place}
use Rattle.profile.specs.declared.Verdict.TheVariants.{Accepted, Broken}
use Rattle.profile.specs.Counting.{any}
use Rattle.profile.specs.Verdict.{verdict}
use Rattle.profile.proofs.BoolLaws.{or_true}
use Rattle.figures.specs.declared.Clash.{Clash}
use Rattle.figures.specs.declared.Figure.{Figure}
use Rattle.figures.specs.Clashes.{clash, earlier, first_below}
use Rattle.figures.specs.Figures.{clash_figures, figures_by, figures_of, figures}

-- a clash of two figures is found where its test holds
pub clash_found : (b : Bool) (x y : Figure) → is_some (clash b x y) ≡ b
clash_found true x y = refl
clash_found false x y = refl

-- of two clashes one is told where one of them is found
pub earlier_found : (a b : Option Clash) → is_some (earlier a b) ≡ (is_some a || is_some b)
unfolding earlier
earlier_found (Some x) b = refl
earlier_found None b = refl

pub first_found : (a b : Option Clash) → is_some a ≡ true → is_some (earlier a b) ≡ true
first_found a b e = earlier_found a b ∙ ap (λ (t : Bool). t || is_some b) e

pub second_found : (a b : Option Clash) → is_some b ≡ true → is_some (earlier a b) ≡ true
second_found a b e = earlier_found a b ∙ ap (λ (t : Bool). is_some a || t) e ∙ or_true (is_some a)

pub below_found : (f : ℕ → Option Clash) (n : ℕ) → is_some (first_below f n) ≡ any (λ i. is_some (f i)) n
unfolding first_below any
below_found f zero = refl
below_found f (suc n) = earlier_found (first_below f n) (f n) ∙ ap (λ (t : Bool). t || is_some (f n)) (below_found f n)

-- what a search gives that ends with none, and one that ends at the first
pub below_none : (f : ℕ → Option Clash) (n : ℕ) → ((i : ℕ) → i < n → f i ≡ None) → first_below f n ≡ None
unfolding first_below earlier
below_none f zero none = refl
below_none f (suc n) none = rw (below_none f n (λ i l. none i (omega arith))) (none n (omega arith))

pub below_first : (f : ℕ → Option Clash) (n i : ℕ) (x : Clash) → i < n → ((j : ℕ) → j < i → f j ≡ None) → f i ≡ Some x → first_below f n ≡ Some x
unfolding first_below earlier
below_first f zero i x l none is = absurd (omega arith)
below_first f (suc n) i x l none is =
    ⊎_elim
    (λ e. let z : i ≡ n = e in rw (below_none f n (λ j k. none j (omega arith)), ← z) is)
    (λ m. rw (below_first f n i x m none is) refl)
    (eq-or-lt_of_le (le_of_suc-le-suc l))

pub any_eq : (p q : ℕ → Bool) (n : ℕ) → ((k : ℕ) → p k ≡ q k) → any p n ≡ any q n
unfolding any
any_eq p q zero h = refl
any_eq p q (suc n) h = ap₂ (λ (a b : Bool). a || b) (any_eq p q n h) (h n)

module _ (P : Clash → Type 0) where
  pub earlier_keeps : (a b : Option Clash) → IfSome a P → IfSome b P → IfSome (earlier a b) P
  unfolding earlier
  earlier_keeps (Some x) b p q = p
  earlier_keeps None b p q = q

  pub below_keeps : (f : ℕ → Option Clash) (n : ℕ) → ((i : ℕ) → i < n → IfSome (f i) P) → IfSome (first_below f n) P
  unfolding first_below
  below_keeps f zero h = tt
  below_keeps f (suc n) h = earlier_keeps (first_below f n) (f n) (below_keeps f n (λ i l. h i (omega arith))) (h n (omega arith))

  -- what is known where the test holds
  pub clash_keeps : (b : Bool) (x y : Figure) → (b ≡ true → P (record { first = x; second = y })) → IfSome (clash b x y) P
  clash_keeps true x y h = h refl
  clash_keeps false x y h = tt

  pub where_found : (x : Option Clash) → (is_some x ≡ true → IfSome x P) → IfSome x P
  where_found (Some y) h = h refl
  where_found None h = tt

  -- a clash that is found, with its figures
  pub record Found (x : Option Clash) : Type 0 where
    pub clash : Clash
    pub is : x ≡ Some clash
    pub keeps : P clash

  pub found : (x : Option Clash) → is_some x ≡ true → IfSome x P → Found x
  found (Some y) e p = record { clash = y; is = refl; keeps = p }
  found None e p = absurd (true≢false (sym e))

pub if_some : {P Q : Clash → Type 0} (x : Option Clash) → ((y : Clash) → P y → Q y) → IfSome x P → IfSome x Q
if_some (Some y) f p = f y p
if_some None f p = tt

-- the figures of a clash that is found
pub told_figures : (x : Option Clash) (y : Clash) → x ≡ Some y → clash_figures x ≡ y.first ∷ y.second ∷ []
unfolding clash_figures
told_figures x y e = rw e refl

-- and those of a refusal
pub broken_figures : (s : Sheet) (langs : List ℕ) (rule : ℕ) (place : Place) → verdict s langs ≡ Broken rule place → figures s langs ≡ figures_of s rule place
unfolding figures figures_by
broken_figures s langs rule place e = rw e

-- other rules have no figures
pub no_figures_lem : (s : Sheet) (langs : List ℕ) (rule : ℕ) (place : Place) → verdict s langs ≡ Broken rule place → (rule ≡ 18 → ⊥) → (rule ≡ 20 → ⊥) → (rule ≡ 24 → ⊥) → figures s langs ≡ []
unfolding figures_of
no_figures_lem s langs rule place e a b c = broken_figures s langs rule place e ∙ rw (ne_eqb rule 18 a, ne_eqb rule 20 b, ne_eqb rule 24 c)

-- nor has acceptance
pub accepted_none_told : (s : Sheet) (langs : List ℕ) → verdict s langs ≡ Accepted → figures s langs ≡ []
unfolding figures figures_by
accepted_none_told s langs e = rw e
