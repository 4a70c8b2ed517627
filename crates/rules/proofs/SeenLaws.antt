-- A table of what was seen of the numbers f 0, f 1 and so on. Assumes nothing.
use Prim.Native.Nat.{ℕ, ◌+◌, ◌<◌}
use mathlib.Core.Path.{◌≡◌, refl, sym, ap, ◌∙◌}
use mathlib.Core.Bool.{Bool, true, false, cond, not, ◌||◌}
use mathlib.Core.List.{List}
use native.Mathlib.Numerals.{add-one}
use lib.Dec.{eqb}
use lib.ListN.{length, get_or, replicate}
use Rattle.profile.specs.Counting.{any}
use Rattle.tables.specs.steps.Marks.{Standing}
use Rattle.tables.proofs.MarkLaws.{nought}
use Rattle.tables.proofs.TableLaws.{flag}

-- 1 stands for those among the first j
abbrev pub Seen : (ℕ → ℕ) → List ℕ → ℕ → Type 0
Seen f t j = Standing (λ x. cond (any (λ i. eqb (f i) x) j) 1 0) t

-- no two of the first j are alike
abbrev pub Unlike : (ℕ → ℕ) → ℕ → Type 0
Unlike f j = (m : ℕ) → m < j → any (λ i. eqb (f i) (f m)) m ≡ false

pub seen_none : (f : ℕ → ℕ) (n : ℕ) → Seen f (replicate n 0) 0
unfolding any
seen_none f n x l = nought n x

module _ (f : ℕ → ℕ) (t : List ℕ) (j y : ℕ) (seen : Seen f t j) (e : y ≡ f j) where
  pub seen_more : (t' : List ℕ) → length t' ≡ length t → Standing (λ z. cond (eqb y z) 1 (get_or t z 0)) t' → Seen f t' (j + 1)
  unfolding any
  seen_more t' long now x l =
      now x l
      ∙ ap (λ (c : ℕ). cond (eqb y x) 1 c) (seen x (rw long at l))
      ∙ ap (λ (w : ℕ). cond (eqb w x) 1 (cond (any (λ i. eqb (f i) x) j) 1 0)) e
      ∙ either (any (λ i. eqb (f i) x) j) (eqb (f j) x)
      ∙ ap (λ (n : ℕ). cond (any (λ i. eqb (f i) x) n) 1 0) (sym (add-one j))
    where
      either : (a b : Bool) → ◌≡◌ {A = ℕ} (cond b 1 (cond a 1 0)) (cond (a || b) 1 0)
      either true true = refl
      either true false = refl
      either false true = refl
      either false false = refl

  -- whether the next was seen
  pub seen_next : y < length t → (r : Bool) → r ≡ not (eqb (get_or t y 0) 0) → any (λ i. eqb (f i) (f j)) j ≡ r
  seen_next l r read = sym (read ∙ ap (λ (c : ℕ). not (eqb c 0)) (seen y l) ∙ flag (any (λ i. eqb (f i) y) j) ∙ ap (λ (w : ℕ). any (λ i. eqb (f i) w) j) e)
