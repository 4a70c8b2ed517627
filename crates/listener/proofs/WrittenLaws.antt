-- A loop that writes runs one behind the other: what a turn keeps, and what the end gives. Assumes nothing.
use Prim.Native.Nat.{ℕ, zero, suc, ◌+◌, ◌<◌, ◌≤◌}
use mathlib.Core.Path.{◌≡◌, refl, ap, ◌∙◌}
use mathlib.Core.List.{List, [], ◌∷◌, ◌++◌}
use mathlib.Core.Logic.{⊎_elim}
use native.Mathlib.Nat.{le_of_suc-le-suc, eq-or-lt_of_le, add-zero}
use native.Mathlib.Numerals.{add-one}
use native.Mathlib.Omega.{arith}
use lib.ListN.{length, set, length-append}
use lib.Seq.{sets, length-sets}
use Rattle.profile.specs.Counting.{concat_below}

-- one run after the other
pub sets_append : (l : List ℕ) (i : ℕ) (a b : List ℕ) → sets l i (a ++ b) ≡ sets (sets l i a) (i + length a) b
sets_append l i [] b = rw add-zero
sets_append l i (x ∷ a) b = sets_append (set l i x) (suc i) a b ∙ ap (λ (k : ℕ). sets (sets (set l i x) (suc i) a) k b) (omega arith)

concat_more : (k : ℕ) (f : ℕ → List ℕ) → concat_below f (k + 1) ≡ concat_below f k ++ f k
unfolding concat_below
concat_more k f = rw add-one

-- some runs and the next are within all
concat_fits : (n : ℕ) (f : ℕ → List ℕ) (k : ℕ) → k < n → length (concat_below f k) + length (f k) ≤ length (concat_below f n)
unfolding concat_below
concat_fits zero f k l = absurd (omega arith)
concat_fits (suc n) f k l =
    ⊎_elim
    (λ (q : k ≡ n). let z : length (concat_below f k) + length (f k) ≡ length (concat_below f n) + length (f n) = ap (λ (j : ℕ). length (concat_below f j) + length (f j)) q in rw length-append (omega arith))
    (λ (m : k < n). rw length-append (omega (arith, concat_fits n f k m)))
    (eq-or-lt_of_le (le_of_suc-le-suc l))

-- the first k runs of n are written, from `from` on
pub record Written (f : ℕ → List ℕ) (n from : ℕ) (out₀ out : List ℕ) (pos k : ℕ) : Type 0 where
  pub place : pos ≡ from + length (concat_below f k)
  pub right : out ≡ sets out₀ from (concat_below f k)

pub written_none : (f : ℕ → List ℕ) (n from : ℕ) (out : List ℕ) → Written f n from out out from 0
unfolding concat_below
written_none f n from out = record { place = omega arith; right = refl }

module _ {f : ℕ → List ℕ} {n from : ℕ} {out₀ out : List ℕ} {pos k : ℕ} (w : Written f n from out₀ out pos k) where
  pub written_more : (out' : List ℕ) (pos' : ℕ) → k < n → pos' ≡ pos + length (f k) → out' ≡ sets out pos (f k) → Written f n from out₀ out' pos' (k + 1)
  written_more out' pos' l p q =
      record {
        place = rw (concat_more, length-append) (omega (arith, w.place));
        right = q ∙ rw (concat_more, sets_append, w.right, w.place);
      }

  -- the next run has room
  pub room : k < n → from + length (concat_below f n) ≤ length out₀ → pos + length (f k) ≤ length out
  room l h = omega (arith, w.place, concat_fits n f k l, ap length w.right, length-sets out₀ from (concat_below f k))

  -- nothing is longer or shorter
  pub same_long : length out ≡ length out₀
  same_long = ap length w.right ∙ length-sets out₀ from (concat_below f k)

  -- at the end all are written
  pub written_all : k ≡ n → (pos ≡ from + length (concat_below f n)) × (out ≡ sets out₀ from (concat_below f n))
  written_all e =
      (w.place ∙ ap (λ (j : ℕ). from + length (concat_below f j)) e, w.right ∙ ap (λ (j : ℕ). sets out₀ from (concat_below f j)) e)
