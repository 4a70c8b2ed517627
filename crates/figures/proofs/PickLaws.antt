-- The list of what f gives the numbers below n that have p: its length, its total, which entries it has and in which order.
-- Assumes nothing.
use Rattle.std.proofs.Common.{◌≡◌, ℕ, zero, suc, ◌+◌, ◌<◌, ◌≤◌, Bool, true, false, cond, refl, ap, sym, ◌∙◌, List, [], ◌∷◌, ◌++◌, length, append-nil, length-append, arith}
use Rattle.std.proofs.Math.ListN.{get_or-append}
use Rattle.std.proofs.lemmas.List.{get_or_push}
use mathlib.Core.Logic.{⊎_elim}
use mathlib.Core.Bool.{true≢false}
use native.Mathlib.Nat.{eq-or-lt_of_le, le_of_suc-le-suc}
use Rattle.profile.specs.Counting.{concat_below, how_many, sum}
use Rattle.figures.specs.declared.Figure.{Figure}
use Rattle.figures.specs.Clashes.{no_figure}
use Rattle.figures.specs.Promises.{figure_at, record_at, derived, total}

-- lists behind one another add up
total_append : (xs ys : List Figure) → total (xs ++ ys) ≡ total xs + total ys
unfolding total
total_append [] ys = omega arith
total_append (x ∷ xs) ys = omega (arith, total_append xs ys)

-- a figure behind those that rise, with a higher record
push_rise : (xs : List Figure) (y : Figure) → ((i : ℕ) → suc i < length xs → record_at xs i < record_at xs (suc i)) → ((i : ℕ) → i < length xs → record_at xs i < y.index)
    → (i : ℕ) → suc i ≤ length xs → record_at (xs ++ (y ∷ [])) i < record_at (xs ++ (y ∷ [])) (suc i)
push_rise xs y ih last i h =
    let first : record_at (xs ++ (y ∷ [])) i ≡ record_at xs i = ap (λ x. x.index) (get_or-append xs (y ∷ []) no_figure i h) in
    ⊎_elim
    (λ q. let at : record_at (xs ++ (y ∷ [])) (suc i) ≡ y.index = ap (λ x. x.index) (get_or_push xs y no_figure (suc i) (sym q)) in omega (arith, first, at, last i h))
    (λ m. let at : record_at (xs ++ (y ∷ [])) (suc i) ≡ record_at xs (suc i) = ap (λ x. x.index) (get_or-append xs (y ∷ []) no_figure (suc i) m) in omega (arith, first, at, ih i m))
    (eq-or-lt_of_le h)

module _ (p : ℕ → Bool) (f : ℕ → Figure) where
  abbrev pub pick : ℕ → List Figure
  pick o = cond (p o) (f o ∷ []) []

  abbrev pub picked : ℕ → List Figure
  picked n = concat_below pick n

  more : (n : ℕ) → p n ≡ true → picked (suc n) ≡ picked n ++ (f n ∷ [])
  unfolding concat_below
  more n e = rw e refl

  longer : (n : ℕ) → p n ≡ true → length (picked (suc n)) ≡ length (picked n) + 1
  longer n e = ap length (more n e) ∙ length-append (picked n) (f n ∷ [])

  same : (n : ℕ) → p n ≡ false → picked (suc n) ≡ picked n
  unfolding concat_below
  same n e = rw (e, append-nil) refl

  pub picked_length : (n : ℕ) → length (picked n) ≡ how_many p n
  unfolding how_many
  picked_length zero = unfold concat_below in refl
  picked_length (suc n) = go (p n) refl (picked_length n)
    where
      go : (b : Bool) → p n ≡ b → (length (picked n) ≡ how_many p n) → length (picked (suc n)) ≡ how_many p (suc n)
      go true e ih = rw (more n e, e) (omega (arith, length-append (picked n) (f n ∷ []), ih))
      go false e ih = rw (same n e, e) (omega (arith, ih))

  pub picked_total : (n : ℕ) → total (picked n) ≡ sum (λ o. cond (p o) (derived (f o).number) 0) n
  unfolding sum total
  picked_total zero = unfold concat_below in refl
  picked_total (suc n) = go (p n) refl (picked_total n)
    where
      one : total (f n ∷ []) ≡ derived (f n).number
      one = omega arith

      go : (b : Bool) → p n ≡ b → (total (picked n) ≡ sum (λ o. cond (p o) (derived (f o).number) 0) n) → total (picked (suc n)) ≡ sum (λ o. cond (p o) (derived (f o).number) 0) (suc n)
      go true e ih = rw (more n e, e) (omega (arith, total_append (picked n) (f n ∷ []), one, ih))
      go false e ih = rw (same n e, e) (omega (arith, ih))

  -- an entry is that of a number with p
  abbrev Entry : ℕ → Figure → Type 0
  Entry n x = (o : ℕ) × ((o < n) × ((p o ≡ true) × (x ≡ f o)))

  pub picked_each : (n i : ℕ) → i < length (picked n) → Entry n (figure_at (picked n) i)
  picked_each zero i h = absurd (let none : length (picked 0) ≡ 0 = unfold concat_below in refl in omega arith)
  picked_each (suc n) i h = go (p n) refl (picked_each n)
    where
      wider : {x : Figure} → Entry n x → Entry (suc n) x
      wider w = (w.0, (omega (arith, w.1.0), (w.1.1.0, w.1.1.1)))

      go : (b : Bool) → p n ≡ b → ((j : ℕ) → j < length (picked n) → Entry n (figure_at (picked n) j)) → Entry (suc n) (figure_at (picked (suc n)) i)
      go true e ih =
          let l = longer n e in
          let at : i ≤ length (picked n) = omega arith in
          rw (more n e)
          (⊎_elim
          (λ q. (n, (omega arith, (e, get_or_push (picked n) (f n) no_figure i (sym q)))))
          (λ m. rw (get_or-append (picked n) (f n ∷ []) no_figure i m) (wider (ih i m)))
          (eq-or-lt_of_le at))
      go false e ih = rw (same n e) (wider (ih i (rw (same n e) at h)))

  -- each number with p has its entry
  pub picked_all : (n o : ℕ) → o < n → p o ≡ true → (i : ℕ) × ((i < length (picked n)) × (figure_at (picked n) i ≡ f o))
  picked_all zero o h e = absurd (omega arith)
  picked_all (suc n) o h e = go (p n) refl (picked_all n)
    where
      below : ((j : ℕ) → j < n → p j ≡ true → (i : ℕ) × ((i < length (picked n)) × (figure_at (picked n) i ≡ f j))) → o < n → p n ≡ true → (i : ℕ) × ((i < length (picked n ++ (f n ∷ []))) × (figure_at (picked n ++ (f n ∷ [])) i ≡ f o))
      below it m d =
          let w = it o m e in
          (w.0, (omega (arith, length-append (picked n) (f n ∷ []), w.1.0), get_or-append (picked n) (f n ∷ []) no_figure w.0 w.1.0 ∙ w.1.1))

      go : (b : Bool) → p n ≡ b → ((j : ℕ) → j < n → p j ≡ true → (i : ℕ) × ((i < length (picked n)) × (figure_at (picked n) i ≡ f j))) → (i : ℕ) × ((i < length (picked (suc n))) × (figure_at (picked (suc n)) i ≡ f o))
      go true d ih =
          rw (more n d)
          (⊎_elim
          (λ q. (length (picked n), (omega (arith, length-append (picked n) (f n ∷ [])), get_or_push (picked n) (f n) no_figure (length (picked n)) refl ∙ ap f (sym q))))
          (λ m. below ih m d)
          (eq-or-lt_of_le (le_of_suc-le-suc h)))
      go false d ih =
          ⊎_elim
          (λ q. absurd (true≢false (sym e ∙ ap p q ∙ d)))
          (λ m. rw (same n d) (ih o m e))
          (eq-or-lt_of_le (le_of_suc-le-suc h))

  -- the records rise
  pub picked_rise : ((o : ℕ) → (f o).index ≡ o) → (n i : ℕ) → suc i < length (picked n) → record_at (picked n) i < record_at (picked n) (suc i)
  picked_rise own zero i h = absurd (let none : length (picked 0) ≡ 0 = unfold concat_below in refl in omega arith)
  picked_rise own (suc n) i h = go (p n) refl (picked_rise own n)
    where
      go : (b : Bool) → p n ≡ b → ((j : ℕ) → suc j < length (picked n) → record_at (picked n) j < record_at (picked n) (suc j)) → record_at (picked (suc n)) i < record_at (picked (suc n)) (suc i)
      go true e ih =
          let l = longer n e in
          let last : (i : ℕ) → i < length (picked n) → record_at (picked n) i < (f n).index =
          λ i m. let w = picked_each n i m in let here : record_at (picked n) i ≡ w.0 = ap (λ x. x.index) w.1.1.1 ∙ own w.0 in omega (arith, here, own n, w.1.0)
          in
          rw (more n e) (push_rise (picked n) (f n) ih last i (omega arith))
      go false e ih = rw (same n e) (ih i (rw (same n e) at h))
