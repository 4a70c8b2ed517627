-- Figures in sixteen places: what stands there. Assumes nothing.
use Rattle.std.proofs.Common.{◌≡◌, ℕ, suc, ◌+◌, ◌-◌, ◌<◌, ◌≤◌, refl, ap, ◌∙◌, List, [], ◌∷◌, ◌++◌, length, replicate, append_assoc, append-nil, length-append, take, arith}
use Rattle.std.proofs.Math.Seq.{set-append_seam, take-append_seam}
use borrow.Author.Tests.{lt-leb}
use Rattle.figures.specs.declared.Figure.{Figure}
use Rattle.figures.specs.declared.Figures.{Figures}
use Rattle.figures.specs.Clashes.{no_figure}
use Rattle.figures.specs.Lists.{most_figures, no_figures, with_figure, first_figures, FiguresGiven}

-- a list of figures with k free places behind it
abbrev places : List Figure → ℕ → Figures
places ys k = record { count = length ys; lines = ys ++ replicate k no_figure }

-- one figure more
one_more : (ys : List Figure) (k : ℕ) (x : Figure) → length ys + suc k ≡ most_figures → with_figure (places ys (suc k)) x ≡ places (ys ++ (x ∷ [])) k
unfolding with_figure
one_more ys k x e =
    let room : length ys < most_figures = omega arith in
    rw (lt-leb most_figures (length ys) room, set-append_seam, length-append ys (x ∷ []), append_assoc ys (x ∷ [])) refl

-- a list behind another
behind : (xs ys : List Figure) (k : ℕ) → length ys + (length xs + k) ≡ most_figures → first_figures (places ys (length xs + k)) xs ≡ places (ys ++ xs) k
unfolding first_figures
behind [] ys k e =
    let none : 0 + k ≡ k = omega arith in rw append-nil (ap (places ys) none)
behind (x ∷ xs) ys k e =
    let more : length (ys ++ (x ∷ [])) + (length xs + k) ≡ most_figures = omega (arith, length-append ys (x ∷ [])) in
    let moved : suc (length xs) + k ≡ suc (length xs + k) = omega arith in
    let room : length ys + suc (length xs + k) ≡ most_figures = omega arith in
    rw (moved, one_more ys (length xs + k) x room) (behind xs (ys ++ (x ∷ [])) k more ∙ ap (λ t. places t k) (append_assoc ys (x ∷ []) xs))

-- a list that has room stands there whole
pub first_given : (xs : List Figure) → length xs ≤ most_figures → FiguresGiven xs (first_figures no_figures xs)
first_given xs h =
    let k = most_figures - length xs in
    let e : most_figures ≡ length xs + k = omega arith in
    let b : first_figures (places [] (length xs + k)) xs ≡ places xs k = behind xs [] k (omega arith) in
    let w : first_figures no_figures xs ≡ places xs k = ap (λ n. first_figures (places [] n) xs) e ∙ b in
    rw w (record { number = refl; listed = refl })

-- and its part that is there is the list
pub given_list : (xs : List Figure) (given : Figures) → FiguresGiven xs given → take given.count given.lines ≡ xs
given_list xs given g = rw (g.number, g.listed) (take-append_seam xs (replicate (most_figures - length xs) no_figure))
