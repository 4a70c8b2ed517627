-- Lists of figures, handed back in sixteen places. Assumes nothing.
use Rattle.std.proofs.Common.{◌≡◌, refl, List, [], ◌∷◌, ◌++◌}
use Rattle.figures.specs.declared.Figure.{Figure}
use Rattle.figures.specs.declared.Figures.{Figures}
use Rattle.figures.specs.Lists.{first_figures, with_figure}

-- a list behind another
pub first_append : (given : Figures) (xs ys : List Figure) → first_figures given (xs ++ ys) ≡ first_figures (first_figures given xs) ys
unfolding first_figures
first_append given [] ys = refl
first_append given (x ∷ xs) ys = first_append (with_figure given x) xs ys
