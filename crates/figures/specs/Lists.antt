-- Figures as the code hands them back: how many, and sixteen places. Assumes nothing.
use Rattle.std.specs.Prelude.{ℕ, ◌+◌, ◌-◌, ◌≡◌, cond, List, [], ◌∷◌, ◌++◌, leb, length, set, replicate}
use Rattle.figures.specs.declared.Figure.{Figure}
use Rattle.figures.specs.declared.Figures.{Figures}
use Rattle.figures.specs.Clashes.{no_figure}

-- no refusal has more figures
abbrev pub most_figures : ℕ
most_figures = 16

-- none
abbrev pub no_figures : Figures
no_figures = record { count = 0; lines = replicate most_figures no_figure }

-- one figure more, where there is room
unfoldable pub with_figure : Figures → Figure → Figures
with_figure given x = cond (leb most_figures given.count) given (record { count = given.count + 1; lines = set given.lines given.count x })

-- the figures of a list, behind those given
unfoldable pub first_figures : Figures → List Figure → Figures
first_figures given [] = given
first_figures given (x ∷ more) = first_figures (with_figure given x) more

-- the figures of a list, whole and in order; the places behind them have none
pub record FiguresGiven (xs : List Figure) (given : Figures) : Type 0 where
  pub number : given.count ≡ length xs
  pub listed : given.lines ≡ xs ++ replicate (most_figures - length xs) no_figure
