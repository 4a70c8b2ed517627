-- Rule 24. Document 02, L1: "each group's (under its leader) and lone object's share by rising record". Assumes nothing.
use Rattle.std.specs.Prelude.{ℕ, Bool, cond, ◌||◌, List, [], ◌∷◌}
use Rattle.sheet.specs.Words.{Sheet}
use Rattle.sheet.specs.Layout.{count}
use Rattle.sheet.specs.Fields.{objects}
use Rattle.profile.specs.Counting.{concat_below}
use Rattle.profile.specs.Relations.{leader, lone, share}
use Rattle.figures.specs.declared.Figure.{Figure}
use Rattle.figures.specs.declared.FigureNumber.TheVariants.{Derived}

-- a leader, or a top object in no group
unfoldable pub has_share : Sheet → ℕ → Bool
has_share s o = leader s o || lone s o

-- its share, "under its leader"
abbrev pub share_figure : Sheet → ℕ → Figure
share_figure s o = record { section = objects; index = o; number = Derived (share s o) }

-- the figure of an object that has a share
unfoldable pub share_figures : Sheet → ℕ → List Figure
share_figures s o = cond (has_share s o) (share_figure s o ∷ []) []

-- "by rising record"
unfoldable pub share_list : Sheet → List Figure
share_list s = concat_below (share_figures s) (count s objects)
