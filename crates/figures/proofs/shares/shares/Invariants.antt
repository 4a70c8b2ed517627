-- The shares of the objects passed. Assumes nothing.
use Rattle.std.proofs.Common.{◌≡◌}
use Rattle.sheet.specs.Words.{sheet_of}
use Rattle.profile.specs.Counting.{concat_below}
use Rattle.figures.specs.Lists.{first_figures, no_figures}
use Rattle.figures.specs.Shares.{share_figures}
use Rattle.figures.proofs.shares.shares.Given as goal

abbrev pub invariant-loop-o : goal.invariant-loop-o
invariant-loop-o l = l.given ≡ first_figures no_figures (concat_below (share_figures (sheet_of l.s)) l.o)
