-- What is left after the steps that were tried. Assumes nothing.
use Rattle.std.proofs.Common.{◌+◌, ◌≤◌, ◌∷◌, get_or}
use Rattle.languages.specs.steps.Pairs.{words_of}
use Rattle.languages.specs.steps.Search.{Above, AtMost}
use Rattle.languages.proofs.search.narrow.Given as goal

abbrev pub invariant-loop-step : goal.invariant-loop-step
invariant-loop-step l =
    (l.last + get_or (l.left ∷ l.steps) l.step-index 0 ≤ 65536)
    × (AtMost (words_of l.pairs) l.w l.from → Above (words_of l.pairs) l.w (l.from + l.left)
    → AtMost (words_of l.pairs) l.w l.last × Above (words_of l.pairs) l.w (l.last + get_or (l.left ∷ l.steps) l.step-index 0))
