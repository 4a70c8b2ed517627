-- Each rule by its number. Assumes nothing.
use mathlib.Core.Path.{refl}
use Rattle.profile.specs.Verdict.{breaks}
use Rattle.checker.proofs.subjects.breaks_lent.Goals as goal

pub returns-in-2 : goal.returns-in-2
unfolding breaks
returns-in-2 c = (refl, λ first second. simp (c.rule2.ensures, c.in-2.is))
