use Rattle.factors.specs.Conversion.{least_tenth}
use Rattle.factors.proofs.TenthLaws.{computed}
use Rattle.factors.proofs.convert.least_tenth.Goals as goal

pub returns : goal.returns
unfolding least_tenth
returns c = rw (← c.first_not_below.ensures.place) (computed _ c.first_not_below.ensures.within)
