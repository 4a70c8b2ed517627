use borrow.Author.Tests.{lt-leb, le-leb, ne_eqb}
use Rattle.values.proofs.Signs.{held}
use Rattle.factors.specs.Conversion.{conversion, factor_gain}
use Rattle.factors.proofs.convert.gain_of_factor.Goals as goal

pub returns-then-millionths-gt-MOST_FACTOR : goal.returns-then-millionths-gt-MOST_FACTOR
unfolding conversion factor_gain
returns-then-millionths-gt-MOST_FACTOR c = simp (lt-leb _ _ c.if-millionths-gt-MOST_FACTOR.true)

pub returns-then-millionths-eq0 : goal.returns-then-millionths-eq0
unfolding conversion factor_gain
returns-then-millionths-eq0 c = simp c.if-millionths-eq0.true

pub returns : goal.returns
unfolding conversion factor_gain
returns c =
    rw (held c.least_tenth.result c.least_tenth.type_inv)
    (simp (le-leb _ _ c.if-millionths-gt-MOST_FACTOR.false, ne_eqb _ _ c.if-millionths-eq0.false, c.least_tenth.ensures))
