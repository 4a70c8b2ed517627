-- By whether the line says a factor. Assumes nothing.
use Rattle.text.proofs.BufferLaws.{appends_more}
use Rattle.factorlines.specs.FactorLines.{factor_answer, factor_line}
use Rattle.factorlines.proofs.answers.put_factor_line.Goals as goal

pub returns-in-None : goal.returns-in-None
unfolding factor_line factor_answer
returns-in-None c = rw (← c.said.ensures, ← c.factor_of.ensures, c.in-None.is) c.text.ensures

pub returns-in-Some : goal.returns-in-Some
unfolding factor_line factor_answer
returns-in-Some c = rw (← c.said.ensures, ← c.factor_of.ensures, c.in-Some.is, ← c.gain_of_factor.ensures) (appends_more _ _ _ _ _ c.put_conversion.ensures c.text-in-Some.ensures)
