-- The element's, or none. Assumes nothing.
use mathlib.Core.Path.{sym, ◌∙◌}
use borrow.Author.Tests.{le-ltb}
use Rattle.listener.specs.State.{state_objects}
use Rattle.listener.proofs.StepLaws.{element_active, past_active}
use Rattle.listener.proofs.sounding.is_active.Goals as goal

pub returns-then-o-lt-STATE_END : goal.returns-then-o-lt-STATE_END
returns-then-o-lt-STATE_END c = rw c.from.ensures (element_active c.args.state.now c.args.o c.if-o-lt-STATE_END.true)

pub returns-else-o-lt-STATE_END : goal.returns-else-o-lt-STATE_END
returns-else-o-lt-STATE_END c = let e = le-ltb c.args.o state_objects c.if-o-lt-STATE_END.false in e ∙ sym (past_active c.args.state.now c.args.o e)
