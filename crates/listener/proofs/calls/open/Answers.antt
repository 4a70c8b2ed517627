-- Programme 0 started, or rest. Assumes nothing.
use mathlib.Core.Path.{sym, ◌∙◌}
use Rattle.listener.specs.Calls.{opened, answer_by, not_open, reply_by}
use Rattle.listener.proofs.calls.open.Goals as goal

pub returns-then-opens : goal.returns-then-opens
unfolding opened answer_by not_open reply_by
returns-then-opens c = simp (sym c.opens.ensures ∙ c.if-opens.true, c.started.ensures)

pub returns-else-opens : goal.returns-else-opens
unfolding opened answer_by not_open reply_by
returns-else-opens c = simp (sym c.opens.ensures ∙ c.if-opens.false, c.resting_state.ensures)
