-- Another state, or the one given. Assumes nothing.
use mathlib.Core.Path.{refl, sym, ◌∙◌}
use Rattle.listener.specs.Calls.{chosen_programme}
use Rattle.listener.proofs.AnswerLaws.{reply_when}
use Rattle.listener.proofs.State.choose_programme.Goals as goal

pub returns-then-is_ok : goal.returns-then-is_ok
unfolding chosen_programme
returns-then-is_ok c = reply_when _ _ _ _ _ c.programme_answer-answer.ensures (rw (sym c.is_ok.ensures.value ∙ c.if-is_ok.true) c.started-state.ensures)

pub returns-else-is_ok : goal.returns-else-is_ok
unfolding chosen_programme
returns-else-is_ok c = reply_when _ _ _ _ _ c.programme_answer-answer.ensures (rw (sym c.is_ok.ensures.value ∙ c.if-is_ok.false) refl)
