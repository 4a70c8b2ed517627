-- 25, then 26. Assumes nothing.
use mathlib.Core.Path.{sym, ◌∙◌}
use Rattle.listener.specs.Calls.{answer_by, not_open, not_sound}
use Rattle.listener.proofs.calls.sound_answer.Goals as goal

pub returns-then-not-opens : goal.returns-then-not-opens
unfolding answer_by not_open
returns-then-not-opens c = simp (sym c.opens.ensures ∙ c.if-not-opens.true)

pub returns-then-not-sound : goal.returns-then-not-sound
unfolding answer_by not_open not_sound
returns-then-not-sound c = simp (sym c.sound.ensures ∙ c.if-not-sound.true, sym c.opens.ensures ∙ c.if-not-opens.false)

pub returns : goal.returns
unfolding answer_by not_open not_sound
returns c = simp (sym c.sound.ensures ∙ c.if-not-sound.false, sym c.opens.ensures ∙ c.if-not-opens.false)
