-- An included object's start values, or rest. Assumes nothing.
use mathlib.Core.Path.{sym, ◌∙◌}
use Rattle.values.proofs.Signs.{kept}
use Rattle.listener.specs.Programme.{start_setting}
use borrow.Author.Rules.{rules}
use Rattle.listener.proofs.programme.start_setting.Goals as goal

pub returns-then-included_by : goal.returns-then-included_by
unfolding start_setting
returns-then-included_by c = λ right. rw (c.signed.ensures, kept c.start_value-then-included_by.result (search rules)) (simp (sym (c.included_by.ensures right.1) ∙ c.if-included_by.true, c.start_value-then-included_by.ensures, c.gain_of.ensures, c.start_value.ensures, c.starts_active.ensures right))

pub returns-else-included_by : goal.returns-else-included_by
unfolding start_setting
returns-else-included_by c = λ right. simp (sym (c.included_by.ensures right.1) ∙ c.if-included_by.false, c.resting.ensures)
