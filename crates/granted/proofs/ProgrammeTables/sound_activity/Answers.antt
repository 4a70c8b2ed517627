-- One of a whole group, or the object itself. Assumes nothing.
use mathlib.Core.Path.{sym, ◌∙◌}
use Rattle.granted.specs.steps.Activity.{activity_by}
use borrow.Author.Rules.{rules}
use Rattle.granted.proofs.ProgrammeTables.sound_activity.Goals as goal

pub returns-then-in_whole_group : goal.returns-then-in_whole_group
unfolding activity_by
returns-then-in_whole_group g c = λ a h right. simp (sym (c.in_whole_group.ensures right) ∙ c.if-in_whole_group.true, c.members_passing.ensures a h, c.leader_by.ensures right.0)

pub returns-else-in_whole_group : goal.returns-else-in_whole_group
unfolding activity_by
returns-else-in_whole_group g c = λ a h right. simp (sym (c.in_whole_group.ensures right) ∙ c.if-in_whole_group.false, h _ _ (search rules) c.active.ensures)
