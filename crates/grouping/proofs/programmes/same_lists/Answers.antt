-- By both. Assumes nothing.
use Rattle.std.proofs.Common.{refl, sym, ◌∙◌}
use Rattle.grouping.specs.steps.Passing.{same_lists}
use Rattle.grouping.proofs.programmes.same_lists.Goals as goal

pub returns-then-is_none : goal.returns-then-is_none
unfolding same_lists
returns-then-is_none c = rw (sym c.same_list.ensures ∙ c.if-same_list.true, c.if-is_none.ensures) c.if-is_none.true

pub returns-else-is_none : goal.returns-else-is_none
unfolding same_lists
returns-else-is_none c = rw (c.same_list-else-is_none.ensures, sym c.same_list.ensures ∙ c.if-same_list.true, c.if-is_none.ensures) refl

pub returns-else-same_list : goal.returns-else-same_list
unfolding same_lists
returns-else-same_list c = rw (sym c.same_list.ensures, c.if-same_list.false) refl
