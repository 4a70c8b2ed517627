-- As a group of two, or by its list. Assumes nothing.
use Rattle.inclusion.proofs.PassLaws.{list_kept}
use Rattle.inclusion.proofs.RowLaws.{led_pair}
use Rattle.inclusion.proofs.groups.group_kept.Goals as goal

pub returns-then-others-eq1 : goal.returns-then-others-eq1
returns-then-others-eq1 c = λ t at only. led_pair _ _ _ c.args.l c.args.m _ _ _ c.complements-others.ensures c.if-others-eq1.true only c.at-e.ensures c.at.ensures (c.pair_kept.ensures t at.2)

pub returns : goal.returns
returns c = λ t at only. list_kept _ _ c.args.sections _ _ c.args.l at c.complements-others.ensures c.at-e.ensures (c.members_kept.ensures t at.2)
