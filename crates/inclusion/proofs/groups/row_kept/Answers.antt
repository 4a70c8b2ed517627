-- By one member at most, as a group of two, or by its list. Assumes nothing.
use Rattle.inclusion.proofs.PassLaws.{one_kept, list_kept, many_counted}
use Rattle.inclusion.proofs.RowLaws.{led_pair}
use Rattle.inclusion.proofs.groups.row_kept.Goals as goal

pub returns-then-e-c : goal.returns-then-e-c
returns-then-e-c c = λ t at only. one_kept _ _ c.args.l (rw (many_counted _ _ c.args.sections _ _ c.args.l at c.complements-others.ensures c.at-e.ensures) at (c.one_included.ensures t))

pub returns-then-others-eq1 : goal.returns-then-others-eq1
returns-then-others-eq1 c = λ t at only. led_pair _ _ _ c.args.l c.args.m _ _ _ c.complements-others.ensures c.if-others-eq1.true only c.at-e.ensures c.at-c.ensures (c.pair_kept.ensures t at.2)

pub returns : goal.returns
returns c = λ t at only. list_kept _ _ c.args.sections _ _ c.args.l at c.complements-others.ensures c.at-e.ensures (c.members_kept.ensures t at.2)
