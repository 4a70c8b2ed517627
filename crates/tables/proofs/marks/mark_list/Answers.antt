use Rattle.std.proofs.Common.{rules}
use Rattle.tables.proofs.marks.mark_list.Goals as goal

pub returns : goal.returns
returns g c = c.mark_each.ensures _ (λ i r b q. search rules)
