use Rattle.std.proofs.Common.{rules, ◌+◌}
use Rattle.tables.proofs.marks.mark_span.Goals as goal

pub returns : goal.returns
returns g c = c.mark_each.ensures (λ j. c.args.span.first + j) (λ i r b q. search rules)
