-- Two entries that are the same. Assumes nothing.
use Rattle.std.proofs.Common.{rules, eqb}
use Rattle.lists.specs.steps.Entries.{entry_at, same_at}
use Rattle.lists.proofs.entries.any_twice.Goals as goal

pub returns : goal.returns
unfolding same_at entry_at
returns c = c.two_entries.ensures (λ x y. eqb x y) (λ x y r l m q. search rules)
