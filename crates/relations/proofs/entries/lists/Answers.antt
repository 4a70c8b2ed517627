-- Some entry is x. Assumes nothing.
use Rattle.std.proofs.Common.{rules, eqb}
use Rattle.profile.specs.Relations.{lists}
use Rattle.relations.proofs.entries.lists.Goals as goal

pub returns : goal.returns
unfolding lists
returns c = c.any_entry.ensures (λ e. eqb e c.args.x) (λ e r l q. search rules)
