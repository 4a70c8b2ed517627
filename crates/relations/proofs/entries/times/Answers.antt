-- The entries that are x. Assumes nothing.
use Rattle.std.proofs.Common.{rules, eqb}
use Rattle.profile.specs.Relations.{times}
use Rattle.relations.proofs.entries.times.Goals as goal

pub returns : goal.returns
unfolding times
returns c = (c.how_many_entries.ensures.counted (λ e. eqb e c.args.x) (λ e r l q. search rules), c.how_many_entries.ensures.at_most)
