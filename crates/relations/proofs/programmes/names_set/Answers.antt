-- Some set in the list is the object's. Assumes nothing.
use Rattle.std.proofs.Common.{rules}
use Rattle.profile.specs.Relations.{has_set, named_set, names_set}
use Rattle.sheet.specs.Words.{sheet_of}
use Rattle.relations.proofs.programmes.names_set.Goals as goal

pub returns : goal.returns
unfolding named_set names_set
returns c = c.any_entry.ensures (has_set (sheet_of c.args.s.now) c.args.o) (λ e r l q. search rules)
