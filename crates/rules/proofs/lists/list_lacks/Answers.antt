-- Entry by entry. Assumes nothing.
use Rattle.std.proofs.Common.{rules}
use Rattle.sheet.specs.Words.{sheet_of}
use Rattle.profile.specs.Rules.{lacks, list_lacks}
use Rattle.rules.proofs.lists.list_lacks.Goals as goal

pub returns : goal.returns
unfolding list_lacks
returns c = c.any_entry.ensures (lacks (sheet_of c.args.s.now) c.args.target) (λ e r l q. search rules)
