-- A complement that differs from its leader. Assumes nothing.
use Rattle.std.proofs.Common.{rules}
use Rattle.profile.specs.Rules.{differs, rule20}
use Rattle.sheet.specs.Words.{sheet_of}
use Rattle.rules.proofs.groups.rule20.Goals as goal

pub returns : goal.returns
unfolding rule20
returns c = c.any_entry.ensures (differs (sheet_of c.args.s.now) c.args.o) (λ e r l q. search rules)
