-- A complement that passes the test. Assumes nothing.
use Rattle.std.proofs.Common.{rules}
use Rattle.profile.specs.Rules.{bad_complement, rule19}
use Rattle.sheet.specs.Words.{sheet_of}
use Rattle.rules.proofs.groups.rule19.Goals as goal

pub returns : goal.returns
unfolding rule19
returns c = λ right. c.any_entry.ensures (bad_complement (sheet_of c.args.s.now)) (λ e r l q. search rules)
