-- The code's numbers are those of the list. Assumes nothing.
use Rattle.std.proofs.Common.{◌∙◌}
use Rattle.checker.proofs.SubjectLaws.{rule_listed}
use Rattle.checker.proofs.subjects.rule_at.Goals as goal

pub returns : goal.returns
returns c = c.copied.ensures ∙ rule_listed c.args.i c.get.result c.get.ensures.lookup.0 c.get.ensures.lookup.1
