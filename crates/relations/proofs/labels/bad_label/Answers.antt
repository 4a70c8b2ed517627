-- Some label is no good language. Assumes nothing.
use Rattle.std.proofs.Common.{rules, not}
use Rattle.profile.specs.Languages.{good_language}
use Rattle.profile.specs.Rules.{bad_label}
use Rattle.relations.proofs.labels.bad_label.Goals as goal

pub returns : goal.returns
unfolding bad_label
returns c = c.any_entry.ensures (λ e. not (good_language c.args.langs.now e)) (λ e r l q. search rules)
