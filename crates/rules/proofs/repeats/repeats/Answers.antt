-- Each entry is its own key. Assumes nothing.
use Rattle.std.proofs.Common.{rules}
use Rattle.profile.specs.Rules.{repeats}
use Rattle.rules.specs.steps.Loops.{keys_alike}
use Rattle.rules.proofs.repeats.repeats.Goals as goal

pub returns : goal.returns
unfolding repeats keys_alike
returns c = c.alike.ensures (λ e. e) (λ e r l q. search rules)
