-- The gain is stored by the answer. Assumes nothing.
use mathlib.Core.Path.{ap, ◌∙◌}
use borrow.Author.Rules.{rules}
use Rattle.granted.specs.Fitting.{gain_fits}
use Rattle.granted.specs.steps.NamedSet.{granted_range, gain_within}
use Rattle.listener.specs.Calls.{Answer, reply_by, gain_set, with_gain}
use Rattle.listener.proofs.State.set_gain.Goals as goal

pub returns : goal.returns
unfolding gain_set with_gain gain_fits granted_range gain_within
returns c =
    let a = c.args in
    c.changed.ensures (λ x. record { active = x.active; gain = a.gain; offset = x.offset }) (λ x y q. search rules)
    ∙ ap (λ (b : Answer). reply_by b a.self (with_gain a.self a.o a.gain)) c.value_answer-answer.ensures
