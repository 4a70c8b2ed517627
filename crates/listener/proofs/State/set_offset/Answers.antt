-- The offset is stored by the answer. Assumes nothing.
use mathlib.Core.Path.{◌≡◌, ap, ◌∙◌}
use mir.Val.{to_z, of_z}
use mir.Syntax.{w16}
use borrow.Author.Rules.{rules}
use Rattle.granted.specs.Fitting.{offset_fits}
use Rattle.granted.specs.steps.NamedSet.{granted_range, offset_within}
use Rattle.listener.specs.Calls.{Answer, reply_by, offset_set, with_offset}
use Rattle.listener.proofs.State.set_offset.Goals as goal

pub returns : goal.returns
unfolding offset_set with_offset offset_fits granted_range offset_within
returns c =
    let a = c.args in let p : to_z w16 (of_z w16 a.offset) ≡ a.offset = search rules in
    c.changed.ensures (λ x. record { active = x.active; gain = x.gain; offset = a.offset }) (λ x y q. search rules)
    ∙ ap (λ (b : Answer). reply_by b a.self (with_offset a.self a.o a.offset)) (rw p at c.value_answer-answer.ensures)
