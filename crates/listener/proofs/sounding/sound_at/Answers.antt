-- An included object, or rest. Assumes nothing.
use mathlib.Core.Path.{◌≡◌, sym, ap, ◌∙◌}
use mir.Val.{to_z, of_z}
use mir.Syntax.{w16}
use lib.ListN.{get_or}
use Rattle.listener.specs.State.{blank, setting, active, is_resting}
use Rattle.listener.specs.Sound.{sound_at}
use Rattle.std.proofs.Math.Bool.{and_assoc}
use borrow.Author.Rules.{rules}
use Rattle.listener.proofs.StepLaws.{element_setting, activity_active}
use Rattle.listener.proofs.sounding.sound_at.Goals as goal

pub returns-then-included_by : goal.returns-then-included_by
unfolding sound_at
returns-then-included_by c = λ right same.
    let a = c.args in let st = a.state.now in let e : get_or st.objects c.from.result blank ≡ setting st a.o = rw c.from.ensures (element_setting st a.o c.requires) in
    let r = (rw same at (c.sound_activity.ensures (active st) (λ q r l h. search rules) right)) ∙ activity_active _ st a.o in
    let p : to_z w16 (of_z w16 (get_or st.objects c.from.result blank).offset) ≡ (get_or st.objects c.from.result blank).offset = search rules in
    let q : to_z w16 (of_z w16 (setting st a.o).offset) ≡ (setting st a.o).offset = rw e at p in
    simp (c.sound_values.ensures, r, and_assoc, e, q) (simp (sym (c.included_by.ensures (rw same at right.1)) ∙ c.if-included_by.true))

pub returns-else-included_by : goal.returns-else-included_by
unfolding sound_at
returns-else-included_by c = λ right same.
    let a = c.args in let st = a.state.now in let e : get_or st.objects c.from.result blank ≡ setting st a.o = rw c.from.ensures (element_setting st a.o c.requires) in
    simp (sym (c.included_by.ensures (rw same at right.1)) ∙ c.if-included_by.false) (c.is_resting.ensures ∙ ap is_resting e)
