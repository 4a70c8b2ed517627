-- Moved in the group, kept elsewhere. Assumes nothing.
use mathlib.Core.Path.{◌≡◌, sym, ◌∙◌}
use mir.Val.{to_z, of_z}
use mir.Syntax.{w16}
use borrow.Author.Tests.{eq-eqb, ne_eqb}
use Rattle.listener.specs.steps.Settings.{moved_from}
use borrow.Author.Rules.{rules}
use Rattle.listener.proofs.calls.moved_setting.Goals as goal

pub returns-then-leader_by : goal.returns-then-leader_by
unfolding moved_from
returns-then-leader_by c = λ led. let p : to_z w16 (of_z w16 c.args.x.offset) ≡ c.args.x.offset = search rules in simp (p) (simp (eq-eqb _ _ (sym (c.leader_by.ensures led) ∙ c.if-leader_by.true ∙ c.leader_by-2.ensures led)))

pub returns-else-leader_by : goal.returns-else-leader_by
unfolding moved_from
returns-else-leader_by c = λ led. simp (ne_eqb _ _ (λ e. c.if-leader_by.false (c.leader_by.ensures led ∙ e ∙ sym (c.leader_by-2.ensures led))))
