-- By whether the object is at rest. Assumes nothing.
use mathlib.Core.Path.{◌≡◌, sym, ◌∙◌}
use mir.Syntax.{w16}
use mir.Val.{to_z, of_z}
use borrow.Author.Rules.{rules}
use Rattle.text.proofs.BufferLaws.{appends_join, appends_last}
use Rattle.console.specs.Answers.{setting_line, object_line}
use Rattle.console.proofs.answers.put_setting.Goals as goal

pub returns : goal.returns
unfolding object_line setting_line
returns c =
    let kept : to_z w16 (of_z w16 c.args.x.offset) ≡ c.args.x.offset = search rules in
    rw (sym c.is_resting.ensures ∙ c.if-is_resting.false) (appends_join _ _ _ _ _ c.put_name.ensures (appends_last _ _ _ (rw kept at c.put_values.ensures)))
