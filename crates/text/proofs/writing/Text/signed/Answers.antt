-- By the number's sign. Assumes nothing.
use mathlib.Core.Path.{◌≡◌, ◌∙◌}
use mir.Syntax.{w16}
use mir.Val.{to_z, of_z}
use borrow.Author.Rules.{rules}
use Rattle.text.proofs.BufferLaws.{appends_more}
use Rattle.text.proofs.DecimalLaws.{signed_below, signed_from}
use Rattle.text.proofs.writing.Text.signed.Goals.{then-z-lt0, else-z-lt0}
use Rattle.text.proofs.writing.Text.signed.Goals as goal

pub returns : goal.returns
returns c =
    let p : to_z w16 (of_z w16 c.args.z) ≡ c.args.z = search rules in
    let m = c.from.ensures ∙ rw p at c.unsigned_abs.ensures.value in
    elim c.if-z-lt0.branch [
      | then-z-lt0 w ↦ rw (signed_below c.args.z (rw p at w.if-z-lt0.true)) (appends_more _ _ _ _ _ (rw (← w.self-is) at w.text.ensures) (rw m at c.number.ensures))
      | else-z-lt0 w ↦ rw (signed_from c.args.z (rw p at w.if-z-lt0.false)) (rw (w.self-is, m) at c.number.ensures)
    ]
