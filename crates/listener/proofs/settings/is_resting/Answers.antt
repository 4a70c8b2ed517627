-- Inactive, with gain and offset 0. Assumes nothing.
use mathlib.Core.Path.{◌≡◌, refl, ◌∙◌}
use lib.IntN.{pos}
use mir.Val.{to_z, of_z}
use mir.Syntax.{w16}
use borrow.Author.Rules.{rules}
use Rattle.values.specs.declared.Gain.TheVariants.{Tenths}
use Rattle.listener.specs.State.{is_resting}
use Rattle.granted.specs.Fitting.{same_offset}
use Rattle.granted.proofs.SameLaws.{eq_gain, same_bits}
use Rattle.listener.proofs.settings.is_resting.Goals as goal

pub returns : goal.returns
unfolding is_resting same_offset
returns c =
    let x = c.args.x in let p : to_z w16 (of_z w16 x.offset) ≡ x.offset = search rules in
    rw (c.eq.ensures ∙ eq_gain x.gain (Tenths (pos 0)), same_bits x.offset (pos 0) p refl) refl
