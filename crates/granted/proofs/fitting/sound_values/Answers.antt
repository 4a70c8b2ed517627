-- By the named set. Assumes nothing.
use mathlib.Core.Path.{◌≡◌}
use mir.Val.{to_z, of_z}
use mir.Syntax.{w16}
use Rattle.granted.proofs.NamedLaws.{gain_named, offset_named}
use borrow.Author.Rules.{rules}
use Rattle.granted.proofs.fitting.sound_values.Goals as goal

pub returns : goal.returns
returns c = let p : to_z w16 (of_z w16 c.args.offset) ≡ c.args.offset = search rules in simp (c.sound_value-2.ensures, c.sound_value.ensures, p, c.named_for-named.ensures, gain_named, offset_named)
