-- The same bits. Assumes nothing.
use mathlib.Core.Path.{◌≡◌}
use mir.Val.{to_z, of_z}
use mir.Syntax.{w16}
use Rattle.granted.specs.Fitting.{same_offset}
use Rattle.granted.specs.steps.NamedSet.{is_offset}
use Rattle.granted.proofs.SameLaws.{same_bits}
use borrow.Author.Rules.{rules}
use Rattle.granted.proofs.fitting.I16Value.is_word.Goals as goal

pub returns : goal.returns
unfolding is_offset same_offset
returns c =
    let p : to_z w16 (of_z w16 c.args.self) ≡ c.args.self = search rules in let q : to_z w16 (of_z w16 c.signed.result) ≡ c.signed.result = search rules in
    rw (← c.signed.ensures) (same_bits c.args.self c.signed.result p q)
