use Rattle.std.proofs.Common.{not, eqb, sym, ◌∙◌, arith}
use native.Mathlib.Nat.{add-zero}
use native.Mathlib.Numerals.{add-one}
use Rattle.profile.specs.Counting.{how_many}
use Rattle.profile.proofs.BoolLaws.{byte_cond, byte_le}
use Rattle.inclusion.proofs.groups.one_included.Goals as goal

pub loop-i-init : goal.loop-i-init
unfolding how_many
loop-i-init c = let e = not (eqb c.args.e 0) in (omega (arith, c.from-many.ensures, byte_le e), c.from-many.ensures ∙ byte_cond e ∙ sym (add-zero _))

pub loop-i-preserved : goal.loop-i-preserved
unfolding how_many
loop-i-preserved c =
    let before = c.loop-i.invariant in let counted = not (eqb c.at-in-loop-i.result 0) in let more = c.from-many-in-loop-i.ensures in
    (omega (arith, before.0, more, byte_le counted), rw (add-one, more, byte_cond counted, before.1, c.at-in-loop-i.ensures, c.at.ensures) (omega arith))
