-- The set at the place, or none. Assumes nothing.
use mathlib.Core.Path.{refl}
use native.Mathlib.Omega.{arith}
use Rattle.sheet.specs.Words.{sheet_of}
use Rattle.granted.specs.steps.NamedSet.{named_for, set_place}
use Rattle.granted.proofs.PlaceLaws.{place_inside, place_outside, place_set}
use Rattle.granted.proofs.programme.named_for.Goals as goal

pub returns-then-n-eq0 : goal.returns-then-n-eq0
unfolding named_for
returns-then-n-eq0 c = let a = c.args in simp (place_outside (sheet_of a.s.now) a.p a.o (set_place (sheet_of a.s.now) a.p a.o) _ refl c.number-n.ensures (omega (arith, c.if-n-eq0.true)))

pub returns-then-i-n : goal.returns-then-i-n
unfolding named_for
returns-then-i-n c =
    let a = c.args in let s = sheet_of a.s.now in let e = c.set_place-i.ensures in simp (place_inside s a.p a.o _ _ e c.number-n.ensures c.if-i-n.true, c.named_set.ensures, e, place_set s a.p a.o)

pub returns-else-i-n : goal.returns-else-i-n
unfolding named_for
returns-else-i-n c = let a = c.args in simp (place_outside (sheet_of a.s.now) a.p a.o _ _ c.set_place-i.ensures c.number-n.ensures c.if-i-n.false)
