-- Sets with the same bytes have the same words. Assumes nothing.
use Rattle.std.proofs.Common.{◌+◌, ◌*◌, ◌≡◌, sym, ◌∙◌, arith}
use lib.Pointwise.{bytes_decides}
use borrow.Author.Tests.{not-false}
use Rattle.inclusion.proofs.PassLaws.{bytes_alike}
use Rattle.inclusion.proofs.sets.sets_differ.Goals as goal

pub returns-in-Some-Some : goal.returns-in-Some-Some
returns-in-Some-Some c = λ e at.
    let a = c.args in let x = c.in-Some-Some.ensures.lookup.0 in let y = c.in-Some-Some.ensures'.lookup.0 in
    let first : 2 * (c.from.result + 7 * c.from-2.result) ≡ 2 * (a.base + 7 * a.u) = omega (arith, c.from.ensures, c.from-2.ensures) in
    let second : 2 * (c.from-3.result + 7 * c.from-4.result) ≡ 2 * (a.base + 7 * a.v) = omega (arith, c.from-3.ensures, c.from-4.ensures) in
    bytes_alike a.s.now c.in-Some-Some.x.now c.in-Some-Some.y.now a.base a.u a.v at (omega (arith, x.1, first)) (omega (arith, y.1, second)) (rw first at x.2) (rw second at y.2) ((bytes_decides _ _).0 (not-false _ (sym c.ne.ensures ∙ e)))
