-- The part of each table that has as many places as there are objects; no set stands for another. Assumes nothing.
use mathlib.Core.Path.{◌∙◌}
use native.Mathlib.Omega.{arith}
use lib.Seq.{length-take-le}
use borrow.Author.Tests.{eqb-true}
use Rattle.sheet.specs.Words.{sheet_of}
use Rattle.inclusion.proofs.AlikeLaws.{alike_empty}
use borrow.Author.Rules.{rules}
use Rattle.grouping.proofs.programmes.programmes_pass.Goals as goal

pub returns : goal.returns
returns c =
    let a = c.args in let n = c.from-n in let objects = n.ensures ∙ c.count.ensures in let kept = c.kept_from in (
      search rules,
      search rules,
      search rules,
      λ e owns ground p l.
          kept.ensures.kept (owns, alike_empty (sheet_of a.s.now), λ f. ground.0)
          (length-take-le n.result a.first.now c.if-first-n.false ∙ objects, length-take-le n.result a.second.now c.if-second-n.false ∙ objects, length-take-le n.result a.included.now c.if-included-n.false ∙ objects)
          ground.1 (λ q l. absurd (omega arith)) p (omega (arith, eqb-true kept.result c.count-2.result e, c.count-2.ensures, l)),
    )
