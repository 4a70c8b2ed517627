use Rattle.std.proofs.Common.{◌≡◌, refl, arith}
use Rattle.sheet.specs.Words.{sheet_of}
use Rattle.sheet.specs.Layout.{number}
use Rattle.sheet.specs.Fields.{objects, complement_list}
use Rattle.inclusion.proofs.RowLaws.{listed_row, listed_next, same_after}
use Rattle.inclusion.proofs.Rows.push_group.Goals as goal

pub loop-j-preserved : goal.loop-j-preserved
loop-j-preserved c =
    let a = c.args in let here = c.loop-j in let m = c.entry in (
      same_after a.self.now here.self c.push.new.self here.invariant.0 c.push.ensures.0,
      λ listed. listed_row (sheet_of a.s.now) here.self c.push.new.self a.l here.j m.result m.ensures (c.in_ok-push.ensures.1 refl) (omega (arith, c.loop-j-test.true, c.number-n.ensures)) (here.invariant.1 listed),
    )

pub returns : goal.returns
returns c =
    let a = c.args in let here = c.loop-j in let z : here.j ≡ number (sheet_of a.s.now) objects a.l complement_list = omega (arith, c.number-n.ensures) in
    (here.invariant.0, λ e listed. listed_next (sheet_of a.s.now) here.self a.l here.j z (here.invariant.1 listed))
