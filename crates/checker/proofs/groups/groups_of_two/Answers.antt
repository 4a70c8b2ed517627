-- Each leader has one complement at most. Assumes nothing.
use Rattle.std.proofs.Common.{rules, ◌≡◌, true, leb, arith}
use borrow.Author.Tests.{leb-true}
use Rattle.sheet.specs.Fields.{complement_list, objects}
use Rattle.sheet.specs.Layout.{number}
use Rattle.sheet.specs.Words.{sheet_of}
use Rattle.checker.proofs.groups.groups_of_two.Goals as goal

pub returns : goal.returns
returns c = λ e l k.
    let q = c.all.ensures.each e l (omega (arith, k, c.count.ensures)) in
    let small : leb (number (sheet_of c.args.s.now) objects l complement_list) 1 ≡ true = search rules in leb-true _ 1 small
