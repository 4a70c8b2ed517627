-- The leader is member 0, complement i the one after. Assumes nothing.
use Rattle.std.proofs.Common.{◌<◌, sym, arith}
use Rattle.profile.specs.Relations.{member, members}
use Rattle.profile.proofs.BoolLaws.{byte_cond}
use Rattle.profile.proofs.SumLaws.{how_many_shift}
use Rattle.sheet.specs.Fields.{objects, complement_list}
use Rattle.sheet.specs.Layout.{number}
use Rattle.sheet.specs.Words.{sheet_of}
use Rattle.tables.specs.steps.Members.{how_many_members}
use Rattle.tables.proofs.members.members_passing.Goals as goal

pub returns : goal.returns
unfolding how_many_members members member
returns g c = λ p h.
    let fits : c.args.l < 65536 = omega arith in
    rw (c.from.ensures, c.from-2.ensures, byte_cond c.test.result, h c.args.l c.test.result fits c.test.ensures, c.how_many_entries.ensures.counted p h)
    (sym (how_many_shift (λ i. p (member (sheet_of c.args.s.now) c.args.l i)) (number (sheet_of c.args.s.now) objects c.args.l complement_list)))
