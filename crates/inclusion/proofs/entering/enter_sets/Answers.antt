use Rattle.std.proofs.Common.{get_or, refl, ◌∙◌, arith}
use Rattle.sheet.specs.Words.{sheet_of}
use Rattle.inclusion.proofs.PassLaws.{set_entry, sets_more}
use Rattle.inclusion.proofs.entering.enter_sets.Goals as goal

pub loop-j-preserved : goal.loop-j-preserved
loop-j-preserved c = λ at owns.
    let a = c.args in let here = c.loop-j in let list = c.at in let set = c.at-v in let standing = c.representative in
    let owner = c.in_ok-owner.ensures in let tells = get_or a.sets.owners.now set.result 0 in
    let changed = rw (owner.1, c.in_ok-more.ensures.1) at c.in_ok-change.ensures.1 refl in
    sets_more (sheet_of a.s.now) a.sets.alike.now a.sets.owners.now a.p here.j set.result tells standing.result a.included.now here.included c.change.new.table owns
    (set.ensures ∙ set_entry (sheet_of a.s.now) a.sections.references list.result.first a.p here.j at list.ensures.first)
    (omega (arith, c.if-total-v.false, c.count-total.ensures)) refl (λ q. omega (arith, q, owner.0)) standing.ensures here.auto.included c.change.ensures.0 (here.invariant at owns) changed
