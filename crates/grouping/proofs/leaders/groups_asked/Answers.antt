use Rattle.std.proofs.Common.{◌*◌, refl, ◌∙◌}
use Rattle.sheet.specs.Words.{sheet_of}
use Rattle.grouping.proofs.LeaderLaws.{asked_more, asked_none, group_entry}
use Rattle.inclusion.proofs.PassLaws.{object_entry}
use Rattle.grouping.proofs.leaders.groups_asked.Goals as goal

pub loop-i-init : goal.loop-i-init
loop-i-init c = let a = c.args in λ at led. asked_none (sheet_of a.s.now) a.p a.included.now (2 * a.p) a.groups.now

pub loop-i-preserved : goal.loop-i-preserved
loop-i-preserved c = λ at led.
    let a = c.args in let here = c.loop-i in let list = c.at-list in let object = c.object_from in let leader = c.leader_by-l in let asked = c.group_asked in
    asked_more (sheet_of a.s.now) a.p a.included.now (2 * a.p) here.i leader.result a.groups.now here.groups asked.new.groups
    (group_entry (sheet_of a.s.now) a.p here.i leader.result object.result (leader.ensures led)
    (object.ensures ∙ object_entry (sheet_of a.s.now) a.sections list.result.first a.p here.i at list.ensures.first))
    asked.ensures.0 (c.in_ok-group_asked.ensures.1 refl at) (here.invariant at led)
