use Rattle.std.proofs.Common.{refl, ◌∙◌}
use Rattle.sheet.specs.Words.{sheet_of}
use Rattle.inclusion.specs.steps.Entering.{object_at}
use Rattle.inclusion.proofs.PassLaws.{changed_none, changed_more, object_entry}
use Rattle.inclusion.proofs.entering.enter_objects.Goals as goal

pub loop-i-init : goal.loop-i-init
loop-i-init c = let a = c.args in λ at. changed_none (object_at (sheet_of a.s.now) a.p) 0 1 a.included.now

pub loop-i-preserved : goal.loop-i-preserved
loop-i-preserved c = λ at.
    let a = c.args in let here = c.loop-i in let list = c.at-list in let object = c.object_from in let now = c.in_ok-change.ensures.1 refl in
    changed_more (object_at (sheet_of a.s.now) a.p) 0 1 a.included.now refl here.included c.change.new.table here.i object.result
    (object.ensures ∙ object_entry (sheet_of a.s.now) a.sections list.result.first a.p here.i at list.ensures.first)
    here.auto.included c.change.ensures.0 (here.invariant at) now.0 now.1 now.2
