use Rattle.std.proofs.Common.{◌≡◌, refl, ◌∙◌, arith}
use Rattle.profile.specs.Counting.{how_many}
use Rattle.tables.specs.steps.Marks.{repeat}
use Rattle.tables.proofs.MarkLaws.{items_more}
use Rattle.tables.proofs.marks.mark_each.Goals as goal

pub loop-i-init : goal.loop-i-init
unfolding how_many repeat
loop-i-init g c = λ p k f h. (refl, λ x l. refl)

pub loop-i-preserved : goal.loop-i-preserved
loop-i-preserved g c = λ p k f h.
    let l = c.loop-i in let at = c.mark_at.ensures f h in let before = l.invariant p k f h in
    (at.0 ∙ before.0, items_more f c.args.table.now l.table c.mark_at.new.table at.0 p l.i c.place.result (k l.i c.place.result c.loop-i-test.true c.place.ensures) before.1 at.1)

pub returns : goal.returns
returns g c = λ p k f h. let e : c.loop-i.i ≡ c.args.n = omega arith in rw e at c.loop-i.invariant p k f h
