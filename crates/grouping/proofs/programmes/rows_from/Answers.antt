use Rattle.std.proofs.Common.{not, ap, ◌∙◌}
use Rattle.std.specs.Prelude.{is_some}
use Rattle.inclusion.specs.steps.Alike.{owners_of, alike_of}
use Rattle.sheet.specs.Words.{sheet_of}
use Rattle.grouping.proofs.KeptLaws.{programme_more, repeated_kept}
use Rattle.grouping.proofs.programmes.rows_from.Goals as goal

pub loop-p-preserved-then-repeats_before : goal.loop-p-preserved-then-repeats_before
loop-p-preserved-then-repeats_before c = λ pass full before.
    repeated_kept (sheet_of c.args.s.now) (is_some c.args.sets) c.args.from c.loop-p.p (c.repeats_before.ensures c.if-repeats_before.true) (c.loop-p.invariant pass full before)

pub loop-p-preserved : goal.loop-p-preserved
loop-p-preserved c = λ pass full before.
    let a = c.args in let here = c.loop-p in let cleared = c.clear in let enter = c.enter in let at = c.section_offsets-sections.ensures in
    let entered = enter.ensures.1 (c.is_none-in-loop-p.ensures ∙ ap not c.if-is_none-2.false) at pass.0 in
    programme_more (sheet_of a.s.now) (is_some a.sets) (owners_of a.sets) (alike_of a.sets) here.p cleared.new.table enter.new.included pass
    entered cleared.ensures.1 (cleared.ensures.0 ∙ here.auto.included ∙ full)
    (c.groups_kept.ensures c.if-not-groups_kept.false at (c.list.ensures.1 (c.is_none.ensures ∙ ap not c.if-is_none.false))) (here.invariant pass full before)
