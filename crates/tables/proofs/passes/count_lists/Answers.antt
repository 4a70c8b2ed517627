use Rattle.std.proofs.Common.{rules, ◌≡◌, refl, ◌∙◌, arith}
use Rattle.sheet.specs.Words.{sheet_of}
use Rattle.sheet.specs.Layout.{count}
use Rattle.sheet.specs.Fields.{objects}
use Rattle.profile.specs.Counting.{sum}
use Rattle.tables.specs.declared.Naming.TheVariants.{Children, Complements, SetSpans}
use Rattle.tables.specs.steps.Marks.{counted_once, repeat, named_by, first_from, first_by}
use Rattle.tables.proofs.MarkLaws.{namers_more, first_next}
use Rattle.tables.proofs.passes.count_lists.Goals as goal

pub loop-q-init : goal.loop-q-init
unfolding sum repeat first_from
loop-q-init c = ((refl, λ x l. refl), (refl, λ x l. refl), (refl, λ x l. refl), refl, (λ z. z))

pub loop-q-preserved : goal.loop-q-preserved
loop-q-preserved c =
    let l = c.loop-q in let a = c.args in let m = c.mark_some in let n = c.mark_some-in-loop-q in let b = c.mark_both in let s = sheet_of a.s.now in
    let more = namers_more counted_once s in (
      more Children a.named.now l.named m.new.table l.q l.invariant.0 (m.ensures counted_once (λ i r b q. search rules)),
      more Complements a.complements.now l.complements n.new.table l.q l.invariant.1 (n.ensures counted_once (λ i r b q. search rules)),
      more SetSpans a.spanned.now l.spanned b.new.counts l.q l.invariant.2 b.ensures.0,
      b.ensures.1.0 ∙ l.invariant.3,
      λ z. first_next s SetSpans l.owners b.new.firsts l.q b.ensures.1.0 (l.invariant.4 z) b.ensures.1.1,
    )

pub returns : goal.returns
unfolding named_by first_by
returns c =
    let e : c.loop-q.q ≡ count (sheet_of c.args.s.now) objects = omega (arith, c.count-n.ensures) in
    let i = rw e at c.loop-q.invariant in (i.0.0, i.0.1, i.1.0, i.1.1, i.2.0, i.2.1, i.3, i.4)
