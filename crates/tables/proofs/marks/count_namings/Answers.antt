use Rattle.std.proofs.Common.{rules, ◌≡◌, refl, arith}
use Rattle.sheet.specs.Words.{sheet_of}
use Rattle.profile.specs.Counting.{sum}
use Rattle.tables.specs.steps.Namings.{namers}
use Rattle.tables.specs.steps.Marks.{counted_once, repeat, named_by}
use Rattle.tables.proofs.MarkLaws.{namers_more}
use Rattle.tables.proofs.marks.count_namings.Goals as goal

pub loop-q-init : goal.loop-q-init
unfolding sum repeat
loop-q-init c = (refl, λ x l. refl)

pub loop-q-preserved : goal.loop-q-preserved
loop-q-preserved c =
    let a = c.args in let l = c.loop-q in let m = c.mark_items in namers_more counted_once (sheet_of a.s.now) a.kind a.table.now l.table m.new.table l.q l.invariant (m.ensures counted_once (λ i r b q. search rules))

pub returns : goal.returns
unfolding named_by
returns c =
    let a = c.args in let e : c.loop-q.q ≡ namers (sheet_of a.s.now) a.kind = omega (arith, c.namers-n.ensures) in rw e at c.loop-q.invariant
