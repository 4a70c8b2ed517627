use Rattle.std.proofs.Common.{rules, ℕ, suc, ◌-◌, ◌≡◌, refl, ◌∙◌, arith}
use Rattle.sheet.specs.Words.{sheet_of}
use Rattle.tables.specs.steps.Namings.{namers}
use Rattle.tables.specs.steps.Marks.{first_from, first_by}
use Rattle.tables.proofs.MarkLaws.{first_more}
use Rattle.tables.proofs.marks.first_namers.Goals as goal

pub loop-q-init : goal.loop-q-init
unfolding first_from
loop-q-init c =
    let a = c.args in let e : namers (sheet_of a.s.now) a.kind - c.namers-q-counter.result ≡ 0 = omega (arith, c.namers-q-counter.ensures) in
    (refl, rw e (λ x l. refl))

pub loop-q-preserved : goal.loop-q-preserved
loop-q-preserved c =
    let a = c.args in let s = sheet_of a.s.now in let l = c.loop-q in let q = l.q-counter - 1 in let n = namers s a.kind - l.q-counter in
    let e : suc q ≡ l.q-counter = omega (arith, c.loop-q-test.true) in
    let f : namers s a.kind - q ≡ suc n = omega (arith, l.auto.q-counter, c.namers-q-counter.ensures, c.loop-q-test.true) in
    let items = c.mark_some.ensures (λ (c : ℕ). l.q-counter) (λ i r b p. search rules) in
    (items.0 ∙ l.invariant.0, rw f (first_more s a.kind a.table.now l.table c.mark_some.new.table q n items.0 (rw e l.invariant.1) (rw e items.1)))

pub returns : goal.returns
unfolding first_by
returns c =
    let a = c.args in let n = namers (sheet_of a.s.now) a.kind in let e : c.loop-q.q-counter ≡ 0 = omega (arith, c.loop-q-test.false) in
    let f : n - 0 ≡ n = omega arith in rw (e, f) at c.loop-q.invariant
