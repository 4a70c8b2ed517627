use Rattle.std.proofs.Common.{rules, ℕ, suc, ◌-◌, ◌≤◌, ◌≡◌, eqb, cond, get_or, ap, ◌∙◌, arith}
use lib.ListN.{length-replicate, get_or-replicate, length-set}
use Rattle.sheet.specs.Words.{sheet_of}
use Rattle.sheet.specs.Layout.{count}
use Rattle.sheet.specs.Fields.{references}
use Rattle.runs.specs.steps.Runs.{Repeat}
use Rattle.tables.proofs.MarkLaws.{set_standing}
use Rattle.runs.proofs.RunLaws.{next_start, next_more, repeat_start, repeat_more, filled_start, filled_more}
use Rattle.runs.proofs.fill.fill_repeats.Goals as goal

pub loop-y-init : goal.loop-y-init
loop-y-init g c =
    let m = count (sheet_of c.args.s.now) references in
    let most : m ≤ 65535 = omega (arith, c.count-y.type_inv, c.count-y.ensures) in (
      length-replicate {A = ℕ} 65536 65535,
      λ f h. rw c.count-y.ensures ((λ z l. rw (get_or-replicate {A = ℕ} 65536 z 65535 0 l) (next_start m (λ y. eqb (f y) z) 65535 most)), repeat_start m f 65535 most, filled_start (Repeat f m) m c.args.table.now),
    )

pub loop-y-preserved : goal.loop-y-preserved
loop-y-preserved g c =
    let m = count (sheet_of c.args.s.now) references in let l = c.loop-y in let y = l.y - 1 in let keep = c.replace-before.ensures in let next = c.min-next in
    let e : suc y ≡ l.y = omega (arith, c.loop-y-test.true) in let i : suc y ≤ m = omega (arith, l.auto.y, c.count-y.ensures) in
    let at = c.mark_at.ensures (λ (k : ℕ). next.result) (λ i r b q. search rules) in (
      length-set l.later c.from.result _ ∙ l.invariant.0,
      λ f h.
          let key : c.from.result ≡ f y = c.from.ensures ∙ h y c.key.result (omega (arith, i, c.count-y.type_inv, c.count-y.ensures)) c.key.ensures in let before = l.invariant.1 f h in
          let n : Repeat f m y next.result = rw (next.ensures, keep.value, key) (repeat_more m y i f (get_or l.later (f y) 0) l.next (rw e (before.0 (f y) (omega (arith, c.key.type_inv, key, c.from.ensures)))) (rw e before.1)) in (
            λ z k. rw (set_standing l.later c.from.result _ (λ x. cond (eqb c.from.result x) y (get_or l.later x 0)) (λ x b. ap (λ w. cond (eqb c.from.result x) w (get_or l.later x 0)) keep.after) z (rw l.invariant.0 k), key) (next_more m y i (λ x. eqb (f x) z) (get_or l.later z 0) (rw e (before.0 z k))),
            n,
            filled_more (Repeat f m) m y next.result l.table c.mark_at.new.table at.0 (rw e before.2) n (rw c.from-in-loop-y.ensures at at.1),
          ),
    )
