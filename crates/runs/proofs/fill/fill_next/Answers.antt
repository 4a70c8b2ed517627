use Rattle.std.proofs.Common.{rules, ℕ, suc, ◌-◌, ◌≤◌, ◌≡◌, cond, ap, sym, ◌∙◌, arith}
use Rattle.runs.specs.steps.Runs.{Next}
use Rattle.runs.proofs.RunLaws.{next_start, next_more, filled_start, filled_more}
use Rattle.runs.proofs.fill.fill_next.Goals.{then-test, else-test}
use Rattle.runs.proofs.fill.fill_next.Goals as goal

pub loop-y-init : goal.loop-y-init
loop-y-init g c = λ p h. let m = c.count-n.result in (next_start m p m (omega arith), filled_start (Next p m) m c.args.table.now)

pub loop-y-preserved : goal.loop-y-preserved
loop-y-preserved g c = λ p h.
    let l = c.loop-y in let m = c.count-n.result in let y = l.y - 1 in let before = l.invariant p h in
    let e : suc y ≡ l.y = omega (arith, c.loop-y-test.true) in let i : suc y ≤ m = omega (arith, l.auto.y) in
    let passes = h y c.test.result (omega (arith, i, c.count-n.type_inv)) c.test.ensures in
    let next = c.if-test.next in
    let chosen : next ≡ cond (p y) y l.next = (elim c.if-test.branch [
      | then-test w ↦ w.next-is ∙ sym (ap (λ b. cond b y l.next) (sym passes ∙ w.if-test.true))
      | else-test w ↦ w.next-is ∙ sym (ap (λ b. cond b y l.next) (sym passes ∙ w.if-test.false))
    ]) in
    let n : Next p m y next = rw chosen (next_more m y i p l.next (rw e before.0)) in
    let at = c.mark_at.ensures (λ (k : ℕ). next) (λ i r b q. search rules) in
    (n, filled_more (Next p m) m y next l.table c.mark_at.new.table at.0 (rw e before.1) n (rw c.from.ensures at at.1))
