use Rattle.std.proofs.Common.{rules, ℕ, ◌+◌}
use Rattle.sheet.specs.Words.{sheet_of}
use Rattle.inclusion.proofs.AlikeLaws.{alike_none, alike_more}
use Rattle.inclusion.proofs.alike.fill_alike.Goals as goal

pub loop-v-init : goal.loop-v-init
loop-v-init c = λ noughts. alike_none (sheet_of c.args.s.now) c.args.table.now noughts

pub loop-v-preserved : goal.loop-v-preserved
loop-v-preserved c = λ noughts.
    let u = c.leader_alike in let marked = c.mark_at.ensures (λ (k : ℕ). u.result + 1) (λ i r b q. search rules) in
    alike_more (sheet_of c.args.s.now) c.loop-v.table c.mark_at.new.table c.loop-v.v u.result (rw c.from.ensures at marked.1) (u.ensures.1 c.offset-base.ensures) (c.loop-v.invariant noughts)
