use Rattle.std.proofs.Common.{rules, ◌+◌, ◌-◌, ◌<◌, ◌≡◌, get_or, refl, sym, ap, ◌∙◌, ℕ, arith}
use Rattle.sheet.specs.Words.{sheet_of}
use Rattle.profile.specs.Counting.{sum}
use Rattle.tables.specs.steps.Namings.{namers}
use Rattle.tables.specs.steps.Marks.{counted_once, repeat}
use Rattle.tables.specs.steps.Coverage.{run_begin, run_end, named_at, cover}
use Rattle.tables.proofs.CoverLaws.{below_first, below_more, covered, indices_more}
use Rattle.tables.proofs.coverage.count_indices.Goals as goal

pub loop-y-init : goal.loop-y-init
unfolding sum repeat
loop-y-init c =
    let a = c.args in let s = sheet_of a.s.now in
    (search rules, search rules, sym (below_first (run_begin s a.kind) _), sym (below_first (run_end s a.kind) _), (refl, λ x l. refl))

pub overflow_sub-times : goal.overflow_sub-times
overflow_sub-times c =
    let a = c.args in let pre = c.requires in let l = c.loop-y in let s = sheet_of a.s.now in let below : l.y < a.m = c.loop-y-test.true in
    let begun = below_more (run_begin s a.kind) l.y (namers s a.kind) l.begun (get_or a.begins.now l.y 0) l.invariant.2 (pre.2 l.y (omega (arith, pre.0))) in
    let ended = below_more (run_end s a.kind) l.y (namers s a.kind) l.ended (get_or a.ends.now l.y 0) l.invariant.3 (pre.3 l.y (omega (arith, pre.1))) in
    omega (arith, covered s a.kind l.y, begun, ended, c.from-begun.ensures ∙ ap (λ (y : ℕ). get_or a.begins.now y 0) c.from.ensures, c.from-ended.ensures ∙ ap (λ (y : ℕ). get_or a.ends.now y 0) c.from-in-loop-y.ensures)

pub loop-y-preserved : goal.loop-y-preserved
loop-y-preserved c =
    let a = c.args in let pre = c.requires in let l = c.loop-y in let s = sheet_of a.s.now in
    let below : l.y < a.m = c.loop-y-test.true in
    let begun = below_more (run_begin s a.kind) l.y (namers s a.kind) l.begun (get_or a.begins.now l.y 0) l.invariant.2 (pre.2 l.y (omega (arith, pre.0))) in
    let ended = below_more (run_end s a.kind) l.y (namers s a.kind) l.ended (get_or a.ends.now l.y 0) l.invariant.3 (pre.3 l.y (omega (arith, pre.1))) in
    let read-begun : c.from-begun.result ≡ get_or a.begins.now l.y 0 = c.from-begun.ensures ∙ ap (λ (y : ℕ). get_or a.begins.now y 0) c.from.ensures in
    let read-ended : c.from-ended.result ≡ get_or a.ends.now l.y 0 = c.from-ended.ensures ∙ ap (λ (y : ℕ). get_or a.ends.now y 0) c.from-in-loop-y.ensures in
    let k = (l.begun + c.from-begun.result) - (l.ended + c.from-ended.result) in
    let counted = c.mark_at.ensures (repeat counted_once k) (λ i r b q. search rules) in
    let e : k ≡ cover s a.kind l.y = omega (arith, covered s a.kind l.y, begun, ended, read-begun, read-ended) in (
      omega (arith, l.invariant.0, c.from-begun.type_inv),
      omega (arith, l.invariant.1, c.from-ended.type_inv),
      rw (sym read-begun) at begun,
      rw (sym read-ended) at ended,
      indices_more counted_once a.table.now l.table c.mark_at.new.table (named_at s a.kind) (cover s a.kind) l.y c.from-in-loop-y-2.result k (c.from-in-loop-y-2.ensures ∙ c.named_at.ensures) e l.invariant.4 counted,
    )
