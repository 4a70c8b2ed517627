use Rattle.std.proofs.Common.{ℕ, ◌<◌, ◌≡◌, get_or, sym, subst, arith}
use mathlib.Core.Logic.{⊎_elim, inl, inr}
use borrow.Author.Count.{below_more}
use Rattle.sheet.specs.Words.{sheet_of}
use Rattle.inclusion.specs.steps.Groups.{GroupKept}
use Rattle.inclusion.specs.steps.Rows.{RowKept}
use Rattle.inclusion.proofs.RowLaws.{rows_kept}
use Rattle.inclusion.proofs.groups.groups_kept.Goals as goal
use Rattle.inclusion.proofs.groups.groups_kept.Goals.{then-not-row_passes+else-not-row_kept, else-not-row_passes}

pub loop-i-init : goal.loop-i-init
loop-i-init c = λ at listed. (λ few. absurd (omega arith), λ j h. absurd (omega arith))

pub loop-i-preserved : goal.loop-i-preserved
loop-i-preserved c = λ at listed.
    let a = c.args in let i : ℕ = c.loop-i.i in let Kept : ℕ → Type 0 = GroupKept (sheet_of a.s.now) a.included.now in
    let leading = a.leading.now in
    let P : ℕ → Type 0 = λ j. RowKept (sheet_of a.s.now) a.included.now (get_or leading j 0) (get_or a.partners.now j 0) in
    let Asked : ℕ → Type 0 = λ x. x < 65536 → Kept x in
    let so = c.loop-i.invariant at listed in
    elim c.if-not-row_passes.branch [
      | then-not-row_passes+else-not-row_kept w ↦
          let kept = w.row_kept.ensures w.if-not-row_kept.false at (listed.each i (omega (arith, c.loop-i-test.true, c.from-n.ensures))) in
          (subst Asked (sym w.asked-is) (subst Asked (sym w.from-asked.ensures) (λ small. kept)), below_more P i so.1 (inr kept))
      | else-not-row_passes w ↦ (subst Asked (sym w.asked-is) so.0, below_more P i so.1 (⊎_elim (λ q. inl q) (λ q. let z : get_or leading i 0 ≡ c.loop-i.asked = q in inr (subst Kept (sym z) (so.0 (omega (arith, z))))) (c.row_passes.ensures w.if-not-row_passes.false)))
    ]

pub returns : goal.returns
returns c = λ e at listed.
    let here = c.loop-i in let z : here.i ≡ c.args.g = omega (arith, c.from-n.ensures) in
    rows_kept (sheet_of c.args.s.now) c.args.included.now c.args.leading.now c.args.partners.now c.args.g listed (rw z at (here.invariant at listed).1)
