-- No group has three members, or the pass tells. Assumes nothing.
use Prim.Native.Nat.{ℕ}
use mathlib.Core.Path.{sym, ◌∙◌}
use mathlib.Core.Bool.{true≢false}
use native.Mathlib.Omega.{arith}
use lib.ListN.{replicate}
use lib.Seq.{length-take-le}
use Rattle.sheet.specs.Words.{sheet_of}
use Rattle.inclusion.proofs.AlikeLaws.{alike_empty}
use Rattle.checker.proofs.GroupLaws.{pairs_kept}
use Rattle.checker.proofs.groups.grouped_programmes.Goals as goal

pub returns-then-groups_of_two : goal.returns-then-groups_of_two
returns-then-groups_of_two c = λ kept apart p l. pairs_kept (sheet_of c.args.s.now) p (c.groups_of_two.ensures c.if-groups_of_two.true)

pub returns : goal.returns
returns c =
    λ kept apart p l.
    let m = c.from-m.result in let objects = c.from-m.ensures ∙ c.count.ensures in let full = length-take-le {A = ℕ} m (replicate 2048 0) (omega (arith, c.if-m-gt2048.false)) ∙ objects in
    (c.kept_from.ensures.kept (λ x h. absurd (omega (arith, h)), alike_empty (sheet_of c.args.s.now), λ f. absurd (true≢false (sym f))) (full, full, full) apart
    (λ q h. ((kept q h).0, (kept q h).1, λ f. absurd (true≢false (sym f)))) p l).1
