-- By what stands for both. Assumes nothing.
use Rattle.std.proofs.Common.{arith}
use borrow.Author.Tests.{not-true}
use mathlib.Core.Logic.{⊎_elim, inl, inr}
use Rattle.inclusion.proofs.PassLaws.{pair_none, pair_same, pair_sets}
use Rattle.inclusion.proofs.groups.pair_kept.Goals as goal

pub returns-then-c-eq0 : goal.returns-then-c-eq0
returns-then-c-eq0 c = λ e at. ⊎_elim (pair_same _ _ _) (λ none. pair_none _ _ _ (⊎_elim (λ q. inl q.1) (λ q. inr q.2) none)) c.if-c-eq0.either

pub returns-then-c-ne1 : goal.returns-then-c-ne1
returns-then-c-ne1 c = λ e at. pair_sets _ _ _ (omega arith) (omega arith) (c.noted_differ.ensures (not-true _ e) at (omega arith))
