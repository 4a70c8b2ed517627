use mathlib.Core.Path.{sym, ◌∙◌}
use native.Mathlib.Omega.{arith}
use Rattle.profile.proofs.CountingLaws.{lowest_at, lowest_none}
use borrow.Author.Rules.{rules}
use Rattle.checker.proofs.search.broken_below.Goals as goal

pub returns-then-breaks_lent : goal.returns-then-breaks_lent
returns-then-breaks_lent c = (c.breaks_lent.ensures.0 ∙ c.loop-k.invariant.0, λ f g. sym (lowest_at _ _ _ (search rules) (c.loop-k.invariant.1 f g) (rw (← c.breaks_lent.ensures.1 f g) c.if-breaks_lent.true)))

pub returns : goal.returns
returns c = (c.loop-k.invariant.0, λ f g. sym (lowest_none _ _ (λ j l. c.loop-k.invariant.1 f g j (omega arith))))
