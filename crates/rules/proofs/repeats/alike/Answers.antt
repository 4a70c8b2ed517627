-- By pairs or by a table. Assumes nothing.
use Rattle.std.proofs.Common.{rules, eqb}
use Rattle.rules.specs.steps.Loops.{keys_alike}
use Rattle.sheet.specs.Layout.{entry, reference}
use Rattle.rules.proofs.repeats.alike.Goals as goal

pub returns-then-list-le-SHORT : goal.returns-then-list-le-SHORT
unfolding keys_alike entry reference
returns-then-list-le-SHORT g c = λ f h.
    rw (c.entries.ensures.base, c.entries.ensures.list, c.at-list.ensures.first, c.at-list.ensures.count) at (c.two_entries.ensures (λ x y. eqb (f x) (f y)) (λ x y r l m q. search rules))
