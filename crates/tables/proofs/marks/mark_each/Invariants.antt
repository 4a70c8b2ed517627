-- The places passed are marked. Assumes nothing.
use Rattle.std.proofs.Common.{ℕ, eqb}
use Rattle.profile.specs.Counting.{how_many}
use Rattle.tables.specs.steps.Marks.{MarkedTimes, NumbersBelow}
use Rattle.tables.proofs.marks.mark_each.Given as goal

abbrev pub invariant-loop-i : goal.invariant-loop-i
invariant-loop-i g l =
    (p : ℕ → ℕ) → NumbersBelow l.n (goal.P-post g l.place) p
    → (f : ℕ → ℕ) → NumbersBelow 65536 (goal.F-post g l.mark) f → MarkedTimes f (λ x. how_many (λ j. eqb (p j) x) l.i) l.initial.table l.table
