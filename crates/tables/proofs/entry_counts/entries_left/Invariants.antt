-- What is left is what the records passed leave. Assumes nothing.
use Rattle.std.proofs.Common.{ℕ, ◌-◌, ◌≤◌, ◌≡◌}
use Rattle.profile.specs.Counting.{sum}
use Rattle.tables.specs.steps.Marks.{NumbersBelow}
use Rattle.tables.proofs.entry_counts.entries_left.Given as goal

abbrev pub invariant-loop-k : goal.invariant-loop-k
invariant-loop-k g l = (f : ℕ → ℕ) → NumbersBelow l.n (goal.F-post g l.entries) f → (sum f l.k ≤ l.most) × (l.left ≡ l.most - sum f l.k)
