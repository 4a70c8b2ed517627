-- So far it is the definition. Assumes nothing.
use Rattle.std.proofs.Common.{ℕ, Bool, ◌≡◌, ◌≤◌}
use Rattle.profile.specs.Counting.{ComputesBelow, how_many}
use Rattle.profile.proofs.counting.how_many.Given as goal

abbrev pub invariant-loop-i : goal.invariant-loop-i
invariant-loop-i g l = (l.found ≤ l.i) × ((p : ℕ → Bool) → ComputesBelow l.n (goal.F-post g l.test) p → l.found ≡ how_many p l.i)
