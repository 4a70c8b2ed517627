-- So far it is the definition. Assumes nothing.
use Rattle.std.proofs.Common.{ℕ, ◌*◌, ◌≡◌, ◌≤◌}
use Rattle.profile.specs.Counting.{ComputesBelow, sum}
use Rattle.profile.proofs.counting.sum.Given as goal

abbrev pub invariant-loop-i : goal.invariant-loop-i
invariant-loop-i g l = (l.total ≤ 65535 * l.i) × ((f : ℕ → ℕ) → ComputesBelow l.n (goal.F-post g l.part) f → l.total ≡ sum f l.i)
