-- Found so far is what the places passed have. Assumes nothing.
use Rattle.std.proofs.Common.{not, eqb, get_or, ◌≡◌}
use Rattle.profile.specs.Counting.{any}
use Rattle.tables.proofs.reads.any_marked.Given as goal

abbrev pub invariant-loop-m : goal.invariant-loop-m
invariant-loop-m l = l.found ≡ any (λ k. not (eqb (get_or l.places k 0) 0)) l.m-index
