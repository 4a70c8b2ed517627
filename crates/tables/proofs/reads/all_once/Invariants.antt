-- The places passed have 1. Assumes nothing.
use Rattle.std.proofs.Common.{ℕ, true, get_or, ◌<◌, ◌≡◌}
use Rattle.tables.proofs.reads.all_once.Given as goal

abbrev pub invariant-loop-c : goal.invariant-loop-c
invariant-loop-c l = l.once ≡ true → (x : ℕ) → x < l.c-index → get_or l.places x 0 ≡ 1
