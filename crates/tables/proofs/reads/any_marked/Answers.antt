use Rattle.std.proofs.Common.{refl}
use native.Mathlib.Numerals.{add-one}
use Rattle.profile.specs.Counting.{any}
use Rattle.tables.proofs.reads.any_marked.Goals as goal

pub loop-m-init : goal.loop-m-init
unfolding any
loop-m-init c = refl

pub loop-m-preserved : goal.loop-m-preserved
unfolding any
loop-m-preserved c = rw (add-one, c.loop-m.invariant) refl
