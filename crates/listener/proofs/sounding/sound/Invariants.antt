-- Each object by the tables, then the rest by itself. Assumes nothing.
use mathlib.Core.Path.{◌≡◌}
use mathlib.Core.Bool.{◌&&◌, ◌||◌}
use Prim.Native.Nat.{◌+◌}
use lib.Dec.{ltb}
use Rattle.sheet.specs.Words.{sheet_of}
use Rattle.profile.specs.Counting.{every}
use Rattle.listener.specs.State.{setting, is_resting}
use Rattle.listener.specs.Sound.{sound_at}
use Rattle.listener.proofs.sounding.sound.Given as goal

abbrev pub invariant-loop-o : goal.invariant-loop-o
invariant-loop-o l = (l.good ≡ every (sound_at (sheet_of l.s) l.state) l.o)

abbrev pub invariant-loop-x : goal.invariant-loop-x
invariant-loop-x l = (l.good ≡ (l.initial.good && every (λ q. ltb q l.n || is_resting (setting l.state q)) (l.n + l.x-index)))
