-- The sum so far is that of the objects passed. Assumes nothing.
use Prim.Native.Nat.{◌*◌, ◌≤◌}
use mathlib.Core.Path.{◌≡◌}
use Rattle.profile.specs.Counting.{sum}
use Rattle.sheet.specs.Words.{sheet_of}
use Rattle.listener.specs.steps.Tracks.{number_when}
use Rattle.listener.proofs.writing.state_number.Given as goal

abbrev pub invariant-loop-o : goal.invariant-loop-o
invariant-loop-o l = (l.total ≤ 4295032830 * l.o) × (l.total ≡ sum (number_when (sheet_of l.s) l.state) l.o)
