-- The settings so far are those of the objects passed, by the table of leaders; the others are as they were. Assumes nothing.
use Prim.Native.Nat.{ℕ, ◌≤◌}
use mathlib.Core.Path.{◌≡◌}
use lib.ListN.{get_or}
use Rattle.sheet.specs.Words.{sheet_of}
use Rattle.listener.specs.State.{state_objects, blank}
use Rattle.listener.specs.Calls.{moved_setting}
use Rattle.listener.proofs.FillLaws.{Filled}
use Rattle.listener.proofs.calls.moved.Given as goal

abbrev pub invariant-loop-q : goal.invariant-loop-q
invariant-loop-q l = Filled state_objects (moved_setting (sheet_of l.s) l.state l.o) blank l.x-items l.q × ((k : ℕ) → l.q ≤ k → get_or l.x-items k blank ≡ get_or l.state.objects k blank)
