-- The sum so far is that of the objects passed. Assumes nothing.
use Prim.Native.Nat.{◌*◌, ◌≤◌}
use mathlib.Core.Path.{◌≡◌}
use Rattle.profile.specs.Counting.{sum}
use Rattle.profile.specs.Relations.{share}
use Rattle.sheet.specs.Words.{sheet_of}
use Rattle.tables.specs.steps.Right.{ObjectsTabled}
use Rattle.tables.proofs.ObjectTables.counted_tracks.Given as goal

abbrev pub invariant-loop-o : goal.invariant-loop-o
invariant-loop-o l =
    (l.total ≤ 4294967295 * l.o) × (ObjectsTabled (sheet_of l.fn.s) l.fn.self → l.total ≡ sum (share (sheet_of l.fn.s)) l.o)
