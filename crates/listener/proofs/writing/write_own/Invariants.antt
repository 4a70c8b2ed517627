-- The tracks passed are written, one behind the other. Assumes nothing.
use Prim.Native.Nat.{◌+◌}
use mathlib.Core.List.{[], ◌∷◌}
use Rattle.sheet.specs.Words.{sheet_of}
use Rattle.profile.specs.Relations.{track_at}
use Rattle.listener.proofs.WrittenLaws.{Written}
use Rattle.listener.proofs.writing.write_own.Given as goal

abbrev pub invariant-loop-i : goal.invariant-loop-i
invariant-loop-i l = Written (λ j. track_at (sheet_of l.s) l.o j ∷ []) l.n l.at l.initial.buffer l.buffer (l.at + l.i) l.i
