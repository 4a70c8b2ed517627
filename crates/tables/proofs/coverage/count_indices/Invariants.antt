-- The indices passed are counted. Assumes nothing.
use Prim.Native.Nat.{◌*◌, ◌≤◌}
use mathlib.Core.Path.{◌≡◌}
use mathlib.Core.Bool.{cond}
use lib.Dec.{eqb, ltb}
use Rattle.sheet.specs.Words.{sheet_of}
use Rattle.profile.specs.Counting.{how_many, sum}
use Rattle.tables.specs.steps.Namings.{namers}
use Rattle.tables.specs.steps.Marks.{MarkedTimes, counted_once}
use Rattle.tables.specs.steps.Coverage.{run_begin, run_end, named_at, cover}
use Rattle.tables.proofs.coverage.count_indices.Given as goal

abbrev pub invariant-loop-y : goal.invariant-loop-y
invariant-loop-y l =
    (l.begun ≤ 65535 * l.y)
    × (l.ended ≤ 65535 * l.y)
    × (l.begun ≡ how_many (λ q. ltb (run_begin (sheet_of l.s) l.kind q) l.y) (namers (sheet_of l.s) l.kind))
    × (l.ended ≡ how_many (λ q. ltb (run_end (sheet_of l.s) l.kind q) l.y) (namers (sheet_of l.s) l.kind))
    × MarkedTimes counted_once (λ x. sum (λ j. cond (eqb (named_at (sheet_of l.s) l.kind j) x) (cover (sheet_of l.s) l.kind j) 0) l.y) l.initial.table l.table
