-- Found so far is what the words passed have. Assumes nothing.
use Prim.Native.Nat.{◌+◌}
use mathlib.Core.Path.{◌≡◌}
use mathlib.Core.Bool.{not}
use lib.Dec.{eqb}
use Rattle.profile.specs.Counting.{any}
use Rattle.sheet.specs.Layout.{field}
use Rattle.sheet.specs.Words.{sheet_of}
use Rattle.rules.proofs.differences.fields_differ.Given as goal

abbrev pub invariant-loop-f : goal.invariant-loop-f
invariant-loop-f l = l.found ≡ any (λ j. not (eqb (field (sheet_of l.s) l.section l.a (l.from + j)) (field (sheet_of l.s) l.section l.b (l.from + j)))) l.f
