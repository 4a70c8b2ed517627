-- Where nothing is found, the sets passed break nothing. Assumes nothing.
use Rattle.std.proofs.Common.{◌+◌, ◌≡◌, false}
use Rattle.sheet.specs.Fields.{value_sets}
use Rattle.sheet.specs.Layout.{start}
use Rattle.sheet.specs.Words.{sheet_of}
use Rattle.profile.specs.Counting.{any}
use Rattle.screen.specs.steps.Values.{set_broken}
use Rattle.screen.proofs.sets.any_set_breaks.Given as goal

abbrev pub invariant-loop-i : goal.invariant-loop-i
invariant-loop-i l = l.found ≡ false → any (λ j. set_broken (sheet_of l.s) l.v (start (sheet_of l.s) value_sets (l.sets.first + j))) l.i ≡ false
