-- The labels passed are languages and below the last one. Assumes nothing.
use Rattle.std.proofs.Common.{false, ◌≡◌}
use Rattle.sheet.specs.Words.{sheet_of}
use Rattle.profile.specs.Counting.{any}
use Rattle.lists.specs.steps.Entries.{entry_at, no_language_at, same_at}
use Rattle.lists.proofs.RisingLaws.{Below}
use Rattle.lists.proofs.entries.labels_rise.Given as goal

abbrev pub invariant-loop-i : goal.invariant-loop-i
invariant-loop-i l =
    let first = l.entries.list.first in
    Below (entry_at (sheet_of l.s) l.entries.base first) l.i l.last
    × (any (no_language_at (sheet_of l.s) l.langs l.entries.base first) l.i ≡ false)
    × (any (λ k. any (λ h. same_at (sheet_of l.s) l.entries.base first h k) k) l.i ≡ false)
