-- What stands from y on is right, and the least index of each key is kept. Assumes nothing.
use Rattle.std.proofs.Common.{ℕ, ◌<◌, ◌≡◌, eqb, length, get_or}
use Rattle.sheet.specs.Words.{sheet_of}
use Rattle.sheet.specs.Layout.{count}
use Rattle.sheet.specs.Fields.{references}
use Rattle.tables.specs.steps.Marks.{NumbersBelow}
use Rattle.runs.specs.steps.Runs.{Next, Repeat}
use Rattle.runs.proofs.RunLaws.{FilledFrom}
use Rattle.runs.proofs.fill.fill_repeats.Given as goal

abbrev pub invariant-loop-y : goal.invariant-loop-y
invariant-loop-y g l =
    let m = count (sheet_of l.s) references in
    (length l.later ≡ 65536)
    × ((f : ℕ → ℕ) → NumbersBelow 65536 (goal.F-post g l.key) f →
    ((z : ℕ) → z < 65536 → Next (λ y. eqb (f y) z) m l.y (get_or l.later z 0))
    × Repeat f m l.y l.next
    × FilledFrom (Repeat f m) m l.y l.table)
