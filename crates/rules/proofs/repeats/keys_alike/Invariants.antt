-- No entry passed has the key of one before it. Assumes nothing.
use Rattle.std.proofs.Common.{ℕ, ◌≡◌, length}
use Rattle.profile.specs.Counting.{ComputesBelow}
use Rattle.sheet.specs.Layout.{entry}
use Rattle.sheet.specs.Words.{sheet_of}
use Rattle.rules.proofs.SeenLaws.{Seen, Unlike}
use Rattle.rules.proofs.repeats.keys_alike.Given as goal

abbrev pub invariant-loop-j : goal.invariant-loop-j
invariant-loop-j g l =
    (length l.seen ≡ 65536)
    × ((f : ℕ → ℕ) → ComputesBelow 65536 (goal.F-post g l.key) f → Seen (λ i. f (entry (sheet_of l.s) l.section l.k l.at i)) l.seen l.j × Unlike (λ i. f (entry (sheet_of l.s) l.section l.k l.at i)) l.j)
