-- Found so far is whether a word passed is at most the one before it. Assumes nothing.
use Rattle.std.proofs.Common.{◌≡◌, ◌-◌, ◌≤◌, length}
use Rattle.profile.specs.Counting.{any}
use Rattle.languages.specs.steps.Pairs.{words_of}
use Rattle.languages.proofs.RisingLaws.{falls_after}
use Rattle.languages.proofs.rising.rises.Given as goal

abbrev pub invariant-loop-i : goal.invariant-loop-i
invariant-loop-i l = (1 ≤ l.i) × (l.i - 1 ≤ length l.pairs - 1) × (l.falls ≡ any (falls_after (words_of l.pairs)) (l.i - 1))
