-- The largest so far is that of the members passed. Assumes nothing.
use mathlib.Core.Path.{◌≡◌}
use Rattle.profile.specs.Counting.{largest}
use Rattle.profile.specs.Relations.{size, member}
use Rattle.sheet.specs.Words.{sheet_of}
use Rattle.relations.proofs.sizes.largest_member.Given as goal

abbrev pub invariant-loop-i : goal.invariant-loop-i
invariant-loop-i l = (l.most ≡ largest (λ j. size (sheet_of l.s) (member (sheet_of l.s) l.l j)) l.i)
