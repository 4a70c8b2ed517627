-- No two of the sets passed differ within a group. Assumes nothing.
use mathlib.Core.Path.{◌≡◌}
use lib.ListN.{length}
use Rattle.profile.specs.Relations.{leader_of, owner, named_set}
use Rattle.sheet.specs.Words.{sheet_of}
use Rattle.tables.specs.steps.Right.{GroupsTabled}
use Rattle.rules.proofs.DifferLaws.{Firsts, Agree}
use Rattle.rules.proofs.repeats.differ_from_first.Given as goal

abbrev pub invariant-loop-j : goal.invariant-loop-j
invariant-loop-j l =
    (length l.first ≡ 2048)
    × (GroupsTabled (sheet_of l.s) l.tables → Firsts (sheet_of l.s) (named_set (sheet_of l.s) l.p) (λ h. leader_of (sheet_of l.s) (owner (sheet_of l.s) (named_set (sheet_of l.s) l.p h))) l.first l.j × Agree (sheet_of l.s) (named_set (sheet_of l.s) l.p) (λ h. leader_of (sheet_of l.s) (owner (sheet_of l.s) (named_set (sheet_of l.s) l.p h))) l.j)
