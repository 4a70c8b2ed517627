-- The members passed are counted, and their sets agree. Assumes nothing.
use Rattle.std.proofs.Common.{ℕ, ◌+◌, ◌-◌, ◌≤◌, ◌<◌, ◌≡◌, false}
use Rattle.sheet.specs.Words.{sheet_of}
use Rattle.sheet.specs.Layout.{offset}
use Rattle.sheet.specs.Fields.{value_sets}
use Rattle.profile.specs.Rules.{sets_differ}
use Rattle.inclusion.specs.steps.Groups.{listed_in, many_listed, sets_listed}
use Rattle.inclusion.proofs.groups.members_kept.Given as goal

abbrev pub invariant-loop-i : goal.invariant-loop-i
invariant-loop-i l =
    (l.many ≤ l.i + 1)
    × (l.noted ≤ l.i + 1)
    × (l.many ≡ many_listed (sheet_of l.s) l.included l.others.base l.others.list.first l.i l.e)
    × (l.noted ≡ sets_listed (sheet_of l.s) l.included l.others.base l.others.list.first l.i l.e)
    × (l.sets ≡ offset (sheet_of l.s) value_sets → 1 < l.e → (j : ℕ) → j < l.i → 1 < listed_in (sheet_of l.s) l.included l.others.base l.others.list.first j → sets_differ (sheet_of l.s) (l.e - 2) (listed_in (sheet_of l.s) l.included l.others.base l.others.list.first j - 2) ≡ false)
