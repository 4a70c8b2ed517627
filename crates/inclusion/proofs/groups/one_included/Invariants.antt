-- The members passed are counted. Assumes nothing.
use Rattle.std.proofs.Common.{◌+◌, ◌≤◌, ◌≡◌}
use Rattle.sheet.specs.Words.{sheet_of}
use Rattle.inclusion.specs.steps.Groups.{many_listed}
use Rattle.inclusion.proofs.groups.one_included.Given as goal

abbrev pub invariant-loop-i : goal.invariant-loop-i
invariant-loop-i l = (l.many ≤ l.i + 1) × (l.many ≡ many_listed (sheet_of l.s) l.included l.others.base l.others.list.first l.i l.e)
