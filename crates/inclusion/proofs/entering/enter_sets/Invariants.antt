-- The sets passed are noted. Assumes nothing.
use Rattle.std.proofs.Common.{◌≡◌}
use Rattle.sheet.specs.Words.{sheet_of}
use Rattle.sheet.specs.Layout.{offset}
use Rattle.sheet.specs.Fields.{references}
use Rattle.tables.specs.steps.Right.{Owners}
use Rattle.inclusion.specs.steps.Entering.{SetsNotedTo}
use Rattle.inclusion.proofs.entering.enter_sets.Given as goal

abbrev pub invariant-loop-j : goal.invariant-loop-j
invariant-loop-j l = l.named.base ≡ offset (sheet_of l.s) references → Owners (sheet_of l.s) l.sets.owners.now → SetsNotedTo (sheet_of l.s) l.sets.alike.now l.p l.j l.initial.included l.included
