-- The contents passed are asked for. Assumes nothing.
use Rattle.sheet.specs.Words.{sheet_of}
use Rattle.tables.specs.steps.Right.{Leaders}
use Rattle.inclusion.specs.steps.Entering.{Begins}
use Rattle.grouping.specs.steps.Leaders.{Asked}
use Rattle.grouping.proofs.leaders.groups_asked.Given as goal

abbrev pub invariant-loop-i : goal.invariant-loop-i
invariant-loop-i l = Begins (sheet_of l.s) l.sections → Leaders (sheet_of l.s) l.leaders → Asked (sheet_of l.s) l.p l.included l.seen l.i l.initial.groups l.groups
