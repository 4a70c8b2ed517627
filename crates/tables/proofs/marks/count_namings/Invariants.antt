-- The records passed are counted. Assumes nothing.
use Rattle.sheet.specs.Words.{sheet_of}
use Rattle.tables.specs.steps.Marks.{MarkedTimes, counted_once, named_before}
use Rattle.tables.proofs.marks.count_namings.Given as goal

abbrev pub invariant-loop-q : goal.invariant-loop-q
invariant-loop-q l = MarkedTimes counted_once (named_before (sheet_of l.s) l.kind l.q) l.initial.table l.table
