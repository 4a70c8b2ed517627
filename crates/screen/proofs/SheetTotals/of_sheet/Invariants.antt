-- The totals so far are those of the objects passed. Assumes nothing.
use Rattle.sheet.specs.Words.{sheet_of}
use Rattle.screen.specs.steps.Totals.{TotalsTo, TotalsWithin}
use Rattle.tables.specs.steps.Right.{ObjectsTabled}
use Rattle.screen.proofs.SheetTotals.of_sheet.Given as goal

abbrev pub invariant-loop-o : goal.invariant-loop-o
invariant-loop-o l = TotalsWithin l.o l.t × (ObjectsTabled (sheet_of l.s) l.tables → TotalsTo (sheet_of l.s) l.o l.t)
