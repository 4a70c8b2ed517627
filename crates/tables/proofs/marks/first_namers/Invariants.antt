-- The records from q on are marked, the lower over the higher. Assumes nothing.
use Rattle.std.proofs.Common.{◌-◌, get_or}
use Rattle.sheet.specs.Words.{sheet_of}
use Rattle.tables.specs.steps.Namings.{namers}
use Rattle.tables.specs.steps.Marks.{Filled, names_by, first_from}
use Rattle.tables.proofs.marks.first_namers.Given as goal

abbrev pub invariant-loop-q : goal.invariant-loop-q
invariant-loop-q l = Filled (λ x. first_from (λ j. names_by (sheet_of l.s) l.kind j x) (get_or l.initial.table x 0) l.q-counter (namers (sheet_of l.s) l.kind - l.q-counter)) l.initial.table l.table
