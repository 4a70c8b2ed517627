-- The tables of a programme's objects. Assumes nothing.
use Rattle.sheet.specs.Words.{Sheet}
use Rattle.tables.specs.steps.Right.{Included, Leaders}
use Rattle.granted.specs.declared.ProgrammeTables.{ProgrammeTables}

-- they are right
abbrev pub ProgrammeTabled : Sheet → ProgrammeTables → Type 0
ProgrammeTabled s t = Leaders s t.leaders.now × Included s t.programme t.included.now
