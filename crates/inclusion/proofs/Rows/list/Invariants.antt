-- The objects passed have rows. Assumes nothing.
use Rattle.sheet.specs.Words.{sheet_of}
use Rattle.inclusion.specs.steps.Rows.{HasListed, SameLists}
use Rattle.inclusion.proofs.Rows.list.Given as goal

abbrev pub invariant-loop-l : goal.invariant-loop-l
invariant-loop-l l = SameLists l.initial.self l.self × HasListed (sheet_of l.s) l.self l.l 0
