-- The complements passed have rows. Assumes nothing.
use Rattle.sheet.specs.Words.{sheet_of}
use Rattle.inclusion.specs.steps.Rows.{HasListed, SameLists}
use Rattle.inclusion.proofs.Rows.push_group.Given as goal

abbrev pub invariant-loop-j : goal.invariant-loop-j
invariant-loop-j l = SameLists l.initial.self l.self × (HasListed (sheet_of l.s) l.initial.self l.l 0 → HasListed (sheet_of l.s) l.self l.l l.j)
