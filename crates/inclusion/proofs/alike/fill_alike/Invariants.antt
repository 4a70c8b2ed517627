-- The sets passed have ones that stand for them. Assumes nothing.
use Rattle.sheet.specs.Words.{sheet_of}
use Rattle.tables.specs.steps.Marks.{Standing}
use Rattle.inclusion.specs.steps.Alike.{Alike}
use Rattle.inclusion.proofs.alike.fill_alike.Given as goal

abbrev pub invariant-loop-v : goal.invariant-loop-v
invariant-loop-v l = Standing (λ x. 0) l.initial.table → Alike (sheet_of l.s) l.table
