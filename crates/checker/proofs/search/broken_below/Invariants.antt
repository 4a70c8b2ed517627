-- No record passed breaks the rule. Assumes nothing.
use Rattle.std.proofs.Common.{◌≡◌, length}
use Rattle.sheet.specs.Words.{sheet_of}
use Rattle.checker.specs.steps.Kept.{Unbroken}
use Rattle.checker.specs.steps.Tables.{Right, first_table, second_table}
use Rattle.checker.proofs.search.broken_below.Given as goal

abbrev pub invariant-loop-k : goal.invariant-loop-k
invariant-loop-k l =
    let rule = l.asked.rule in let section = l.asked.section in
    (length l.marks ≡ length l.initial.marks)
    × (Right (sheet_of l.s) l.langs (first_table rule section) l.tables.first.now → Right (sheet_of l.s) l.langs (second_table rule section) l.tables.second.now → Unbroken (sheet_of l.s) l.langs rule section l.k)
