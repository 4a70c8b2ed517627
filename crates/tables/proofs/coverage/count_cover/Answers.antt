-- The cover of all indices counts what all runs name. Assumes nothing.
use Rattle.std.proofs.Common.{rules, ℕ, get_or, ap, ◌∙◌, arith}
use lib.ListN.{length-replicate}
use Rattle.sheet.specs.Words.{sheet_of}
use Rattle.tables.specs.steps.Coverage.{run_begin, run_end}
use Rattle.tables.specs.steps.Marks.{counted_once, repeat}
use Rattle.tables.proofs.MarkLaws.{nought}
use Rattle.tables.proofs.CoverLaws.{named_cover}
use Rattle.tables.proofs.coverage.count_cover.Goals as goal

pub tally-requires-clause-noughts : goal.tally-requires-clause-noughts
tally-requires-clause-noughts c = λ x l. nought 32768 x

pub tally-requires-2-clause-noughts : goal.tally-requires-2-clause-noughts
tally-requires-2-clause-noughts c = λ x l. nought 32768 x

pub count_indices-requires : goal.count_indices-requires
count_indices-requires c =
    let s = sheet_of c.args.s.now in let k = c.args.kind in let long = length-replicate {A = ℕ} 32768 0 in
    let begins = c.tally.ensures (run_begin s k) (λ i r b q. search rules) in
    let ends = c.tally-2.ensures (run_end s k) (λ i r b q. search rules) in
    (omega (arith, c.requires.0, begins.0 ∙ long), omega (arith, c.requires.0, ends.0 ∙ long), rw c.namers-n.ensures at begins.1, rw c.namers-n.ensures at ends.1)

pub returns : goal.returns
returns c =
    let a = c.args in let counted = c.count_indices.ensures in let named = named_cover (sheet_of a.s.now) a.kind a.m c.requires.1 in
    (counted.0, λ x l. counted.1 x l ∙ ap (λ (n : ℕ). repeat counted_once n (get_or a.table.now x 0)) (named x))
