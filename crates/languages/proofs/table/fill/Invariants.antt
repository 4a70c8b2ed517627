-- The table tells of the words passed. Assumes nothing.
use Rattle.std.proofs.Common.{◌≡◌, length}
use Rattle.languages.specs.steps.Pairs.{words_of}
use Rattle.languages.proofs.TableLaws.{TableOf, from_q, marked_before}
use Rattle.languages.proofs.table.fill.Given as goal

abbrev pub invariant-loop-w : goal.invariant-loop-w
invariant-loop-w l = (length l.table ≡ 27483) × TableOf (from_q l.w) l.table

abbrev pub invariant-loop-pair : goal.invariant-loop-pair
invariant-loop-pair l = (length l.table ≡ 27483) × TableOf (marked_before (words_of l.pairs) l.pair-index) l.table
