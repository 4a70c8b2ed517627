-- The objects passed are counted, in each table, and kept where they are the first. Assumes nothing.
use mathlib.Core.Path.{◌≡◌}
use lib.ListN.{length}
use Rattle.sheet.specs.Words.{sheet_of}
use Rattle.tables.specs.declared.Naming.TheVariants.{Children, Complements, SetSpans}
use Rattle.tables.specs.steps.Marks.{Standing, names_by, first_from, MarkedTimes, counted_once, named_before}
use Rattle.tables.proofs.passes.count_lists.Given as goal

abbrev pub invariant-loop-q : goal.invariant-loop-q
invariant-loop-q l =
    MarkedTimes counted_once (named_before (sheet_of l.s) Children l.q) l.initial.named l.named
    × MarkedTimes counted_once (named_before (sheet_of l.s) Complements l.q) l.initial.complements l.complements
    × MarkedTimes counted_once (named_before (sheet_of l.s) SetSpans l.q) l.initial.spanned l.spanned
    × (length l.owners ≡ length l.initial.owners)
    × (Standing (λ x. 0) l.initial.owners → Standing (λ x. first_from (λ j. names_by (sheet_of l.s) SetSpans j x) 0 0 l.q) l.owners)
