-- Pair by pair. Assumes nothing.
use Rattle.std.proofs.Common.{rules}
use Rattle.profile.specs.Relations.{named_set}
use Rattle.rules.specs.steps.Loops.{differ_in_one_group}
use Rattle.sheet.specs.Layout.{entry, reference}
use Rattle.sheet.specs.Words.{sheet_of}
use Rattle.rules.proofs.repeats.group_pairs_differ.Goals as goal

pub returns : goal.returns
unfolding named_set entry reference
returns c = λ right.
    rw (c.entries.ensures.base, c.entries.ensures.list, c.at-sets.ensures.first, c.at-sets.ensures.count) at (c.two_entries.ensures (differ_in_one_group (sheet_of c.args.s.now)) (λ u v r l m q. search rules))
