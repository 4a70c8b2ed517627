-- By the table, or entry by entry. Assumes nothing.
use Rattle.std.proofs.Common.{rules, ◌+◌}
use Rattle.sheet.specs.Words.{sheet_of}
use Rattle.sheet.specs.Layout.{reference, entry}
use Rattle.profile.specs.Counting.{any}
use Rattle.profile.specs.Rules.{lacks, list_lacks}
use Rattle.rules.proofs.LookedLaws.{looked_else}
use Rattle.rules.proofs.lists.list_lacks_by.Goals as goal

pub returns : goal.returns
unfolding list_lacks entry
returns c = λ right.
    let a = c.args in let s = sheet_of a.s.now in
    looked_else s a.next.now a.section a.k a.at (λ x n. any (λ i. lacks s a.target (reference s (x + i))) n) c.look_up.result _ c.unwrap_or_else.result c.look_up.ensures c.unwrap_or_else.ensures right (λ p. search rules)
