-- By the table, or by the list. Assumes nothing.
use Rattle.std.proofs.Common.{rules, ◌+◌, eqb}
use Rattle.sheet.specs.Words.{sheet_of}
use Rattle.sheet.specs.Layout.{reference, entry}
use Rattle.profile.specs.Counting.{two_of}
use Rattle.profile.specs.Rules.{repeats}
use Rattle.rules.proofs.LookedLaws.{looked_else}
use Rattle.rules.proofs.repeats.repeats_by.Goals as goal

pub returns : goal.returns
unfolding repeats entry
returns c = λ right.
    let a = c.args in let s = sheet_of a.s.now in
    looked_else s a.next.now a.section a.k a.at (λ x n. two_of (λ i j. eqb (reference s (x + i)) (reference s (x + j))) n) c.look_up.result _ c.unwrap_or_else.result c.look_up.ensures c.unwrap_or_else.ensures right (λ p. search rules)
