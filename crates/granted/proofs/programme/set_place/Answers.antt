-- The lowest place that has a set of the object. Assumes nothing.
use mathlib.Core.Path.{ap, ◌∙◌}
use borrow.Author.Rules.{rules}
use Rattle.profile.specs.Counting.{lowest}
use Rattle.profile.specs.Relations.{has_set, named_set}
use Rattle.sheet.specs.Words.{sheet_of}
use Rattle.sheet.specs.Layout.{entry, reference}
use Rattle.sheet.specs.declared.spans.Span.{Span}
use Rattle.granted.specs.steps.NamedSet.{set_place}
use Rattle.granted.proofs.programme.set_place.Goals as goal

pub returns : goal.returns
unfolding set_place
returns c =
    let a = c.args in let s = sheet_of a.s.now in
    c.lowest.ensures (λ i. has_set s a.o (named_set s a.p i)) (λ i r l q. unfold has_set in unfold named_set in unfold entry in unfold reference in search rules) ∙ ap (lowest _) (ap (λ (l : Span). l.count) c.entries-sets.ensures.list ∙ c.at.ensures.count)
