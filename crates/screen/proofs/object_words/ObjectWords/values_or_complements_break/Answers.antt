-- Each part is its callee's. Assumes nothing.
use Rattle.std.proofs.Common.{sym, ◌∙◌}
use Rattle.profile.proofs.BoolLaws.{or_none_4}
use Rattle.screen.specs.steps.Objects.{sets_broken}
use Rattle.screen.proofs.object_words.ObjectWords.values_or_complements_break.Goals as goal

pub returns : goal.returns
unfolding sets_broken
returns c =
    λ e tabled.
    let p = or_none_4 c.breaks.result c.any_set_breaks.result c.complements_break.result c.child_breaks.result e in (
      rw c.values-values.ensures at (sym c.breaks.ensures ∙ p.0),
      rw (c.span.ensures.first, c.span.ensures.count, c.values-values.ensures) at (c.any_set_breaks.ensures p.1),
      c.complements_break.ensures p.2 tabled,
      c.child_breaks.ensures p.3 tabled.0,
    )
