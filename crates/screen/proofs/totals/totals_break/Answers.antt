-- Level 0 has no limits. Assumes nothing.
use Rattle.std.proofs.Common.{sym, ◌∙◌}
use Rattle.profile.specs.Relations.{groups, units, counted_tracks}
use Rattle.profile.specs.Rules.{rule23, rule24}
use Rattle.profile.proofs.BoolLaws.{or_none_3}
use Rattle.screen.proofs.totals.totals_break.Goals as goal

pub returns : goal.returns
unfolding rule23 rule24 groups units counted_tracks
returns c =
    λ e t.
    let p = or_none_3 c.exceeds.result c.exceeds-2.result c.exceeds-3.result e in
    let k = c.of_sheet-t.ensures t in (
      simp (rw (c.from.ensures, k.groups_to) at (sym c.exceeds.ensures ∙ p.0), rw (c.from-2.ensures, c.from-3.ensures, k.groups_to, k.lone_to) at (sym c.exceeds-2.ensures ∙ p.1)),
      rw k.tracks_to at (sym c.exceeds-3.ensures ∙ p.2),
    )
