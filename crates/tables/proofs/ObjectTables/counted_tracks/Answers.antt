use Rattle.std.proofs.Common.{◌≡◌, refl, ap, ◌∙◌, arith}
use native.Mathlib.Numerals.{add-one}
use Rattle.profile.specs.Counting.{sum}
use Rattle.profile.specs.Relations.{counted_tracks}
use Rattle.tables.proofs.ObjectTables.counted_tracks.Goals as goal

pub loop-o-init : goal.loop-o-init
unfolding sum
loop-o-init c = (omega arith, λ right. refl)

pub loop-o-preserved : goal.loop-o-preserved
unfolding sum
loop-o-preserved c = (omega (arith, c.from-total.ensures), λ right. rw (add-one, c.loop-o.invariant.1 right, c.from-total.ensures, c.share.ensures right) refl)

pub returns : goal.returns
unfolding counted_tracks
returns c =
    let e : c.loop-o.o ≡ c.count-n.result = omega arith in
    λ right. c.loop-o.invariant.1 right ∙ ap (sum _) (e ∙ c.count-n.ensures)
