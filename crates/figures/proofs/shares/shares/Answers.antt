use Rattle.std.proofs.Common.{◌≡◌, refl, ap, ◌∙◌, arith, add-one}
use Rattle.profile.specs.Counting.{concat_below}
use Rattle.figures.specs.Lists.{first_figures, no_figures}
use Rattle.figures.specs.Shares.{share_figures, share_list}
use Rattle.sheet.specs.Words.{sheet_of}
use Rattle.figures.proofs.FiguresLaws.{first_append}
use Rattle.figures.proofs.shares.shares.Goals as goal

pub loop-o-init : goal.loop-o-init
unfolding concat_below first_figures
loop-o-init c = c.new-given.ensures

pub loop-o-preserved : goal.loop-o-preserved
unfolding concat_below
loop-o-preserved c = rw (add-one, first_append, ← c.loop-o.invariant, c.push_share.ensures) refl

pub returns : goal.returns
unfolding share_list
returns c =
    let e : c.loop-o.o ≡ c.count-o-end.result = omega arith in c.loop-o.invariant ∙ ap (λ n. first_figures no_figures (concat_below (share_figures (sheet_of c.args.s.now)) n)) (e ∙ c.count-o-end.ensures)
