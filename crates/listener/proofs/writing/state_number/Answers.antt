use mathlib.Core.Path.{◌≡◌, refl, ap, ◌∙◌}
use native.Mathlib.Omega.{arith}
use native.Mathlib.Numerals.{add-one}
use Rattle.profile.specs.Counting.{sum}
use Rattle.listener.specs.State.{state_objects}
use Rattle.listener.specs.steps.Tracks.{number_when, state_number}
use Rattle.listener.proofs.StepLaws.{element_active}
use borrow.Author.Rules.{rules}
use Rattle.listener.proofs.writing.state_number.Goals as goal

pub loop-o-init : goal.loop-o-init
unfolding sum
loop-o-init c = (search rules, refl)

pub loop-o-preserved : goal.loop-o-preserved
unfolding sum number_when
loop-o-preserved c = (
  omega (arith, c.number_when-total.ensures.1),
  let l = c.loop-o in rw (add-one, c.number_when-total.ensures.0, c.from.ensures, element_active c.args.state.now l.o c.loop-o-test.true, l.invariant.1),
)

pub returns : goal.returns
unfolding state_number
returns c = let e : c.loop-o.o ≡ state_objects = omega arith in c.loop-o.invariant.1 ∙ ap (sum _) e
