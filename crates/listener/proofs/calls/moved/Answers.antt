use mathlib.Core.Path.{◌≡◌, refl, ap, ◌∙◌}
use native.Mathlib.Omega.{arith}
use lib.Seq.{get_or-set_other}
use borrow.Author.Count.{below_none}
use Rattle.sheet.specs.Words.{sheet_of}
use Rattle.listener.specs.State.{state_objects, blank}
use Rattle.listener.specs.Calls.{moved_setting, moved}
use Rattle.listener.specs.steps.Settings.{moved_from}
use Rattle.listener.proofs.FillLaws.{filled_more, filled_all}
use Rattle.listener.proofs.StepLaws.{leaders_made, element_setting}
use Rattle.listener.proofs.calls.moved.Goals as goal

pub loop-q-init : goal.loop-q-init
loop-q-init c = (record { long = omega arith; right = below_none _ }, λ k l. refl)

pub loop-q-preserved : goal.loop-q-preserved
unfolding moved_setting moved_from
loop-q-preserved c =
    let l = c.loop-q in let i = c.loop-q-test.true in let a = c.args in let s = sheet_of a.s.now in (
      filled_more _ l.invariant.0 i (c.moved_setting.ensures (leaders_made s state_objects c.first_namers.new.table c.first_namers.ensures.1) ∙ ap (moved_from s a.o l.q) (l.invariant.1 l.q (omega arith) ∙ element_setting a.state.now l.q i)),
      λ k m. get_or-set_other l.x-items l.q k _ blank (λ z. let y : k ≡ l.q = z in absurd (omega arith)) ∙ l.invariant.1 k (omega arith),
    )

pub returns : goal.returns
unfolding moved
returns c = rw (filled_all c.loop-q.invariant.0 (omega arith)) refl
