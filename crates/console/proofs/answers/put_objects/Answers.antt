use native.Mathlib.Numerals.{add-one}
use Rattle.profile.specs.Counting.{concat_below}
use Rattle.listener.proofs.StepLaws.{element_setting}
use Rattle.text.proofs.BufferLaws.{appends_more}
use Rattle.console.proofs.answers.put_objects.Goals as goal

pub loop-o-preserved : goal.loop-o-preserved
unfolding concat_below
loop-o-preserved c =
    let x = element_setting c.args.state c.loop-o.o c.loop-o-test.true in
    rw (add-one) (appends_more _ _ _ _ _ c.loop-o.invariant (rw (c.from.ensures, x) at c.put_setting.ensures))
