use mathlib.Core.Path.{◌≡◌}
use native.Mathlib.Omega.{arith}
use Rattle.sheet.specs.Words.{sheet_of}
use Rattle.tables.proofs.MarkLaws.{nought}
use Rattle.listener.specs.State.{state_objects}
use Rattle.listener.specs.Programme.{started}
use Rattle.listener.proofs.FillLaws.{begun_none, begun_more, begun_all}
use Rattle.listener.proofs.RestLaws.{rest_start}
use Rattle.listener.proofs.programme.started.Goals as goal

pub loop-o-init : goal.loop-o-init
loop-o-init c = rw c.resting-objects.ensures (begun_none _ _ _ _)

pub loop-o-preserved : goal.loop-o-preserved
loop-o-preserved c =
    let t = c.enter_tables-n.ensures in
    rw c.from.ensures
    (begun_more _ c.loop-o.invariant (omega (arith, c.loop-o-test.true, t.within)) (rw t.programme at (c.start_setting.ensures (t.tabled (λ x l. nought state_objects x) (λ x l. nought state_objects x)))))

pub returns : goal.returns
unfolding started
returns c =
    let a = c.args in let e : c.loop-o.o ≡ c.enter_tables-n.result.1 = omega arith in
    rw (begun_all c.loop-o.invariant (λ k i j. rest_start (sheet_of a.s.now) a.p k (c.enter_tables-n.ensures.none_past k (omega (arith, e, i)) j)))
