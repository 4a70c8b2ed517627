use Rattle.std.proofs.Common.{◌≡◌, ◌-◌, refl, length, ◌∙◌, ap, arith}
use Rattle.profile.specs.Counting.{any}
use Rattle.languages.specs.steps.Pairs.{words_of}
use Rattle.languages.proofs.RisingLaws.{falls_after, next_fall, all_passed}
use Rattle.languages.proofs.rising.rises.Goals as goal

pub loop-i-init : goal.loop-i-init
unfolding any
loop-i-init c = (omega arith, omega arith, refl)

pub loop-i-preserved : goal.loop-i-preserved
loop-i-preserved c = (
  omega arith,
  omega (arith, c.loop-i-test.true),
  next_fall c.args.pairs.now c.loop-i.i c.loop-i.falls c.from_be_bytes.result c.from_be_bytes-in-loop-i.result c.loop-i.invariant.0 c.loop-i-test.true c.loop-i.invariant.2
      c.from_be_bytes.ensures c.from_be_bytes-in-loop-i.ensures,
)

pub returns : goal.returns
returns c =
    let all : c.loop-i.i - 1 ≡ length c.args.pairs.now - 1 = omega (arith, c.loop-i-test.false, c.loop-i.invariant.0, c.loop-i.invariant.1, c.loop-i.auto.i-end) in
    all_passed c.args.pairs.now c.loop-i.falls (c.loop-i.invariant.2 ∙ ap (any (falls_after (words_of c.args.pairs.now))) all)
