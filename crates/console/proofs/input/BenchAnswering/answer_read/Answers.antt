-- A line more is answered, or the rest of the read. Assumes nothing.
use Prim.Native.Nat.{◌≤◌}
use mathlib.Core.Path.{refl, subst}
use native.Mathlib.Omega.{arith}
use lib.ListN.{length}
use lib.Seq.{take_all}
use Rattle.std.proofs.Common.{rules}
use Rattle.text.specs.Answering.{AnsweredRead}
use Rattle.console.specs.declared.input.Bench.{Bench}
use Rattle.console.proofs.InputLaws.{bench_answers, rest_done, line_ended}
use Rattle.console.proofs.input.BenchAnswering.answer_read.Goals as goal

pub returns-then-end-read : goal.returns-then-end-read
returns-then-end-read g c =
    let start = c.args.self.now in
    let now = c.loop.self in
    let mid : Bench = record { lent = now.lent; state = now.state; line = c.text.new.self; answer = now.answer } in
    λ h.
    rest_done start now mid c.args.read.now c.part.result.now c.loop.at c.line_end-end.result (g.W.Write.contents c.args.output.now) (g.W.Write.contents c.loop.output) c.loop.invariant.1 c.line_end-end.ensures.0 c.part.ensures refl refl c.text.ensures c.loop.invariant.2 c.if-end-read.true

pub loop-preserved : goal.loop-preserved
loop-preserved g c =
    let start = c.args.self.now in
    let now = c.loop.self in
    let mid : Bench = record { lent = now.lent; state = now.state; line = c.text.new.self; answer = now.answer } in
    let inside = c.if-end-read.false in
    let turn = c.end_line.ensures in (
      omega (arith, c.loop.invariant.0, c.line_end-end.ensures.1),
      omega (arith, inside),
      line_ended start now mid c.args.read.now c.part.result.now c.loop.at c.line_end-end.result (g.W.Write.contents c.args.output.now) (g.W.Write.contents c.loop.output) c.loop.invariant.1 c.line_end-end.ensures.0 c.part.ensures refl refl c.text.ensures c.loop.invariant.2
          c.end_line.new.self (g.W.Write.contents c.end_line.new.output) (omega (arith, inside)) turn.same_lent turn.state_value turn.line_after (search rules),
    )

pub returns : goal.returns
returns g c =
    let read = c.args.read.now in
    let before = g.W.Write.contents c.args.output.now in
    let out = g.W.Write.contents c.loop.output in
    let all : length read ≤ c.loop.at = omega (arith, c.loop.invariant.0, c.loop-test.false, c.loop.auto.counter-end) in
    λ h. subst (λ x. AnsweredRead bench_answers c.args.self.now c.loop.self x before out) (take_all c.loop.at read all) c.loop.invariant.2
