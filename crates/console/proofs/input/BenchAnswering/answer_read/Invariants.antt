-- The bytes so far are answered, one a turn at least. Assumes nothing.
use Prim.Native.Nat.{◌≤◌}
use lib.ListN.{take, length}
use Rattle.text.specs.Answering.{AnsweredRead}
use Rattle.console.proofs.InputLaws.{bench_answers}
use Rattle.console.proofs.input.BenchAnswering.answer_read.Given as goal

abbrev pub invariant-loop : goal.invariant-loop
invariant-loop g l =
    (l.counter ≤ l.at) × (l.at ≤ length l.read)
    × AnsweredRead bench_answers l.initial.self l.self (take l.at l.read) (g.W.Write.contents l.initial.output) (g.W.Write.contents l.output)
