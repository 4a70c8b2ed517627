-- So much of the input was read and answered. Assumes nothing.
use mathlib.Core.Path.{◌≡◌}
use lib.ListN.{length}
use Rattle.text.proofs.AnsweringLaws.{Answered}
use Rattle.text.proofs.answering.answer_input.Given as goal

abbrev pub invariant-loop : goal.invariant-loop
invariant-loop g l =
    (length l.buffer ≡ 4096)
    × Answered g.A.Answering.answers l.initial.answering l.answering (g.I.Read.remaining l.initial.input) (g.I.Read.remaining l.input) (g.W.Write.contents l.initial.output) (g.W.Write.contents l.output)
