-- The lines of the objects passed are put. Assumes nothing.
use Rattle.profile.specs.Counting.{concat_below}
use Rattle.listener.specs.State.{setting}
use Rattle.text.specs.Buffer.{Appends}
use Rattle.console.specs.Answers.{object_line}
use Rattle.console.proofs.answers.put_objects.Given as goal

abbrev pub invariant-loop-o : goal.invariant-loop-o
invariant-loop-o l = Appends l.initial.text (concat_below (λ q. object_line q (setting l.state q)) l.o) l.text
