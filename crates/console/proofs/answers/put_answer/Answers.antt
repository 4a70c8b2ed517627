-- By the answer. Assumes nothing.
use Rattle.text.proofs.BufferLaws.{appends_join, appends_last}
use Rattle.console.specs.Answers.{answer_line}
use Rattle.console.proofs.answers.put_answer.Goals as goal

pub returns-in-Err : goal.returns-in-Err
unfolding answer_line
returns-in-Err c = rw (c.in-Err.is, ← c.from.ensures, ← c.from-in-Err.ensures) (search (appends_join, appends_last))
