-- The pieces, one behind the other. Assumes nothing.
use Rattle.text.proofs.BufferLaws.{appends_join, appends_last}
use Rattle.console.specs.Answers.{name_text}
use Rattle.console.proofs.answers.put_name.Goals as goal

pub returns : goal.returns
unfolding name_text
returns c = rw (← c.from.ensures) (search (appends_join, appends_last))
