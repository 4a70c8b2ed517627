-- The lines, one behind the other. Assumes nothing.
use Rattle.text.proofs.BufferLaws.{appends_join, appends_last}
use Rattle.console.specs.Answers.{state_lines}
use Rattle.console.proofs.answers.put_state.Goals as goal

pub returns : goal.returns
unfolding state_lines
returns c =
    let number = rw c.from.ensures at c.number.ensures in
    appends_join _ _ _ _ _ c.text.ensures (appends_join _ _ _ _ _ number (appends_join _ _ _ _ _ c.text-2.ensures (appends_last _ _ _ c.put_objects.ensures)))
