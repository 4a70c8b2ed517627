-- The pieces, one behind the other. Assumes nothing.
use mir.Facts.{to_z-of_z}
use Rattle.text.proofs.BufferLaws.{appends_join, appends_last}
use Rattle.console.specs.Answers.{values_text}
use Rattle.console.proofs.answers.put_values.Goals as goal

pub returns : goal.returns
unfolding values_text
returns c = let offset = rw (to_z-of_z c.ranges.offset) at c.signed.ensures in search (appends_join, appends_last) depth 6
