-- The line's pieces, one behind the other. Assumes nothing.
use Rattle.verdicts.specs.VerdictLine.{verdict_line}
use Rattle.text.proofs.BufferLaws.{appends_join, appends_last}
use Rattle.verdicts.proofs.put_verdict.Goals as goal

pub returns-in-Broken : goal.returns-in-Broken
unfolding verdict_line
returns-in-Broken c =
    rw (c.in-Broken.is, ← c.section.ensures.0, ← c.record.ensures.0, ← c.from.ensures, ← c.from-in-Broken.ensures, ← c.from-in-Broken-2.ensures)
    (search (appends_join, appends_last) depth 8)
