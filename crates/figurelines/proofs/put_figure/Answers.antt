-- The line's pieces, one behind the other. Assumes nothing.
use Rattle.figurelines.specs.FigureLines.{figure_line}
use Rattle.text.proofs.BufferLaws.{appends_join, appends_last}
use Rattle.figurelines.proofs.put_figure.Goals as goal

pub returns : goal.returns
unfolding figure_line
returns c = rw (← c.from.ensures, ← c.from-2.ensures) (search (appends_join, appends_last) depth 8)
