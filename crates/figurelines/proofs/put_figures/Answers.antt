use Rattle.text.proofs.BufferLaws.{appends_more}
use Rattle.text.proofs.BytesLaws.{joined_more}
use Rattle.figures.specs.Clashes.{no_figure}
use Rattle.figurelines.specs.FigureLines.{figure_line}
use Rattle.figurelines.proofs.put_figures.Goals as goal

pub loop-figure-preserved : goal.loop-figure-preserved
loop-figure-preserved c =
    rw (joined_more figure_line c.args.figures.now c.loop-figure.figure-index no_figure c.loop-figure-test.true)
    (appends_more _ _ _ _ _ c.loop-figure.invariant c.put_figure.ensures)
