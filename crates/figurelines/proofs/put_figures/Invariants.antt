-- The figures passed have their lines. Assumes nothing.
use mathlib.Core.List.{map}
use lib.ListN.{take}
use Rattle.text.specs.Bytes.{join}
use Rattle.text.specs.Buffer.{Appends}
use Rattle.figurelines.specs.FigureLines.{figure_line}
use Rattle.figurelines.proofs.put_figures.Given as goal

abbrev pub invariant-loop-figure : goal.invariant-loop-figure
invariant-loop-figure l = Appends l.initial.text (join (map figure_line (take l.figure-index l.figures))) l.text
