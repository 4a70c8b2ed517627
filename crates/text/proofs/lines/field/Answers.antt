use mathlib.Core.Path.{sym, ◌∙◌, ap}
use lib.ListN.{drop}
use lib.Seq.{drop-drop}
use Rattle.text.specs.Lines.{fields}
use Rattle.text.proofs.lines.field.Goals as goal

pub loop-preserved : goal.loop-preserved
loop-preserved c = ap (drop 1) (sym c.in-Some.ensures.0 ∙ c.loop.invariant) ∙ drop-drop 1 c.loop.counter (fields c.args.line.now)
