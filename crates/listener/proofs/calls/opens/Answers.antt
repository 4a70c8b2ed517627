-- Accepted, and not of level 0. Assumes nothing.
use mathlib.Core.Path.{sym, ◌∙◌}
use Rattle.checker.specs.Checked.{checked}
use Rattle.listener.specs.Calls.{opens}
use Rattle.listener.proofs.calls.opens.Goals as goal

pub returns-in-Accepted : goal.returns-in-Accepted
unfolding opens checked
returns-in-Accepted c = simp (sym c.check-verdict.ensures ∙ c.in-Accepted.is, c.level.ensures)

pub returns-in-Broken : goal.returns-in-Broken
unfolding opens checked
returns-in-Broken c = simp (sym c.check-verdict.ensures ∙ c.in-Broken.is)
