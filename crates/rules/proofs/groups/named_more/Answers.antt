-- What stands in the table. Assumes nothing.
use Rattle.std.proofs.Common.{ℕ, sym, ap, ◌∙◌}
use lib.Dec.{ltb}
use Rattle.tables.proofs.TableLaws.{standing_read, counted_more, complement_times}
use Rattle.rules.specs.steps.Loops.{total_times}
use Rattle.rules.proofs.groups.named_more.Goals as goal

pub returns-in-Some : goal.returns-in-Some
unfolding total_times
returns-in-Some c = λ right. ap (λ (n : ℕ). ltb 1 n) (standing_read _ _ _ _ right (sym c.look.ensures ∙ c.in-Some.is)) ∙ counted_more _ ∙ ap (λ (n : ℕ). ltb 1 n) (sym (complement_times _ _))
