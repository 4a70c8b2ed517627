-- What stands in the table. Assumes nothing.
use Rattle.std.proofs.Common.{ℕ, sym, ap, not, ◌∙◌}
use lib.Dec.{eqb}
use Rattle.tables.proofs.TableLaws.{standing_read, listed_counted}
use Rattle.rules.proofs.naming.is_listed.Goals as goal

pub returns-in-Some : goal.returns-in-Some
returns-in-Some c = λ right. ap (λ (n : ℕ). not (eqb n 0)) (standing_read _ _ _ _ right (sym c.look.ensures ∙ c.in-Some.is)) ∙ sym (listed_counted _ _)
