-- Where no record is left, the rule is kept. Assumes nothing.
use Rattle.std.proofs.Common.{sym, arith}
use Rattle.profile.proofs.CountingLaws.{lowest_none}
use Rattle.checker.proofs.search.by_tables.Goals as goal

pub returns-then-records : goal.returns-then-records
returns-then-records c = sym (lowest_none _ _ (λ j l. c.requires j (omega (arith, l, c.if-records.true))))
