use Rattle.std.proofs.Common.{rules}
use lib.Dec.{ltb}
use Rattle.std.proofs.lemmas.List.Sorted.{IsPartitionPoint-from_clause, IsPartitionedBy-ltb, IsNonDecreasingBy-from_default}
use Rattle.factors.specs.Table.{entries}
use Rattle.factors.proofs.TableLaws.{entries_not_falling}
use Rattle.factors.proofs.SearchLaws.{first_of_point}
use Rattle.factors.proofs.convert.first_not_below.Goals as goal

pub returns-clause-place : goal.returns-clause-place
unfolding entries
returns-clause-place c =
    first_of_point c.args.factor c.partition_point.result entries c.partition_point.ensures.bound
    (IsPartitionPoint-from_clause (λ n. ltb n c.args.factor) entries c.partition_point.result c.partition_point.ensures.partitioned
    (IsPartitionedBy-ltb (λ n. n) entries c.args.factor (IsNonDecreasingBy-from_default (λ n. n) entries 0 entries_not_falling))
    (λ a r f k. search rules))
