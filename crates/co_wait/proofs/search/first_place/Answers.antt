-- The waits of lesser transactions come first.
use Rattle.std.proofs.Common.{nat_lt, rules}
use Rattle.std.proofs.lemmas.List.Sorted.{IsPartitionPoint-from_clause}
use Rattle.co_wait.proofs.Places.{begins, partitioned}
use Rattle.co_wait.proofs.search.first_place.Goals as goal

pub returns : goal.returns
returns c =
    begins c.args.waits.now c.args.txn c.partition_point.result c.partition_point.ensures.bound
    (IsPartitionPoint-from_clause (λ w. nat_lt w.held c.args.txn) c.args.waits.now c.partition_point.result c.partition_point.ensures.partitioned
    (partitioned c.args.waits.now c.args.txn c.requires) (λ a r f' called. search rules))
