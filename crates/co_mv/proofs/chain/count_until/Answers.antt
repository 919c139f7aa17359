use Rattle.std.proofs.Common.{nat_le, rules}
use Rattle.std.proofs.lemmas.List.Sorted.{IsPartitionPoint-from_clause}
use Rattle.co_mv.specs.declared.version.Version.{Version}
use Rattle.co_mv.proofs.chain.count_until.Goals as goal

pub returns-clause-count : goal.returns-clause-count
returns-clause-count c = λ parted.
    IsPartitionPoint-from_clause (λ (v : Version). nat_le v.written c.args.installs) c.args.oldest_first.now c.partition_point.result c.partition_point.ensures.partitioned parted (λ a r f called. search rules)
