use Rattle.std.proofs.Common.{◌≡◌, drop}
use Rattle.co_index.specs.Holding.{by_writes}
use Rattle.co_index.proofs.index.Index.by_writes.Given as goal

abbrev pub invariant-loop-change : goal.invariant-loop-change
invariant-loop-change l = by_writes l.self l.t l.least (drop l.change-index l.writes) ≡ by_writes l.self l.t l.initial.least l.writes
