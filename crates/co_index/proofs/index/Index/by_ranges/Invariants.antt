use Rattle.std.proofs.Common.{◌≡◌, drop}
use Rattle.co_index.specs.Holding.{by_reads}
use Rattle.co_index.proofs.index.Index.by_ranges.Given as goal

abbrev pub invariant-loop-range : goal.invariant-loop-range
invariant-loop-range l = by_reads l.self l.t l.least (drop l.range-index l.reads) ≡ by_reads l.self l.t l.initial.least l.reads
