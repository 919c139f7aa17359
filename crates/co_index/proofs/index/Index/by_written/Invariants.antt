use Rattle.std.proofs.Common.{◌≡◌}
use Rattle.co_index.specs.Holding.{by_written}
use Rattle.co_index.proofs.index.Index.by_written.Given as goal

abbrev pub invariant-loop-key : goal.invariant-loop-key
invariant-loop-key l = by_written l.t l.reads l.least l.key-iterator ≡ by_written l.t l.reads l.initial.least l.initial.key-iterator
