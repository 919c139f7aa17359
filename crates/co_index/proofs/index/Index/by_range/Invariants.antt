use Rattle.std.proofs.Common.{◌≡◌}
use Rattle.co_index.specs.Holding.{by_entries}
use Rattle.co_index.proofs.index.Index.by_range.Given as goal

abbrev pub invariant-loop-writers : goal.invariant-loop-writers
invariant-loop-writers l = by_entries l.t l.least l.writers-iterator ≡ by_entries l.t l.initial.least l.initial.writers-iterator
