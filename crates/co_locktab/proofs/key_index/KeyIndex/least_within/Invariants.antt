use Rattle.std.proofs.Common.{◌≡◌}
use Rattle.co_locktab.specs.Holding.{least_along}
use Rattle.co_locktab.proofs.key_index.KeyIndex.least_within.Given as goal

abbrev pub invariant-loop-holders : goal.invariant-loop-holders
invariant-loop-holders l = least_along l.t l.least l.holders-iterator ≡ least_along l.t l.initial.least l.initial.holders-iterator
