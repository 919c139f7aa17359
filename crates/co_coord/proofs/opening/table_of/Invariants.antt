use Rattle.std.proofs.Common.{◌≡◌}
use Rattle.std.specs.Prelude.{map}
use Rattle.co_plain.specs.CoordStep.{table_onto}
use Rattle.co_coord.specs.Opening.{pair_of}
use Rattle.co_coord.proofs.opening.table_of.Given as goal

abbrev pub invariant-loop-decided : goal.invariant-loop-decided
invariant-loop-decided l = table_onto l.table (map pair_of l.decided-iterator.rest.items) ≡ table_onto l.initial.table (map pair_of l.initial.decided-iterator.rest.items)
