use Rattle.std.proofs.Common.{◌≡◌, ◌++◌, length}
use Rattle.co_migrate.specs.Planning.{planned}
use Rattle.co_migrate.specs.Telling.{coord_again}
use Rattle.co_migrate.proofs.planning.plan_coords.Given as goal

abbrev pub invariant-loop-log : goal.invariant-loop-log
invariant-loop-log l = record {
  many : length l.log-iterator.rest.items ≡ length l.pasts.rest.items;
  planning : l.initial.plan.items ++ planned coord_again l.fn.logs.items l.fn.pasts.items ≡ l.plan.items ++ planned coord_again l.log-iterator.rest.items l.pasts.rest.items;
}
