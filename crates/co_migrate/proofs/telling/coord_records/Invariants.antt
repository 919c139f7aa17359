use Rattle.std.proofs.Common.{◌≡◌, ◌++◌, map}
use Rattle.co_migrate.specs.Telling.{commit_again}
use Rattle.co_migrate.proofs.telling.coord_records.Given as goal

abbrev pub invariant-loop-decided : goal.invariant-loop-decided
invariant-loop-decided l = l.records.items ++ map commit_again l.decided-iterator.rest.items ≡ l.initial.records.items ++ map commit_again l.initial.decided-iterator.rest.items
