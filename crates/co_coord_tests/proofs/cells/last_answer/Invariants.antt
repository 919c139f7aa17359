use Rattle.co_coord_tests.specs.Played.{IsPlayed}
use Rattle.co_coord_tests.proofs.cells.last_answer.Given as goal

abbrev pub invariant-loop-message : goal.invariant-loop-message
invariant-loop-message l = IsPlayed l.home l.coord
