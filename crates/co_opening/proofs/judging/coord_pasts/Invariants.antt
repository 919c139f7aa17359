use Rattle.std.proofs.Common.{take}
use Rattle.co_durable.specs.Pairs.{EachPair}
use Rattle.co_opening.specs.Standing.{IsCoordPastOf}
use Rattle.co_opening.proofs.judging.coord_pasts.Given as goal

abbrev pub invariant-loop-log : goal.invariant-loop-log
invariant-loop-log l = EachPair (IsCoordPastOf l.members) (take l.log-index l.logs) l.pasts.items
