use Rattle.std.proofs.Common.{take}
use Rattle.co_durable.specs.Pairs.{EachPair}
use Rattle.co_durable.specs.Recovering.{IsSeenIn}
use Rattle.co_durable.proofs.recovering.recover_coords.Given as goal

abbrev pub invariant-loop-log : goal.invariant-loop-log
invariant-loop-log l = EachPair (IsSeenIn l.members) (take l.log-index l.logs) l.seen.items
