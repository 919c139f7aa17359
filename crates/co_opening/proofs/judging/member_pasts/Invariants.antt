use Rattle.std.proofs.Common.{take}
use Rattle.co_durable.specs.Pairs.{EachPair}
use Rattle.co_durable.specs.Recovering.{IsPastOf}
use Rattle.co_opening.proofs.judging.member_pasts.Given as goal

abbrev pub invariant-loop-log : goal.invariant-loop-log
invariant-loop-log l = EachPair (IsPastOf l.coords) (take l.log-index l.logs) l.pasts.items
