use Rattle.std.proofs.Common.{◌≡◌, drop}
use Rattle.co_wait.specs.Testing.{rank_of}
use Rattle.co_wait.proofs.holding.rank_of.Given as goal

abbrev pub invariant-loop-rank : goal.invariant-loop-rank
invariant-loop-rank l = rank_of l.ranks l.txn ≡ rank_of (drop l.rank-index l.ranks) l.txn
