use Rattle.std.proofs.Common.{length}
use Rattle.co_cluster.proofs.Disarmed.{IsDisarmedTo}
use Rattle.co_cluster.proofs.cluster.Cluster.disarm.Given as goal

abbrev pub invariant-loop-place : goal.invariant-loop-place
invariant-loop-place g l = IsDisarmedTo g.E.Engine.stands_for g.E.Engine.pins l.fn.self l.self l.place 0

abbrev pub invariant-loop-place-2 : goal.invariant-loop-place-2
invariant-loop-place-2 g l = IsDisarmedTo g.E.Engine.stands_for g.E.Engine.pins l.fn.self l.self (length l.fn.self.members.items) l.place
