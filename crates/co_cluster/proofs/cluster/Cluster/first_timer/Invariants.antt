use Rattle.co_plain.specs.Federation.{Federation}
use Rattle.co_cluster.specs.Standing.{RepresentsCluster}
use Rattle.co_cluster.proofs.Walks.{HasPassed, room, Timed, timed_opens}
use Rattle.co_cluster.proofs.cluster.Cluster.first_timer.Given as goal

abbrev pub invariant-loop-next : goal.invariant-loop-next
invariant-loop-next g l = (s : Federation) → RepresentsCluster g.E.Engine.takes g.E.Engine.stands_for l.fn.self s → HasPassed s (Timed s) (timed_opens s) l.next

abbrev pub decreases-loop-next : goal.decreases-loop-next
decreases-loop-next g l = room l.next
