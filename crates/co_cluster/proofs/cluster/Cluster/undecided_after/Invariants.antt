use Rattle.std.proofs.Common.{◌≡◌}
use Rattle.co_member.specs.Reading.{open_after}
use Rattle.co_plain.specs.Federation.{Federation}
use Rattle.co_cluster.specs.Readings.{least_to}
use Rattle.co_cluster.specs.Standing.{RepresentsCluster}
use Rattle.co_cluster.proofs.cluster.Cluster.undecided_after.Given as goal

abbrev pub invariant-loop-place : goal.invariant-loop-place
invariant-loop-place g l = (s : Federation) → RepresentsCluster g.E.Engine.takes g.E.Engine.stands_for l.fn.self s → l.least ≡ least_to l.place (λ m. open_after (s.member m).engine l.fn.after)
