use Rattle.std.proofs.Common.{◌≡◌}
use Rattle.co_durable.specs.Nodes.{numbered}
use Rattle.co_plain.specs.CoordView.{recovered_commits}
use Rattle.co_plain.specs.Federation.{Federation}
use Rattle.co_cluster.specs.Standing.{RepresentsCluster}
use Rattle.co_cluster.proofs.cluster.Cluster.commits.Given as goal

abbrev pub invariant-loop-place : goal.invariant-loop-place
invariant-loop-place g l = (s : Federation) → RepresentsCluster g.E.Engine.takes g.E.Engine.stands_for l.fn.self s → l.commits.items ≡ numbered (λ c. (recovered_commits (s.coord c).log.stable).seen) l.place
