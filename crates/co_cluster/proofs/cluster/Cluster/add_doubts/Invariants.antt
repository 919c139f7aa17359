use Rattle.std.proofs.Common.{◌≡◌, ◌++◌}
use Rattle.co_plain.specs.Federation.{Federation}
use Rattle.co_cluster.specs.Listed.{found_to, doubt_at}
use Rattle.co_cluster.specs.Standing.{RepresentsCluster}
use Rattle.co_cluster.proofs.cluster.Cluster.add_doubts.Given as goal

abbrev pub invariant-loop-place : goal.invariant-loop-place
invariant-loop-place g l = (s : Federation) → RepresentsCluster g.E.Engine.takes g.E.Engine.stands_for l.fn.self s → l.doubts ≡ l.fn.doubts ++ found_to l.place (doubt_at s l.fn.t)
