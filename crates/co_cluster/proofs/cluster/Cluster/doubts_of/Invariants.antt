use Rattle.std.proofs.Common.{◌≡◌, length, flat_map, take}
use Rattle.co_plain.specs.Federation.{Federation}
use Rattle.co_cluster.specs.Listed.{found_to, doubt_at}
use Rattle.co_cluster.specs.Standing.{RepresentsCluster}
use Rattle.co_cluster.proofs.cluster.Cluster.doubts_of.Given as goal

abbrev pub invariant-loop-t : goal.invariant-loop-t
invariant-loop-t g l = (s : Federation) → RepresentsCluster g.E.Engine.takes g.E.Engine.stands_for l.fn.self s → l.doubts ≡ flat_map (λ t. found_to (length s.kinds) (doubt_at s t)) (take l.t-index l.txns)
