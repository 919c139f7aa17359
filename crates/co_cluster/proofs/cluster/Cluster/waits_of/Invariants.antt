use Rattle.std.proofs.Common.{◌≡◌, length, flat_map, take}
use Rattle.co_plain.specs.Federation.{Federation}
use Rattle.co_cluster.specs.Listed.{found_to, wait_at}
use Rattle.co_cluster.specs.Standing.{RepresentsCluster}
use Rattle.co_cluster.proofs.cluster.Cluster.waits_of.Given as goal

abbrev pub invariant-loop-t : goal.invariant-loop-t
invariant-loop-t g l = (s : Federation) → RepresentsCluster g.E.Engine.takes g.E.Engine.stands_for l.fn.self s → l.waits ≡ flat_map (λ t. found_to (length s.kinds) (wait_at s t)) (take l.t-index l.txns)
