use Rattle.std.proofs.Common.{◌≡◌, ◌<◌, ◌≤◌, ℕ, false}
use Rattle.co_base.specs.declared.node.Node.TheVariants as node
use Rattle.co_plain.specs.Federation.{Federation}
use Rattle.co_plain.specs.Settling.{timer_ends}
use Rattle.co_cluster.specs.Standing.{RepresentsCluster}
use Rattle.co_cluster.proofs.cluster.Cluster.active_at.Given as goal

abbrev pub invariant-loop-member : goal.invariant-loop-member
invariant-loop-member g l =
    (s : Federation) → RepresentsCluster g.E.Engine.takes g.E.Engine.stands_for l.fn.self s → (m : ℕ) → 1 ≤ m → m < l.member → timer_ends s l.fn.t (node.Member m) ≡ false
