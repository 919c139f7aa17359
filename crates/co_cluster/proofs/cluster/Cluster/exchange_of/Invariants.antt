use Rattle.std.proofs.Common.{◌<◌, ℕ}
use Rattle.co_plain.specs.Federation.{Federation}
use Rattle.co_plain.specs.Quiet.{IsEnabled}
use Rattle.co_cluster.specs.Conditions.{IsReady}
use Rattle.co_cluster.specs.Readings.{exchange_as}
use Rattle.co_cluster.specs.Standing.{RepresentsCluster}
use Rattle.co_cluster.proofs.cluster.Cluster.exchange_of.Given as goal

abbrev pub invariant-loop-member : goal.invariant-loop-member
invariant-loop-member g l =
    (s : Federation) → RepresentsCluster g.E.Engine.takes g.E.Engine.stands_for l.fn.self s → IsReady s → (m c : ℕ) → m < l.member → IsEnabled s (exchange_as l.fn.kind l.fn.t m c) → ⊥
