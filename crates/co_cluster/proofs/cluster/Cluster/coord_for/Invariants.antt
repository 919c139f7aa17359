use Rattle.std.proofs.Common.{◌≡◌, ◌<◌, ◌≤◌, ℕ, false}
use Rattle.co_plain.specs.Federation.{Federation}
use Rattle.co_cluster.specs.Conditions.{IsReady}
use Rattle.co_cluster.specs.Readings.{helps}
use Rattle.co_cluster.specs.Standing.{RepresentsCluster}
use Rattle.co_cluster.proofs.cluster.Cluster.coord_for.Given as goal

abbrev pub invariant-loop-coord : goal.invariant-loop-coord
invariant-loop-coord g l =
    (s : Federation) → RepresentsCluster g.E.Engine.takes g.E.Engine.stands_for l.fn.self s → IsReady s → (c : ℕ) → 1 ≤ c → c < l.coord → helps s l.fn.kind l.fn.t l.fn.member c ≡ false
