use Rattle.std.proofs.Common.{◌≡◌, ◌<◌, ◌≤◌, ℕ, true, length}
use Rattle.co_plain.specs.Federation.{Federation}
use Rattle.co_cluster.specs.Standing.{RepresentsCluster}
use Rattle.co_cluster.proofs.cluster.Cluster.first_down.Given as goal

abbrev pub invariant-loop-member : goal.invariant-loop-member
invariant-loop-member g l = (s : Federation) → RepresentsCluster g.E.Engine.takes g.E.Engine.stands_for l.fn.self s → (n : ℕ) → 1 ≤ n → n < l.member → (s.member n).up ≡ true

abbrev pub invariant-loop-coord : goal.invariant-loop-coord
invariant-loop-coord g l =
    (s : Federation) → RepresentsCluster g.E.Engine.takes g.E.Engine.stands_for l.fn.self s →
    ((n : ℕ) → 1 ≤ n → n ≤ length s.kinds → (s.member n).up ≡ true) × ((n : ℕ) → 1 ≤ n → n < l.coord → (s.coord n).up ≡ true)
