use Rattle.std.proofs.Common.{◌≡◌, ◌<◌, ◌≤◌, ℕ, false}
use Rattle.co_plain.specs.Federation.{Federation}
use Rattle.co_state.specs.Table.{look}
use Rattle.co_plain.specs.Quiet.{busy_at, busy_in}
use Rattle.co_cluster.specs.Standing.{RepresentsCluster}
use Rattle.co_cluster.proofs.cluster.Cluster.is_busy.Given as goal

abbrev pub invariant-loop-coord : goal.invariant-loop-coord
invariant-loop-coord g l = (s : Federation) → RepresentsCluster g.E.Engine.takes g.E.Engine.stands_for l.fn.self s → (c : ℕ) → 1 ≤ c → c < l.coord → busy_in (look (s.coord c).table l.fn.t) ≡ false

abbrev pub invariant-loop-member : goal.invariant-loop-member
invariant-loop-member g l =
    (s : Federation) → RepresentsCluster g.E.Engine.takes g.E.Engine.stands_for l.fn.self s →
    ((c : ℕ) → 1 ≤ c → c ≤ s.coordinators → busy_in (look (s.coord c).table l.fn.t) ≡ false) × ((m : ℕ) → 1 ≤ m → m < l.member → busy_at (s.member m) l.fn.t ≡ false)
