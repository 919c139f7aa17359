use Rattle.std.proofs.Common.{◌≡◌, ◌<◌, ◌≤◌, ℕ, true, false, None, length}
use Rattle.std.specs.Prelude.{is_some}
use Rattle.co_member.specs.Reading.{open_after}
use Rattle.co_plain.specs.Federation.{Federation}
use Rattle.co_state.specs.Table.{least_where}
use Rattle.co_cluster.specs.Standing.{RepresentsCluster}
use Rattle.co_cluster.proofs.cluster.Cluster.anything_open.Given as goal

abbrev pub invariant-loop-member : goal.invariant-loop-member
invariant-loop-member g l = (s : Federation) → RepresentsCluster g.E.Engine.takes g.E.Engine.stands_for l.fn.self s → (m : ℕ) → 1 ≤ m → m < l.member → is_some (open_after (s.member m).engine None) ≡ false

abbrev pub invariant-loop-coord : goal.invariant-loop-coord
invariant-loop-coord g l =
    (s : Federation) → RepresentsCluster g.E.Engine.takes g.E.Engine.stands_for l.fn.self s →
    ((m : ℕ) → 1 ≤ m → m ≤ length s.kinds → is_some (open_after (s.member m).engine None) ≡ false) × ((c : ℕ) → 1 ≤ c → c < l.coord → is_some (least_where (λ t e. true) (s.coord c).table) ≡ false)
