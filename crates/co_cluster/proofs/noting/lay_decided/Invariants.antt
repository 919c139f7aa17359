use Rattle.std.proofs.Common.{◌≡◌, drop, map}
use Rattle.co_plain.specs.MemberView.{with_numbers}
use Rattle.co_cluster.proofs.noting.lay_decided.Given as goal

abbrev pub invariant-loop-decided : goal.invariant-loop-decided
invariant-loop-decided l = with_numbers l.found (map (λ decided. decided.txn) (drop l.decided-index l.commits)) ≡ with_numbers l.initial.found (map (λ decided. decided.txn) l.commits)
