use Rattle.std.proofs.Common.{◌≡◌, ◌≤◌, ◌++◌, ◌-◌}
use Rattle.co_check.specs.Stages.{members_to}
use Rattle.co_check.proofs.reader.push_members.Given as goal

abbrev pub invariant-loop-member : goal.invariant-loop-member
invariant-loop-member l = (l.member ≤ l.count) × (l.into ≡ l.initial.into ++ members_to l.member)

abbrev pub decreases-loop-member : goal.decreases-loop-member
decreases-loop-member l = l.count - l.member
