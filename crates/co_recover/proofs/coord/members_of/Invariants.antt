use Rattle.std.proofs.Common.{◌≡◌, ◌++◌, length}
use Rattle.co_recover.proofs.coord.members_of.Given as goal

abbrev pub invariant-loop-member : goal.invariant-loop-member
invariant-loop-member l = l.members.items ++ l.walk ≡ l.initial.walk

abbrev pub decreases-loop-member : goal.decreases-loop-member
decreases-loop-member l = length l.walk
