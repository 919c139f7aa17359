use Rattle.std.proofs.Common.{◌≡◌, length}
use Rattle.co_state.specs.Table.{no_entries}
use Rattle.co_plain.specs.MemberView.{with_numbers}
use Rattle.co_recover.proofs.owned.numbers_of.Given as goal

abbrev pub invariant-loop-t : goal.invariant-loop-t
invariant-loop-t l = with_numbers l.numbers l.walk ≡ with_numbers no_entries l.initial.walk

abbrev pub decreases-loop-t : goal.decreases-loop-t
decreases-loop-t l = length l.walk
