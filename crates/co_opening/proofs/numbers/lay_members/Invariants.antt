use Rattle.std.proofs.Common.{◌≡◌, drop}
use Rattle.co_opening.specs.Counted.{with_members}
use Rattle.co_opening.proofs.numbers.lay_members.Given as goal

abbrev pub invariant-loop-past : goal.invariant-loop-past
invariant-loop-past l = with_members l.used (drop l.past-index l.pasts) ≡ with_members l.initial.used l.pasts
