use Rattle.std.proofs.Common.{◌≡◌, drop}
use Rattle.co_opening.specs.Counted.{with_coords}
use Rattle.co_opening.proofs.numbers.lay_coords.Given as goal

abbrev pub invariant-loop-past : goal.invariant-loop-past
invariant-loop-past l = with_coords l.used (drop l.past-index l.pasts) ≡ with_coords l.initial.used l.pasts
