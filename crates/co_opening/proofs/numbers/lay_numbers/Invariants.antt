use Rattle.std.proofs.Common.{◌≡◌, drop}
use Rattle.co_plain.specs.MemberView.{with_numbers}
use Rattle.co_opening.proofs.numbers.lay_numbers.Given as goal

abbrev pub invariant-loop-t : goal.invariant-loop-t
invariant-loop-t l = with_numbers l.used (drop l.t-index l.numbers) ≡ with_numbers l.initial.used l.numbers
