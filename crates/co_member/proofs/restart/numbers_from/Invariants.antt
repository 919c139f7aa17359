use Rattle.std.proofs.Common.{◌≡◌, drop}
use Rattle.co_plain.specs.MemberView.{with_numbers}
use Rattle.co_member.proofs.restart.numbers_from.Given as goal

abbrev pub invariant-loop-t : goal.invariant-loop-t
invariant-loop-t l = with_numbers l.table (drop l.t-index l.t-items) ≡ with_numbers l.initial.table l.t-items
