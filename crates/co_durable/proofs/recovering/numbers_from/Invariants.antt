use Rattle.std.proofs.Common.{◌≡◌, drop}
use Rattle.co_state.specs.Table.{no_entries}
use Rattle.co_plain.specs.MemberView.{with_numbers}
use Rattle.co_durable.proofs.recovering.numbers_from.Given as goal

abbrev pub invariant-loop-t : goal.invariant-loop-t
invariant-loop-t l = with_numbers l.numbers (drop l.t-index l.list) ≡ with_numbers no_entries l.list
