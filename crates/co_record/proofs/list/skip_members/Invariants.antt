use Rattle.std.proofs.Common.{◌≡◌, ◌-◌, None}
use Rattle.std.specs.Ordering.{nat_cmp}
use Rattle.co_record.specs.Reading.{steps, next_at, member_at}
use Rattle.co_record.proofs.list.skip_members.Given as goal

abbrev pub invariant-loop : goal.invariant-loop
invariant-loop l = steps (next_at member_at nat_cmp) (l.count - l.counter) (l.before, l.rest) ≡ steps (next_at member_at nat_cmp) l.count (None, l.bytes)
