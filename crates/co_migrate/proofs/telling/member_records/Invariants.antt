use Rattle.std.proofs.Common.{◌≡◌, ◌++◌, map}
use Rattle.co_member.specs.Checkpoint.{prepared_again}
use Rattle.co_migrate.proofs.telling.member_records.Given as goal

abbrev pub invariant-loop-vote : goal.invariant-loop-vote
invariant-loop-vote l = l.records.items ++ map prepared_again l.vote-iterator.rest.items ≡ l.initial.records.items ++ map prepared_again l.initial.vote-iterator.rest.items
