use Rattle.std.proofs.Common.{◌≡◌, drop, map}
use Rattle.co_plain.specs.MemberView.{with_numbers}
use Rattle.co_opening.proofs.numbers.lay_votes.Given as goal

abbrev pub invariant-loop-vote : goal.invariant-loop-vote
invariant-loop-vote l = with_numbers l.used (map (λ vote. vote.txn) (drop l.vote-index l.votes)) ≡ with_numbers l.initial.used (map (λ vote. vote.txn) l.votes)
