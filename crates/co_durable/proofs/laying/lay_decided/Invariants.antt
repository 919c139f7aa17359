use Rattle.std.proofs.Common.{◌≡◌, drop}
use Rattle.co_durable.specs.Laying.{with_decided_votes}
use Rattle.co_durable.proofs.laying.lay_decided.Given as goal

abbrev pub invariant-loop-vote : goal.invariant-loop-vote
invariant-loop-vote l = with_decided_votes l.seen l.records (drop l.vote-index l.voted) ≡ with_decided_votes l.seen l.initial.records l.voted
