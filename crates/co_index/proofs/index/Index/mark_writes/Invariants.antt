use Rattle.std.proofs.Common.{◌≡◌, drop}
use Rattle.co_index.specs.Touching.{with_votes}
use Rattle.co_index.proofs.index.Index.mark_writes.Given as goal

abbrev pub invariant-loop-change : goal.invariant-loop-change
invariant-loop-change l = with_votes l.self (drop l.change-index l.writes) l.t ≡ with_votes l.initial.self l.writes l.t
