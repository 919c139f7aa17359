use Rattle.std.proofs.Common.{◌≡◌, ◌≤◌, length, drop}
use Rattle.co_pairs.specs.Votes.{told_of}
use Rattle.co_engine.proofs.sets.prepared_sets.Given as goal

abbrev pub invariant-loop-place : goal.invariant-loop-place
invariant-loop-place l = record {
  within : l.place ≤ length l.prepared;
  laid : l.all ≡ told_of (λ p. p.sets) (drop l.place l.prepared);
}

abbrev pub decreases-loop-place : goal.decreases-loop-place
decreases-loop-place l = l.place
