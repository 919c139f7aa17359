use Rattle.std.proofs.Common.{◌≡◌, ℕ, ◌≤◌, length, drop}
use Rattle.co_state.specs.Table.{holds}
use Rattle.co_engine.specs.Calls.{votes_of}
use Rattle.co_engine.proofs.known.Known.restored.Given as goal

abbrev pub invariant-loop-place : goal.invariant-loop-place
invariant-loop-place l = record {
  within : l.place ≤ length l.prepared;
  same : (t : ℕ) → holds l.voted t ≡ holds (votes_of (drop l.place l.prepared)) t;
}

abbrev pub decreases-loop-place : goal.decreases-loop-place
decreases-loop-place l = l.place
