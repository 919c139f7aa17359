use Rattle.std.proofs.Common.{◌≡◌, ◌≤◌, length, drop}
use Rattle.co_plain_engine.specs.Plain.{voted_roll}
use Rattle.co_plain_engine.proofs.plain.voted_roll.Given as goal

abbrev pub invariant-loop-place : goal.invariant-loop-place
invariant-loop-place l = record {
  within : l.place ≤ length l.prepared;
  laid : l.roll ≡ voted_roll (drop l.place l.prepared);
}

abbrev pub decreases-loop-place : goal.decreases-loop-place
decreases-loop-place l = l.place
