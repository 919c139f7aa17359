use Rattle.std.proofs.Common.{◌≡◌, ◌≤◌, take, reverse}
use Rattle.co_state.specs.EngineState.{records_now}
use Rattle.co_state.proofs.records.records_at.Given as goal

abbrev pub invariant-loop-place : goal.invariant-loop-place
invariant-loop-place l = record {
  laid : l.records ≡ records_now l.base (reverse (take l.place l.oldest_first));
  within : l.place ≤ l.count;
}
