use Rattle.std.proofs.Common.{◌≡◌, ◌≤◌, length, take, reverse, option_copied}
use Rattle.co_state.specs.Changes.{span_read}
use Rattle.co_state.specs.Search.{least_with}
use Rattle.co_state.specs.StaleRead.{keys_since, overwritten}
use Rattle.co_state.proofs.stale.least_since.Given as goal

abbrev pub invariant-loop-place : goal.invariant-loop-place
invariant-loop-place l = record {
  within : l.place ≤ length l.installs;
  rest : least_with (option_copied l.least) (overwritten (span_read l.operation.op) (keys_since (reverse (take l.place l.installs)) l.operation.stamp))
      ≡ least_with (option_copied l.found) (overwritten (span_read l.operation.op) (keys_since (reverse l.installs) l.operation.stamp));
}

abbrev pub decreases-loop-place : goal.decreases-loop-place
decreases-loop-place l = l.place
