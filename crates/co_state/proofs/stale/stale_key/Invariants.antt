use Rattle.std.proofs.Common.{◌≡◌, ◌≤◌, length, take, reverse, option_copied}
use Rattle.co_state.specs.Keys.{least_key}
use Rattle.co_state.specs.Search.{least_with}
use Rattle.co_state.specs.StaleRead.{stale_keys}
use Rattle.co_state.proofs.stale.stale_key.Given as goal

abbrev pub invariant-loop-place : goal.invariant-loop-place
invariant-loop-place l = record {
  within : l.place ≤ length l.operations;
  rest : least_with (option_copied l.least) (stale_keys (reverse l.installs) (reverse (take l.place l.operations)))
      ≡ least_key (stale_keys (reverse l.installs) (reverse l.operations));
}

abbrev pub decreases-loop-place : goal.decreases-loop-place
decreases-loop-place l = l.place
