use Rattle.std.proofs.Common.{◌≡◌, ◌≤◌, length, take, reverse, option_copied}
use Rattle.std.specs.FinMap.{entries}
use Rattle.co_state.specs.Keys.{least_key}
use Rattle.co_state.specs.Search.{least_with}
use Rattle.co_occ.specs.Last.{keys_after}
use Rattle.co_occ.proofs.validation.stale_key.Given as goal

abbrev pub invariant-loop-place : goal.invariant-loop-place
invariant-loop-place l = record {
  within : l.place ≤ length l.reads;
  rest : least_with (option_copied l.least) (keys_after (entries l.lasts) (reverse (take l.place l.reads))) ≡ least_key (keys_after (entries l.lasts) (reverse l.reads));
}

abbrev pub decreases-loop-place : goal.decreases-loop-place
decreases-loop-place l = l.place
