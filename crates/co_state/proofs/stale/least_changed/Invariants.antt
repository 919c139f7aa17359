use Rattle.std.proofs.Common.{◌≡◌, drop, map, filter, option_copied}
use Rattle.co_state.specs.Changes.{span_read}
use Rattle.co_state.specs.Search.{least_with, range_has}
use Rattle.co_state.proofs.stale.least_changed.Given as goal

abbrev pub invariant-loop-change : goal.invariant-loop-change
invariant-loop-change l =
    least_with (option_copied l.least) (filter (range_has (span_read l.op)) (map (λ w. w.key) (drop l.change-index l.changes)))
    ≡ least_with (option_copied l.found) (filter (range_has (span_read l.op)) (map (λ w. w.key) l.changes))
