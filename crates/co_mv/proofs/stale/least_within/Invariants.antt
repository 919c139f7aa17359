use Rattle.std.proofs.Common.{◌≡◌, option_copied}
use Rattle.co_mv.specs.Ordered.{AreOrdered}
use Rattle.co_mv.specs.Overwritten.{written_keys}
use Rattle.co_state.specs.Search.{least_with}
use Rattle.co_mv.proofs.stale.least_within.Given as goal

abbrev pub invariant-loop-key : goal.invariant-loop-key
invariant-loop-key l =
    AreOrdered l.initial.key-iterator
    → AreOrdered l.key-iterator × (least_with (option_copied l.least) (written_keys l.installs l.key-iterator) ≡ least_with (option_copied l.initial.least) (written_keys l.installs l.initial.key-iterator))
