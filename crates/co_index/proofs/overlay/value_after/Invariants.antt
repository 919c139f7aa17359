use Rattle.std.proofs.Common.{◌≡◌, drop, option_copied}
use Rattle.co_index.proofs.Laying.{value_after}
use Rattle.co_index.proofs.overlay.value_after.Given as goal

abbrev pub invariant-loop-change : goal.invariant-loop-change
invariant-loop-change l = value_after (option_copied l.seen) (drop l.change-index l.changes) l.key ≡ value_after (option_copied l.initial.seen) l.changes l.key
