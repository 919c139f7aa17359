use Rattle.std.proofs.Common.{◌≡◌, vec_len}
use Rattle.co_store.specs.Images.{slots_from}
use Rattle.co_store.proofs.Laying.{slots_under}
use Rattle.co_store.proofs.store.slots_of.Given as goal

abbrev pub invariant-loop-row : goal.invariant-loop-row
invariant-loop-row l = slots_under l.rows.items l.slots ≡ slots_from l.initial.rows.items

abbrev pub decreases-loop-row : goal.decreases-loop-row
decreases-loop-row l = vec_len l.rows
