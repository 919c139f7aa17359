use Rattle.std.proofs.Common.{◌≡◌, true, ℕ, List, take}
use Rattle.co_state.specs.Keys.{writes_key}
use Rattle.co_lock.specs.Locked.{IsLocked}
use Rattle.co_lock.specs.LockedState.{LockedState, IsClear, with_writes}
use Rattle.co_lock.proofs.engine.lay_changes.Given as goal

abbrev pub invariant-loop-change : goal.invariant-loop-change
invariant-loop-change l =
    (g : LockedState) → IsLocked l.initial.place g → ((q : List ℕ) → writes_key l.changes q ≡ true → IsClear g l.t q) → IsLocked l.place (with_writes g l.t (take l.change-index l.changes))
