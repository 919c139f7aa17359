use Rattle.std.proofs.Common.{◌≡◌, ℕ, not, ◌&&◌, drop}
use Rattle.std.specs.Prelude.{◌==◌}
use Rattle.co_state.specs.Table.{Table}
use Rattle.co_state.specs.declared.engine_state.Vote.{Vote}
use Rattle.co_recover.proofs.Meeting.{meets}
use Rattle.co_recover.specs.Locked.{Holds, held_by, sets_at}
use Rattle.co_recover.proofs.locks.holder_of.Given as goal

abbrev pub invariant-loop-change : goal.invariant-loop-change
invariant-loop-change l =
    (voted : Table Vote) → Holds l.locks (held_by voted) → (u : ℕ) → (not (u == l.t) && meets (sets_at voted u) (drop l.change-index l.changes)) ≡ (not (u == l.t) && meets (sets_at voted u) l.changes)
