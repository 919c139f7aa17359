use Rattle.std.proofs.Common.{◌≡◌, ℕ, not, ◌&&◌, drop}
use Rattle.std.specs.Prelude.{◌==◌}
use Rattle.co_state.specs.Keys.{reads_meet}
use Rattle.co_state.specs.Table.{Table}
use Rattle.co_state.specs.declared.engine_state.Vote.{Vote}
use Rattle.co_recover.specs.Locked.{Holds, held_by, sets_at}
use Rattle.co_recover.proofs.locks.writer_within.Given as goal

abbrev pub invariant-loop-range : goal.invariant-loop-range
invariant-loop-range l =
    (voted : Table Vote) → Holds l.locks (held_by voted) → (u : ℕ) → (not (u == l.t) && reads_meet (drop l.range-index l.ranges) (sets_at voted u).writes) ≡ (not (u == l.t) && reads_meet l.ranges (sets_at voted u).writes)
