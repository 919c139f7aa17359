-- An operation more, as the roll keeps it.
use Rattle.std.proofs.Common.{◌≡◌, ℕ, ◌∷◌, None, Some, refl}
use Rattle.co_base.specs.declared.op.Op.{Op}
use Rattle.co_base.specs.declared.written.Written.{Written}
use Rattle.co_base.specs.Span.{Span}
use Rattle.co_engine.specs.declared.undecided.Undecided.{Undecided}
use Rattle.co_engine.specs.Undecided.{active_with, grown_by, own, IsKept}
use Rattle.co_engine.proofs.Rolling.{kept_along, each_grown}
use Rattle.co_state.specs.declared.engine_state.EngineState.{EngineState}
use Rattle.co_state.specs.Changes.{span_read, change_made, with_span, with_written}
use Rattle.co_state.specs.EngineState.{operations_of}
use Rattle.co_state.specs.Table.{Table, look, put, without}
use Rattle.co_lock.specs.Undecided.{with_range, with_change_of}

pub each_read : (roll : Table Undecided) (b : EngineState) (t : ℕ) (op : Op) (stamp : ℕ) (span : Span) → ((u : ℕ) → IsKept (look roll u) (look b.active u) (look b.voted u)) → look b.voted t ≡ None
    → span_read op ≡ Some span → change_made op ≡ None → (u : ℕ) → IsKept (look (with_range roll t span) u) (look (put b.active t (record { op = op; stamp = stamp } ∷ operations_of b t)) u) (look b.voted u)
each_read roll b t op stamp span each none reads writes u =
    let same : look (put (without roll t) t (active_with (grown_by op (own roll t).sets))) u ≡ look (with_range roll t span) u =
    λ i. look (put (without roll t) t (active_with (record { reads = with_span (reads i) (own roll t).sets.reads; writes = with_written (writes i) (own roll t).sets.writes }))) u in
    kept_along same refl refl (each_grown roll b t op stamp each none u)

pub each_write : (roll : Table Undecided) (b : EngineState) (t : ℕ) (op : Op) (stamp : ℕ) (change : Written) → ((u : ℕ) → IsKept (look roll u) (look b.active u) (look b.voted u)) → look b.voted t ≡ None
    → span_read op ≡ None → change_made op ≡ Some change → (u : ℕ) → IsKept (look (with_change_of roll t change) u) (look (put b.active t (record { op = op; stamp = stamp } ∷ operations_of b t)) u) (look b.voted u)
each_write roll b t op stamp change each none reads writes u =
    let same : look (put (without roll t) t (active_with (grown_by op (own roll t).sets))) u ≡ look (with_change_of roll t change) u =
    λ i. look (put (without roll t) t (active_with (record { reads = with_span (reads i) (own roll t).sets.reads; writes = with_written (writes i) (own roll t).sets.writes }))) u in
    kept_along same refl refl (each_grown roll b t op stamp each none u)
