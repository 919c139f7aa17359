-- What a plain engine keeps and for which states it stands.
use Rattle.std.specs.Prelude.{ℕ, ◌≡◌, ◌&&◌, not, List, ◌∷◌, length, ◌==◌, Option}
use Rattle.std.specs.FinMap.{entries}
use Rattle.co_base.specs.declared.op.Op.{Op}
use Rattle.co_serial.specs.Records.{Records, with_changes}
use Rattle.co_state.specs.declared.engine_state.EngineState.{EngineState}
use Rattle.co_state.specs.declared.engine_state.Operation.{Operation}
use Rattle.co_state.specs.declared.engine_state.Sets.{Sets}
use Rattle.co_state.specs.EngineState.{operations_in, records_at}
use Rattle.co_state.specs.LockRule.{writes_block}
use Rattle.co_state.specs.ReadRule.{stamp_after}
use Rattle.co_state.specs.Search.{sets_block}
use Rattle.co_state.specs.Table.{Table, look, put, without, first_in, lesser}
use Rattle.co_pairs.specs.declared.prepared.Prepared.{Prepared}
use Rattle.co_pairs.specs.Votes.{told_of}
use Rattle.co_engine.specs.declared.undecided.Undecided.{Undecided}
use Rattle.co_engine.specs.Undecided.{active_with, grown_by, voted_with, own, IsKept}
use Rattle.co_plain_engine.specs.declared.plain.PlainEngine.{PlainEngine}

pub record StandsFor (p : PlainEngine) (b : EngineState) : Type 0 where
  pub kind_is : p.kind ≡ b.kind
  pub base_is : p.base ≡ b.base
  pub installed_is : p.installed ≡ b.installed
  pub active_is : p.active ≡ b.active
  pub each : (t : ℕ) → IsKept (look p.undecided t) (look b.active t) (look b.voted t)

-- the prepared transactions as voted ones
abbrev pub voted_roll : List Prepared → Table Undecided
voted_roll ps = told_of (λ p. voted_with p.sets) ps

-- the operations of an active transaction, newest first; none of another one
abbrev pub own_operations : PlainEngine → ℕ → List Operation
own_operations p t = operations_in (look p.active t)

-- how many installs its next operation sees
abbrev pub own_stamp : PlainEngine → ℕ → ℕ
own_stamp p t = stamp_after p.kind (length p.installed) (own_operations p t)

-- what it read and wrote so far
abbrev pub own_sets : PlainEngine → ℕ → Sets
own_sets p t = (own p.undecided t).sets

-- the records that its next operation sees
abbrev pub own_records : PlainEngine → ℕ → Records
own_records p t = with_changes (records_at p.base p.installed (own_stamp p t)) (own_sets p t).writes

-- the least other transaction in the way of its next operation
abbrev pub own_holder : PlainEngine → ℕ → Op → Option ℕ
own_holder p t op =
    lesser
    (first_in (λ u e. not e.voted && not (u == t) && sets_block e.sets op) (entries p.undecided))
    (first_in (λ u e. e.voted && not (u == t) && writes_block e.sets.writes op) (entries p.undecided))

-- the transaction with one operation more
abbrev pub with_own : PlainEngine → ℕ → Op → PlainEngine
with_own p t op = record p {
  active = put (without p.active t) t (record { op = op; stamp = own_stamp p t } ∷ own_operations p t);
  undecided = put (without p.undecided t) t (active_with (grown_by op (own_sets p t)));
}
