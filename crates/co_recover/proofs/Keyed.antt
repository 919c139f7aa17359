-- Changes without their values are of the same keys, so they are in conflict with the same votes and take the same locks.
use Rattle.std.proofs.Common.{◌≡◌, ℕ, not, ◌&&◌, ◌||◌, List, [], ◌∷◌, map, Option, refl, ap}
use Rattle.std.specs.Prelude.{◌==◌}
use Rattle.co_base.specs.Span.{Span}
use Rattle.co_base.specs.declared.written.Written.{Written}
use Rattle.co_locktab.specs.declared.lock_table.LockTable.{LockTable}
use Rattle.co_plain.specs.MemberView.{sets_conflict}
use Rattle.co_state.specs.Keys.{same_key, reads_key, writes_key, reads_meet, writes_meet}
use Rattle.co_state.specs.Table.{Table}
use Rattle.co_state.specs.declared.engine_state.Sets.{Sets}
use Rattle.co_state.specs.declared.engine_state.Vote.{Vote}
use Rattle.co_recover.proofs.Holding.{holds_same}
use Rattle.co_recover.proofs.Meeting.{found_same}
use Rattle.co_recover.specs.Locked.{Held, Holds, IsFound, with_reads, with_writes, without_value, without_values, sets_at, is_against}

written_alike : (ws : List Written) (key : List ℕ) → writes_key (map without_value ws) key ≡ writes_key ws key
written_alike [] key = refl
written_alike (w ∷ ws) key = ap (λ b. same_key w.key key || b) (written_alike ws key)

reads_alike : (spans : List Span) (ws : List Written) → reads_meet spans (map without_value ws) ≡ reads_meet spans ws
reads_alike spans [] = refl
reads_alike spans (w ∷ ws) = ap (λ b. reads_key spans w.key || b) (reads_alike spans ws)

writes_alike : (vs ws : List Written) → writes_meet vs (map without_value ws) ≡ writes_meet vs ws
writes_alike vs [] = refl
writes_alike vs (w ∷ ws) = ap (λ b. writes_key vs w.key || b) (writes_alike vs ws)

conflict_alike : (other sets : Sets) → sets_conflict other (without_values sets) ≡ sets_conflict other sets
conflict_alike other sets = λ i. (reads_alike other.reads sets.writes i || reads_meet sets.reads other.writes) || writes_alike other.writes sets.writes i

pub against_alike : (voted : Table Vote) (t : ℕ) (sets : Sets) (o : Option ℕ) → IsFound (is_against voted t (without_values sets)) o → IsFound (is_against voted t sets) o
against_alike voted t sets o = found_same (is_against voted t (without_values sets)) (is_against voted t sets) o (λ u. ap (λ b. not (u == t) && b) (conflict_alike (sets_at voted u) sets))

pub held_alike : (table : LockTable) (held : Held) (t : ℕ) (sets : Sets) → Holds table (with_writes (with_reads held t sets.reads) t (map without_value sets.writes)) → Holds table (with_writes (with_reads held t sets.reads) t sets.writes)
held_alike table held t sets = holds_same table (with_writes (with_reads held t sets.reads) t (map without_value sets.writes)) (with_writes (with_reads held t sets.reads) t sets.writes)
    (λ u q. refl) (λ u q. ap (λ b. ((u == t) && b) || held.writes u q) (written_alike sets.writes q))
