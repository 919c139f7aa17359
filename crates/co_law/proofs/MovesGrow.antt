-- What no move changes.
use Rattle.std.proofs.Common.{◌==◌, Option, None, Some, refl}
use Rattle.std.proofs.lemmas.Bool.{or_right}
use Rattle.co_state.specs.Table.{look}
use Rattle.co_plain.specs.declared.coord_state.Entry.{Entry}
use Rattle.co_plain.specs.declared.coord_state.Entry.TheVariants as entry
use Rattle.co_plain.specs.declared.session.Session.{Session}
use Rattle.co_plain.specs.MemberStep.{with_engine}
use Rattle.co_plain.specs.Sessions.{count_at}
use Rattle.co_state.specs.Effects.{with_operation}
use Rattle.co_plain.specs.Federation.{Federation, with_member}
use Rattle.co_plain.specs.Decisions.{is_decided, told_of}
use Rattle.co_plain.specs.Moves.{Move, Operate, Decide, CommitLocally, RecordYes, RecordAck, AskEnd, effect, entered_reply, marked_over, record_yes, record_ack, entry_at, with_decision, local_state}
use Rattle.co_law_moves.proofs.Growing.{Grows, stays}

-- no move changes the opened logs, and none takes a decision away
pub effect_grows : (s : Federation) (move : Move) → Grows s (effect s move)
effect_grows s (Operate t m o) = by (look s.sessions t)
  where
    by : (z : Option Session) → Grows s (with_member (entered_reply s t m o z) m (with_engine (s.member m) (with_operation (s.member m).engine t o)))
    by None = record { members = refl; coords = refl; decided = λ u h. h }
    by (Some session) = record { members = refl; coords = refl; decided = λ u h. h }
effect_grows s (CommitLocally t m) = by (look s.sessions t)
  where
    by : (z : Option Session) → Grows s (with_decision (with_member (marked_over s t z) m (local_state (s.member m) t (count_at (told_of s t) m))) t)
    by None = record { members = refl; coords = refl; decided = λ u h. or_right (t == u) (is_decided s.decided u) h }
    by (Some session) = record { members = refl; coords = refl; decided = λ u h. or_right (t == u) (is_decided s.decided u) h }
effect_grows s (Decide t c) = record { members = refl; coords = refl; decided = λ u h. or_right (t == u) (is_decided s.decided u) h }
effect_grows s (RecordYes t c m) = by (entry_at s t c)
  where
    by : (o : Option Entry) → Grows s (record_yes s t c m o)
    by None = stays s
    by (Some entry.Idle) = stays s
    by (Some (entry.Collecting parts yeses)) = record { members = refl; coords = refl; decided = λ u h. h }
    by (Some (entry.Committed members acks)) = stays s
effect_grows s (RecordAck t c m) = by (entry_at s t c)
  where
    by : (o : Option Entry) → Grows s (record_ack s t c m o)
    by None = stays s
    by (Some entry.Idle) = stays s
    by (Some (entry.Collecting parts yeses)) = stays s
    by (Some (entry.Committed members acks)) = record { members = refl; coords = refl; decided = λ u h. h }
effect_grows s (AskEnd t) = by (look s.sessions t)
  where
    by : (z : Option Session) → Grows s (marked_over s t z)
    by None = stays s
    by (Some session) = record { members = refl; coords = refl; decided = λ u h. h }
effect_grows s _ = record { members = refl; coords = refl; decided = λ u h. h }
