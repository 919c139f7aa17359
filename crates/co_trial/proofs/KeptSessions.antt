-- Settling begins nothing and answers no operation: the sessions stay.
use Rattle.std.proofs.Common.{◌≡◌, ℕ, Bool, true, false, if◌then◌else◌, List, [], ◌∷◌, ◌++◌, Option, None, Some, refl, sym, ◌∙◌, subst}
use Rattle.co_base.specs.declared.node.Node.{Node}
use Rattle.co_base.specs.declared.node.Node.TheVariants as node
use Rattle.co_message.specs.declared.answer.Answer.TheVariants as answer
use Rattle.co_message.specs.declared.event.Event.{Event}
use Rattle.co_message.specs.declared.event.Event.TheVariants as event
use Rattle.co_message.specs.declared.message.Message.{Message}
use Rattle.co_message.specs.declared.message.Message.TheVariants as message
use Rattle.co_plain.specs.declared.coord_step.CoordStep.{CoordStep}
use Rattle.co_plain.specs.declared.member_step.MemberStep.{MemberStep}
use Rattle.co_plain.specs.Federation.{Federation, Stepped, answers}
use Rattle.co_plain.specs.Quiet.{Prepares, Votes, Commits, Asks}
use Rattle.co_plain.specs.Runs.{run, lines}
use Rattle.co_plain.specs.Step.{step_line, disarmed, up_member, up_coord, arrives, timer_at, restart_at}
use Rattle.co_plain.specs.Wire.{was_sent}
use Rattle.co_law_settle.specs.SettlingTurns.{Turn, Restarts, Exchanges, Fires, turn_events, first_event, deliveries, delivers, wanted, note_in, turns_events, after_turn, IsSettling}

-- the events that settling has
abbrev pub IsSettlingEvent : Event → Type 0
IsSettlingEvent (event.Deliver note) = Unit {0}
IsSettlingEvent (event.Vote t m) = Unit {0}
IsSettlingEvent (event.Timer t at) = Unit {0}
IsSettlingEvent (event.Ask t m) = Unit {0}
IsSettlingEvent (event.Resend t c) = Unit {0}
IsSettlingEvent (event.Restart at) = Unit {0}
IsSettlingEvent _ = ⊥

abbrev pub AreSettlingEvents : List Event → Type 0
AreSettlingEvents [] = Unit {0}
AreSettlingEvents (e ∷ es) = IsSettlingEvent e × AreSettlingEvents es

both : (es fs : List Event) → AreSettlingEvents es → AreSettlingEvents fs → AreSettlingEvents (es ++ fs)
both [] fs h k = k
both (e ∷ es) fs h k = (h.0, both es fs h.1 k)

delivered : (tests : List (Message → Bool)) (z : Stepped) → AreSettlingEvents (deliveries tests z)
delivered [] z = tt
delivered (test ∷ tests) z = by (λ note. delivered tests (step_line z.state (event.Deliver note))) (note_in test z.items)
  where
    by : ((note : Message) → AreSettlingEvents (deliveries tests (step_line z.state (event.Deliver note)))) → (o : Option Message) → AreSettlingEvents (delivers o (λ note. deliveries tests (step_line z.state (event.Deliver note))))
    by rest None = tt
    by rest (Some note) = (tt, rest note)

of_turn : (s : Federation) (turn : Turn) → AreSettlingEvents (turn_events s turn)
of_turn s (Restarts at) = (tt, tt)
of_turn s (Fires t at) = (tt, tt)
of_turn s (Exchanges (Prepares t m c)) = (tt, delivered (wanted (Prepares t m c)) (step_line s (first_event (Prepares t m c))))
of_turn s (Exchanges (Votes t m)) = (tt, delivered (wanted (Votes t m)) (step_line s (first_event (Votes t m))))
of_turn s (Exchanges (Commits t m c)) = (tt, delivered (wanted (Commits t m c)) (step_line s (first_event (Commits t m c))))
of_turn s (Exchanges (Asks t m c)) = (tt, delivered (wanted (Asks t m c)) (step_line s (first_event (Asks t m c))))

of_turns : (turns : List Turn) (s : Federation) → AreSettlingEvents (turns_events turns s)
of_turns [] s = tt
of_turns (turn ∷ turns) s = both (turn_events s turn) (turns_events turns (after_turn s turn)) (of_turn s turn) (of_turns turns (after_turn s turn))

pub of_settling : (s : Federation) (events : List Event) → IsSettling s events → AreSettlingEvents events
of_settling s events i = subst AreSettlingEvents (sym i.same) (of_turns i.turns (disarmed s))

-- ---- they leave the sessions

kept_member : (s : Federation) (m : ℕ) (up : Bool) (did : MemberStep) → (up_member s m up did).state.sessions ≡ s.sessions
kept_member s m true did = refl
kept_member s m false did = refl

kept_coord : (s : Federation) (c : ℕ) (up : Bool) (did : CoordStep) → (up_coord s c up did).state.sessions ≡ s.sessions
kept_coord s c true did = refl
kept_coord s c false did = refl

kept_arrival : (s : Federation) (note : Message) → (arrives s note).state.sessions ≡ s.sessions
kept_arrival s (message.Prepare t c m count) = kept_member s m (s.member m).up _
kept_arrival s (message.Decide t c m commit) = kept_member s m (s.member m).up _
kept_arrival s (message.Vote t m c granted) = kept_coord s c (s.coord c).up _
kept_arrival s (message.Ask t m c) = kept_coord s c (s.coord c).up _
kept_arrival s (message.Ack t m c) = kept_coord s c (s.coord c).up _

kept_delivery : (s : Federation) (note : Message) (b : Bool) → (if b then arrives s note else answers s answer.Unsent).state.sessions ≡ s.sessions
kept_delivery s note true = kept_arrival s note
kept_delivery s note false = refl

kept_timer : (s : Federation) (t : ℕ) (at : Node) → (timer_at s t at).state.sessions ≡ s.sessions
kept_timer s t (node.Member m) = kept_member s m (s.member m).up _
kept_timer s t (node.Coord c) = kept_coord s c (s.coord c).up _

kept_restart : (s : Federation) (at : Node) → (restart_at s at).state.sessions ≡ s.sessions
kept_restart s (node.Member m) = refl
kept_restart s (node.Coord c) = refl

pub step_keeps_sessions : (s : Federation) (e : Event) → IsSettlingEvent e → (step_line s e).state.sessions ≡ s.sessions
step_keeps_sessions s (event.Deliver note) h = kept_delivery s note (was_sent s.sent note)
step_keeps_sessions s (event.Vote t m) h = kept_member s m (s.member m).up _
step_keeps_sessions s (event.Timer t at) h = kept_timer s t at
step_keeps_sessions s (event.Ask t m) h = kept_member s m (s.member m).up _
step_keeps_sessions s (event.Resend t c) h = kept_coord s c (s.coord c).up _
step_keeps_sessions s (event.Restart at) h = kept_restart s at
step_keeps_sessions s (event.Begin t c) h = absurd h
step_keeps_sessions s (event.Local t m) h = absurd h
step_keeps_sessions s (event.Read t m key) h = absurd h
step_keeps_sessions s (event.Write t m key value) h = absurd h
step_keeps_sessions s (event.Erase t m key) h = absurd h
step_keeps_sessions s (event.Scan t m span) h = absurd h
step_keeps_sessions s (event.Commit t) h = absurd h
step_keeps_sessions s (event.Abort t) h = absurd h
step_keeps_sessions s (event.Crash at) h = absurd h
step_keeps_sessions s (event.Arm at call leaves) h = absurd h
step_keeps_sessions s (event.Checkpoint at) h = absurd h

pub run_keeps_sessions : (events : List Event) (s : Federation) → AreSettlingEvents events → (run (lines events) s).sessions ≡ s.sessions
run_keeps_sessions [] s h = refl
run_keeps_sessions (e ∷ es) s h = run_keeps_sessions es (step_line s e).state h.1 ∙ step_keeps_sessions s e h.0
