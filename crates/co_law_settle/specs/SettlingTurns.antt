-- How settling goes: which events each of its turns has, and how one turn follows another until nothing is open.
use Rattle.std.specs.Prelude.{ℕ, Bool, true, false, ◌==◌, ◌≡◌, List, [], ◌∷◌, ◌++◌, if◌then◌else◌, Option, None, Some}
use Rattle.co_base.specs.declared.node.Node.{Node}
use Rattle.co_base.specs.declared.node.Node.TheVariants as node
use Rattle.co_message.specs.declared.event.Event.{Event}
use Rattle.co_message.specs.declared.event.Event.TheVariants as event
use Rattle.co_message.specs.declared.item.ItemKind.{ItemKind}
use Rattle.co_message.specs.declared.item.ItemKind.TheVariants as item
use Rattle.co_message.specs.declared.message.Message.{Message}
use Rattle.co_message.specs.declared.message.Message.TheVariants as message
use Rattle.co_plain.specs.Wire.{was_sent}
use Rattle.co_plain.specs.Member.{member_deliver, member_vote, member_ask}
use Rattle.co_plain.specs.Coordinator.{coord_deliver, coord_resend}
use Rattle.co_plain.specs.Federation.{Federation, Stepped, at_member, at_coord}
use Rattle.co_plain.specs.Step.{step_line, disarmed}
use Rattle.co_plain.specs.Runs.{run, lines}
use Rattle.co_plain.specs.Quiet.{IsOpen, IsNode, node_up, Exchange, Prepares, Votes, Commits, Asks, IsEnabled}
use Rattle.co_plain.specs.Settling.{timer_ends, SettlesBy, ByRestart, ByExchange, ByTimer}

-- a message of this kind, to or from the member
abbrev pub prepares_member : ℕ → Message → Bool
prepares_member m (message.Prepare t c n count) = n == m
prepares_member m _ = false

abbrev pub votes_from : ℕ → Message → Bool
votes_from m (message.Vote t n c granted) = n == m
votes_from m _ = false

abbrev pub decides_for : ℕ → Message → Bool
decides_for m (message.Decide t c n commit) = n == m
decides_for m _ = false

abbrev pub asks_from : ℕ → Message → Bool
asks_from m (message.Ask t n c) = n == m
asks_from m _ = false

abbrev pub acks_from : ℕ → Message → Bool
acks_from m (message.Ack t n c) = n == m
acks_from m _ = false

-- the event with which an exchange begins
abbrev pub first_event : Exchange → Event
first_event (Prepares t m c) = event.Resend t c
first_event (Votes t m) = event.Vote t m
first_event (Commits t m c) = event.Resend t c
first_event (Asks t m c) = event.Ask t m

-- the messages that it then delivers, one after the other: each where the event before sent it
abbrev pub wanted : Exchange → List (Message → Bool)
wanted (Prepares t m c) = prepares_member m ∷ votes_from m ∷ []
wanted (Votes t m) = votes_from m ∷ []
wanted (Commits t m c) = decides_for m ∷ acks_from m ∷ []
wanted (Asks t m c) = asks_from m ∷ decides_for m ∷ []

-- the first such message that the items of an event tell
abbrev pub note_in : (Message → Bool) → List ItemKind → Option Message
note_in test [] = None
note_in test (item.Sent note ∷ items) = if test note then Some note else note_in test items
note_in test (_ ∷ items) = note_in test items

abbrev pub delivers : Option Message → (Message → List Event) → List Event
delivers None more = []
delivers (Some note) more = event.Deliver note ∷ more note

-- the deliveries that follow a step
abbrev pub deliveries : List (Message → Bool) → Stepped → List Event
deliveries [] z = []
deliveries (test ∷ tests) z = delivers (note_in test z.items) (λ note. deliveries tests (step_line z.state (event.Deliver note)))

-- one turn: a restart, an exchange or a timer
pub data Turn : Type 0 where
  Restarts : Node → Turn
  Exchanges : Exchange → Turn
  Fires : ℕ → Node → Turn

abbrev pub turn_events : Federation → Turn → List Event
turn_events s (Restarts at) = event.Restart at ∷ []
turn_events s (Exchanges e) = first_event e ∷ deliveries (wanted e) (step_line s (first_event e))
turn_events s (Fires t at) = event.Timer t at ∷ []

abbrev pub after_turn : Federation → Turn → Federation
after_turn s turn = run (lines (turn_events s turn)) s

-- A turn that can be made: the restart of a node that is down; an exchange that can help, or a timer that ends a
-- transaction, where all nodes are up.
abbrev pub AllUp : Federation → Type 0
AllUp s = (at : Node) → IsNode s at → node_up s at ≡ true

abbrev pub CanTurn : Federation → Turn → Type 0
CanTurn s (Restarts at) = IsNode s at × (node_up s at ≡ false)
CanTurn s (Exchanges e) = AllUp s × IsEnabled s e
CanTurn s (Fires t at) = AllUp s × IsNode s at × (timer_ends s t at ≡ true)

-- no stop is armed
pub record IsUnarmed (s : Federation) : Type 0 where
  pub members : (m : ℕ) → (s.member m).log.armed ≡ None
  pub coords : (c : ℕ) → (s.coord c).log.armed ≡ None

-- the turn that a state calls for
abbrev pub turn_of : {s : Federation} → SettlesBy s → Turn
turn_of (ByRestart at first) = Restarts at
turn_of (ByExchange e up first) = Exchanges e
turn_of (ByTimer t at quiet first) = Fires t at

abbrev pub IsNext : Federation → Turn → Type 0
IsNext s turn = (by : SettlesBy s) × (turn_of by ≡ turn)

abbrev pub SomethingOpen : Federation → Type 0
SomethingOpen s = (t : ℕ) × IsOpen s t

abbrev pub NothingOpen : Federation → Type 0
NothingOpen s = (t : ℕ) → ¬ (IsOpen s t)

-- Turns from a state: before each one something is open, and it is the one that the state then calls for.
abbrev pub AreTurns : List Turn → Federation → Type 0
AreTurns [] s = Unit {0}
AreTurns (turn ∷ turns) s = SomethingOpen s × IsNext s turn × AreTurns turns (after_turn s turn)

abbrev pub turns_events : List Turn → Federation → List Event
turns_events [] s = []
turns_events (turn ∷ turns) s = turn_events s turn ++ turns_events turns (after_turn s turn)

-- The events of settling so far, from a state of which first every armed stop is taken away.
pub record IsSettling (s : Federation) (events : List Event) : Type 0 where
  pub turns : List Turn
  pub goes : AreTurns turns (disarmed s)
  pub same : events ≡ turns_events turns (disarmed s)

-- Settling is done where nothing is open.
pub record Settles (s : Federation) (events : List Event) : Type 0 where
  pub settling : IsSettling s events
  pub done : NothingOpen (run (lines events) (disarmed s))

-- what an event of an exchange finds: its message was sent, and its node is up
abbrev pub goes_to : Message → Node
goes_to (message.Prepare t c m count) = node.Member m
goes_to (message.Vote t m c granted) = node.Coord c
goes_to (message.Decide t c m commit) = node.Member m
goes_to (message.Ask t m c) = node.Coord c
goes_to (message.Ack t m c) = node.Coord c

abbrev pub IsServed : Federation → Event → Type 0
IsServed s (event.Resend t c) = node_up s (node.Coord c) ≡ true
IsServed s (event.Vote t m) = node_up s (node.Member m) ≡ true
IsServed s (event.Ask t m) = node_up s (node.Member m) ≡ true
IsServed s (event.Deliver note) = (was_sent s.sent note ≡ true) × (node_up s (goes_to note) ≡ true)
IsServed s _ = ⊥

abbrev pub AreServed : List Event → Federation → Type 0
AreServed [] s = Unit {0}
AreServed (e ∷ es) s = IsServed s e × AreServed es (step_line s e).state

-- the answer of the node itself to an event of an exchange: neither that the message was not sent, nor that the node is down
abbrev pub node_arrives : Federation → Message → Stepped
node_arrives s (message.Prepare t c m n) = at_member s m (member_deliver m (s.member m) (message.Prepare t c m n))
node_arrives s (message.Vote t m c granted) = at_coord s c (coord_deliver c (s.coord c) (message.Vote t m c granted))
node_arrives s (message.Decide t c m commit) = at_member s m (member_deliver m (s.member m) (message.Decide t c m commit))
node_arrives s (message.Ask t m c) = at_coord s c (coord_deliver c (s.coord c) (message.Ask t m c))
node_arrives s (message.Ack t m c) = at_coord s c (coord_deliver c (s.coord c) (message.Ack t m c))

abbrev pub IsAnswered : Federation → Event → Type 0
IsAnswered s (event.Resend t c) = step_line s (event.Resend t c) ≡ at_coord s c (coord_resend c (s.coord c) t)
IsAnswered s (event.Vote t m) = step_line s (event.Vote t m) ≡ at_member s m (member_vote m (s.member m) t)
IsAnswered s (event.Ask t m) = step_line s (event.Ask t m) ≡ at_member s m (member_ask m (s.member m) t)
IsAnswered s (event.Deliver note) = step_line s (event.Deliver note) ≡ node_arrives s note
IsAnswered s _ = ⊥
