-- Rounds that are fair in words: what each node does in them by itself, and that what is sent in them arrives in them.
use Rattle.std.specs.Prelude.{ℕ, true, ◌≡◌, ◌⊎◌, List, [], ◌∷◌, ◌++◌}
use Rattle.co_base.specs.declared.node.Node.{Node}
use Rattle.co_message.specs.declared.event.Event.{Event}
use Rattle.co_message.specs.declared.event.Event.TheVariants as event
use Rattle.co_message.specs.declared.item.ItemKind.TheVariants as item
use Rattle.co_message.specs.declared.message.Message.{Message}
use Rattle.co_plain.specs.Federation.{Federation, Stepped}
use Rattle.co_plain.specs.Quiet.{IsMember, IsCoordinator, IsNode, IsOpen, IsQuiet}
use Rattle.co_plain.specs.Runs.{run, lines}
use Rattle.co_plain.specs.Settling.{timer_ends}
use Rattle.co_plain.specs.Step.{step_line}
use Rattle.co_law_settle.specs.SettlingTurns.{SomethingOpen}
use Rattle.co_law_rounds.specs.CanBeSettled.{MakeThemselves}

-- one of these
abbrev pub Stands : {A : Type 0} → A → List A → Type 0
Stands x [] = ⊥
Stands x (y ∷ ys) = (y ≡ x) ⊎ Stands x ys

-- members that try their votes again, and nothing else
abbrev pub AreVotes : List Event → Type 0
AreVotes [] = Unit {0}
AreVotes (event.Vote t m ∷ es) = AreVotes es
AreVotes (_ ∷ es) = ⊥

-- each message that a step tells as sent is delivered by one of these
abbrev pub AllDelivered : Stepped → List Event → Type 0
AllDelivered z events = (note : Message) → Stands (item.Sent note) z.items → Stands (event.Deliver note) events

-- each message that one of these events sends is delivered behind it
abbrev pub DeliverTheirOwn : List Event → Federation → Type 0
DeliverTheirOwn [] s = Unit {0}
DeliverTheirOwn (e ∷ es) s = AllDelivered (step_line s e) es × DeliverTheirOwn es (step_line s e).state

-- a timer that ends a transaction where it fires
pub record OneEnds (events : List Event) (s : Federation) : Type 0 where
  pub before : List Event
  pub txn : ℕ
  pub at : Node
  pub after : List Event
  pub same : events ≡ before ++ (event.Timer txn at ∷ after)
  pub is_node : IsNode (run (lines before) s) at
  pub ends : timer_ends (run (lines before) s) txn at ≡ true

-- All goes through. First each member tries again to vote on each transaction that is open at the start. Behind that, each coordinator
-- sends again what it awaits of each of them, and each member asks after each, in any order, with any other events of nodes and any
-- deliveries in between. And each message that one of these events sends is delivered behind it.
pub record GoesThrough (s : Federation) (events : List Event) : Type 0 where
  pub first : List Event
  pub rest : List Event
  pub same : events ≡ first ++ rest
  pub votes : AreVotes first
  pub voted : (t m : ℕ) → IsOpen s t → IsMember s m → Stands (event.Vote t m) first
  pub resent : (t c : ℕ) → IsOpen s t → IsCoordinator s c → Stands (event.Resend t c) rest
  pub asked : (t m : ℕ) → IsOpen s t → IsMember s m → Stands (event.Ask t m) rest
  pub delivered : DeliverTheirOwn events s

-- A fair round from a state: events of nodes and deliveries, in which all goes through; but where the round begins in a quiet state,
-- in which no exchange can help, one timer ends a transaction, if one is open.
pub record IsFairRound (s : Federation) (events : List Event) : Type 0 where
  pub own : MakeThemselves events
  pub through : ¬ (IsQuiet s) → GoesThrough s events
  pub timer : IsQuiet s → SomethingOpen s → OneEnds events s

-- fair rounds, one behind another
abbrev pub AreFairRounds : List (List Event) → Federation → Type 0
AreFairRounds [] s = Unit {0}
AreFairRounds (round ∷ rounds) s = IsFairRound s round × AreFairRounds rounds (run (lines round) s)
