-- Which messages an exchange waits for, and delivers.
use Rattle.std.specs.Prelude.{ℕ, Bool, false, List, [], ◌∷◌, Option, None, Some}
use Rattle.co_message.specs.declared.event.Event.{Event}
use Rattle.co_message.specs.declared.event.Event.TheVariants as event
use Rattle.co_message.specs.declared.message.Message.{Message}
use Rattle.co_message.specs.declared.message.Message.TheVariants as message
use Rattle.co_plain.specs.Federation.{Federation}
use Rattle.co_plain.specs.Step.{step_line}
use Rattle.co_schedule.specs.View.{IsTxn, IsCount, IsNode}
use Rattle.co_base.specs.declared.node.Node.TheVariants as node
use Rattle.co_law_settle.specs.SettlingTurns.{prepares_member, votes_from, decides_for, asks_from, acks_from, note_in}
use Rattle.co_settle.specs.declared.notes.Want.{Want}
use Rattle.co_settle.specs.declared.notes.Want.TheVariants as want
use Rattle.co_cluster.specs.declared.exchanges.ExchangeKind.{ExchangeKind}
use Rattle.co_cluster.specs.declared.exchanges.ExchangeKind.TheVariants as kind

abbrev pub wanted_by : Want → ℕ → Message → Bool
wanted_by want.Prepare m note = prepares_member m note
wanted_by want.Vote m note = votes_from m note
wanted_by want.Decide m note = decides_for m note
wanted_by want.Ask m note = asks_from m note
wanted_by want.Ack m note = acks_from m note
wanted_by want.Nothing m note = false

-- what an exchange waits for first, and then
abbrev pub first_want : ExchangeKind → Want
first_want kind.Prepare = want.Prepare
first_want kind.Vote = want.Vote
first_want kind.Commit = want.Decide
first_want kind.Ask = want.Ask

abbrev pub next_want : ExchangeKind → Want
next_want kind.Prepare = want.Vote
next_want kind.Vote = want.Nothing
next_want kind.Commit = want.Ack
next_want kind.Ask = want.Decide

-- a message is delivered where there is one, and what is wanted of what that sends
abbrev pub passed : Option Message → List Event
passed None = []
passed (Some note) = event.Deliver note ∷ []

abbrev pub next_note : Want → ℕ → Federation → Option Message → Option Message
next_note want m s None = None
next_note want m s (Some note) = note_in (wanted_by want m) (step_line s (event.Deliver note)).items

-- the numbers of a message are in their ranges
abbrev pub AreInRange : Message → Type 0
AreInRange (message.Prepare t c m n) = IsTxn t × IsCount n
AreInRange (message.Vote t m c granted) = IsTxn t
AreInRange (message.Decide t c m commit) = IsTxn t
AreInRange (message.Ask t m c) = IsTxn t
AreInRange (message.Ack t m c) = IsTxn t

-- and its nodes are in the head
abbrev pub AreInHead : ℕ → ℕ → ℕ → ℕ → Type 0
AreInHead members coords m c = IsNode members coords (node.Member m) × IsNode members coords (node.Coord c)

abbrev pub IsForHead : ℕ → ℕ → Message → Type 0
IsForHead members coords (message.Prepare t c m n) = AreInHead members coords m c
IsForHead members coords (message.Vote t m c granted) = AreInHead members coords m c
IsForHead members coords (message.Decide t c m commit) = AreInHead members coords m c
IsForHead members coords (message.Ask t m c) = AreInHead members coords m c
IsForHead members coords (message.Ack t m c) = AreInHead members coords m c

abbrev pub MayPass : ℕ → ℕ → Option Message → Type 0
MayPass members coords None = Unit {0}
MayPass members coords (Some note) = IsForHead members coords note
