-- The events that the maker of a number makes, each from the messages that were sent before it; and what is known of an event by its type.
use Rattle.std.specs.Prelude.{ℕ, zero, suc, ◌≡◌, ◌≤◌, false, List, [], ◌∷◌, ◌++◌}
use Rattle.std.specs.Ordering.{is_gt}
use Rattle.co_base.specs.Letters.{IsText, most_value_bytes}
use Rattle.co_base.specs.Order.{key_cmp}
use Rattle.co_base.specs.Span.{Span}
use Rattle.co_law_sizes.specs.LogRoom.{event_bytes}
use Rattle.co_make.specs.Making.{Making, making_of, next_event}
use Rattle.co_message.specs.declared.event.Event.{Event}
use Rattle.co_message.specs.declared.event.Event.TheVariants as event
use Rattle.co_message.specs.declared.message.Message.{Message}
use Rattle.co_message.specs.declared.message.Message.TheVariants as message
use Rattle.co_plain.specs.Federation.{Federation}
use Rattle.co_plain.specs.Runs.{run, lines}
use Rattle.co_schedule.specs.View.{IsTxn, IsCount, IsKey, IsLeaves}

-- events, and what their maker knows behind them
pub record Made : Type 0 where
  pub events : List Event
  pub making : Making

-- one more event, over the federation that was opened
abbrev pub one_more : Federation → Made → Made
one_more s0 before =
    record {
      events = before.events ++ (next_event (run (lines before.events) s0).sent before.making).0 ∷ [];
      making = (next_event (run (lines before.events) s0).sent before.making).1;
    }

-- the first so many events of the trial with this number
abbrev pub first_made : Federation → ℕ → ℕ → Made
first_made s0 number zero = record { events = []; making = making_of number }
first_made s0 number (suc count) = one_more s0 (first_made s0 number count)

abbrev pub first_events : Federation → ℕ → ℕ → List Event
first_events s0 number count = (first_made s0 number count).events

-- ---- the bytes of an operation

-- It takes so few bytes in the record of a vote: a key has three bytes, and a value has six at most.
abbrev pub IsShort : Event → Type 0
IsShort e = event_bytes e ≤ 13

-- ---- fields that are in their sets

abbrev pub HasMessage : Message → Type 0
HasMessage (message.Prepare t c m count) = IsTxn t × IsCount count
HasMessage (message.Vote t m c granted) = IsTxn t
HasMessage (message.Decide t c m commit) = IsTxn t
HasMessage (message.Ask t m c) = IsTxn t
HasMessage (message.Ack t m c) = IsTxn t

abbrev pub IsRange : Span → Type 0
IsRange span = IsKey span.lo × IsKey span.hi × (is_gt (key_cmp span.lo span.hi) ≡ false)

abbrev pub HasFields : Event → Type 0
HasFields (event.Begin t c) = IsTxn t
HasFields (event.Local t m) = IsTxn t
HasFields (event.Read t m key) = IsTxn t × IsKey key
HasFields (event.Write t m key value) = IsTxn t × IsKey key × IsText most_value_bytes value
HasFields (event.Erase t m key) = IsTxn t × IsKey key
HasFields (event.Scan t m span) = IsTxn t × IsRange span
HasFields (event.Commit t) = IsTxn t
HasFields (event.Abort t) = IsTxn t
HasFields (event.Deliver note) = HasMessage note
HasFields (event.Vote t m) = IsTxn t
HasFields (event.Timer t at) = IsTxn t
HasFields (event.Ask t m) = IsTxn t
HasFields (event.Resend t c) = IsTxn t
HasFields (event.Crash at) = Unit {0}
HasFields (event.Restart at) = Unit {0}
HasFields (event.Arm at call leaves) = IsLeaves leaves
HasFields (event.Checkpoint at) = Unit {0}
