-- When there are as many transactions as there may be.
use Rattle.std.specs.Prelude.{ℕ, true, false, ◌≡◌, ◌≤◌, ◌+◌, length}
use Rattle.std.specs.FinMap.{keys}
use Rattle.co_base.specs.Limits.{most_transactions}
use Rattle.co_message.specs.declared.event.Event.{Event}
use Rattle.co_message.specs.declared.event.Event.TheVariants as event
use Rattle.co_session.specs.Clients.{Clients, is_used, is_full}
use Rattle.co_state.specs.Table.{Table}
use Rattle.co_plain.specs.Federation.{Federation}
use Rattle.co_plain.specs.MemberView.{Numbers}
use Rattle.co_plain.specs.Step as plain
use Rattle.co_plain.specs.declared.session.Session.{Session}

-- As many numbers were begun as there are sessions, and the used ones are these, ascending; together they are no more than there may be.
pub record AreCounted (x : Clients) (sessions : Table Session) (numbers : Numbers) : Type 0 where
  pub begun : length x.begun ≡ length (keys sessions)
  pub used : x.used ≡ keys numbers
  pub few : length x.begun + length x.used ≤ most_transactions

-- how many numbers are taken: those of the transactions of this run, and those that stand in the opened logs
abbrev pub taken_count : Federation → ℕ
taken_count s = length (keys s.sessions) + length (keys s.used)

-- the number is neither begun nor used, and as many are taken as there may be
abbrev pub IsOneTooMany : Federation → ℕ → Type 0
IsOneTooMany s t = (plain.is_used s t ≡ false) × (taken_count s ≡ most_transactions)

-- so it is of an event that begins a transaction, and no other event has a limit
abbrev pub MeetsPlainLimit : Federation → Event → Type 0
MeetsPlainLimit s (event.Begin t c) = IsOneTooMany s t
MeetsPlainLimit s (event.Local t m) = IsOneTooMany s t
MeetsPlainLimit s _ = ⊥

-- the same, by what is kept of the clients
abbrev pub IsOneMore : Clients → ℕ → Type 0
IsOneMore x t = (is_used x t ≡ false) × (is_full x ≡ true)

abbrev pub MeetsLimit : Clients → Event → Type 0
MeetsLimit x (event.Begin t c) = IsOneMore x t
MeetsLimit x (event.Local t m) = IsOneMore x t
MeetsLimit x _ = ⊥
