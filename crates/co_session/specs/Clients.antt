-- What the clients did, as plain data.
use Rattle.std.specs.Prelude.{ℕ, Bool, ◌||◌, ◌+◌, ◌++◌, List, [], ◌∷◌, length, nat_le, Option, None, Some}
use Rattle.co_base.specs.Limits.{most_transactions}
use Rattle.co_base.specs.declared.node.Node.{Node}
use Rattle.co_base.specs.declared.part.Part.{Part}
use Rattle.co_base.specs.declared.reply.Reply.{Reply}
use Rattle.co_serial.specs.declared.site.Site.{Site}
use Rattle.co_state.specs.Table.{Table, look, put, holds, no_entries}
use Rattle.co_plain.specs.declared.session.Session.{Session}
use Rattle.co_plain.specs.declared.session.Told.{Told}
use Rattle.co_plain.specs.Numbers.{has_number}
use Rattle.co_plain.specs.Sessions.{count_at, parts_of, begun_by, with_told, asked_to_end}

-- operations with their replies, both the newest first
abbrev pub joined : List Site → List Reply → List Told
joined [] replies = []
joined (site ∷ sites) [] = []
joined (site ∷ sites) (reply ∷ replies) = record { site = site; reply = reply } ∷ joined sites replies

pub record Clients : Type 0 where
  -- the transactions that were begun in this run, each with its session
  pub sessions : Table Session
  -- their numbers in the order of their begin
  pub begun : List ℕ
  -- the numbers that stand in the opened logs, ascending
  pub used : List ℕ

abbrev pub none_begun : List ℕ → Clients
none_begun used = record { sessions = no_entries; begun = []; used = used }

-- whether the number was begun in this run, or stands in an opened log
abbrev pub is_used : Clients → ℕ → Bool
is_used x t = holds x.sessions t || has_number x.used t

-- whether there are as many numbers as there may be
abbrev pub is_full : Clients → Bool
is_full x = nat_le most_transactions (length x.begun + length x.used)

-- a transaction is begun at a node
abbrev pub with_begun : Clients → ℕ → Node → Clients
with_begun x t by = record { sessions = put x.sessions t (begun_by by); begun = x.begun ++ t ∷ []; used = x.used }

abbrev pub with_session : Clients → ℕ → Session → Clients
with_session x t session = record { sessions = put x.sessions t session; begun = x.begun; used = x.used }

-- a change of the session of a transaction that was begun
abbrev pub changed : Clients → ℕ → (Session → Session) → Option Session → Clients
changed x t change None = x
changed x t change (Some session) = with_session x t (change session)

-- one more operation was answered
abbrev pub with_answered : Clients → ℕ → Told → Clients
with_answered x t o = changed x t (λ session. with_told session o) (look x.sessions t)

-- the transaction was asked to end
abbrev pub with_asked : Clients → ℕ → Clients
with_asked x t = changed x t asked_to_end (look x.sessions t)

-- how many operations were answered at the member; none where the transaction was not begun
abbrev pub carried_of : Option Session → ℕ → ℕ
carried_of None m = 0
carried_of (Some session) m = count_at session.told m

abbrev pub carried_in : Clients → ℕ → ℕ → ℕ
carried_in x t m = carried_of (look x.sessions t) m

-- the participants, ascending by member
abbrev pub parts_at : Option Session → List Part
parts_at None = []
parts_at (Some session) = parts_of session.told

abbrev pub parts_in : Clients → ℕ → List Part
parts_in x t = parts_at (look x.sessions t)

-- the answered operations, newest first; none where the transaction was not begun
abbrev pub told_of : Option Session → List Told
told_of None = []
told_of (Some session) = session.told

abbrev pub told_in : Clients → ℕ → List Told
told_in x t = told_of (look x.sessions t)

-- the node that decides; none where the transaction was not begun
abbrev pub decider_of : Option Session → Option Node
decider_of None = None
decider_of (Some session) = Some session.by

abbrev pub decider_in : Clients → ℕ → Option Node
decider_in x t = decider_of (look x.sessions t)
