-- What a reader sees that comes to a member behind a line of a schedule, and whether it lasts.
use Rattle.std.specs.Prelude.{ℕ, zero, suc, Bool, true, false, ◌==◌, ◌≡◌, ◌≢◌, ◌<◌, ◌≤◌, List, take, length, if◌then◌else◌, Option, None, Some}
use Rattle.co_base.specs.declared.head.Kind.{Kind}
use Rattle.co_base.specs.declared.head.Kind.TheVariants.{Mv}
use Rattle.co_base.specs.declared.row.Row.{Row}
use Rattle.co_message.specs.declared.event.Event.{Event}
use Rattle.co_plain.specs.Federation.{Federation}
use Rattle.co_plain.specs.Runs.{run, lines}
use Rattle.co_serial.specs.Records.{rows_within}
use Rattle.co_state.specs.EngineState.{installed_records}
use Rattle.co_top.specs.declared.reader.Ask.{Ask}
use Rattle.co_top.specs.declared.reader.Looked.{Looked}
use Rattle.co_top.specs.declared.reader.Looked.TheVariants as looked

-- what a reader asks for: a member and a line by their numbers, and the keys from one to another
abbrev pub ask_for : ℕ → ℕ → List ℕ → List ℕ → Ask
ask_for member line low high = record { member = member; line = line; range = record { lo = low; hi = high } }

-- the state behind the line of this number; the head is line 1, and its state the one at the start
abbrev pub state_behind : Federation → List Event → ℕ → Federation
state_behind s0 events zero = s0
state_behind s0 events (suc done) = run (lines (take done events)) s0

-- the kind of a member's engine, and whether the member is up
abbrev pub kind_at : Federation → ℕ → Kind
kind_at s m = (s.member m).engine.kind

abbrev pub is_up_at : Federation → ℕ → Bool
is_up_at s m = (s.member m).up

-- the rows that the member has installed which the reader asks for
abbrev pub rows_asked : Federation → Ask → List Row
rows_asked s ask = rows_within (installed_records (s.member ask.member).engine) ask.range

-- the member is one of so many, and the schedule has the line
pub record HasCome (members : ℕ) (events : List Event) (ask : Ask) : Type 0 where
  pub member : ask.member ≤ members
  pub line : ask.line ≤ suc (length events)

-- What a reader comes to over the lines of a schedule, in a federation of so many members. By its cases no two come together, and one comes.
abbrev pub Sees : ℕ → Federation → List Event → Ask → Looked → Type 0
Sees members s0 events ask looked.NoMember = members < ask.member
Sees members s0 events ask looked.Unopened = (ask.member ≤ members) × (suc (length events) < ask.line)
Sees members s0 events ask looked.NotMv = HasCome members events ask × (kind_at (state_behind s0 events ask.line) ask.member ≢ Mv)
Sees members s0 events ask looked.Down =
    HasCome members events ask × (kind_at (state_behind s0 events ask.line) ask.member ≡ Mv) × (is_up_at (state_behind s0 events ask.line) ask.member ≡ false)
Sees members s0 events ask looked.Lost =
    HasCome members events ask × (kind_at (state_behind s0 events ask.line) ask.member ≡ Mv) × (is_up_at (state_behind s0 events ask.line) ask.member ≡ true)
    × ((later : ℕ) × (ask.line < later) × (later ≤ suc (length events)) × (is_up_at (state_behind s0 events later) ask.member ≡ false))
Sees members s0 events ask (looked.Rows rows) =
    HasCome members events ask × (kind_at (state_behind s0 events ask.line) ask.member ≡ Mv)
    × ((later : ℕ) → ask.line ≤ later → later ≤ suc (length events) → is_up_at (state_behind s0 events later) ask.member ≡ true)
    × (rows ≡ rows_asked (state_behind s0 events ask.line) ask)

-- where there is a reader
abbrev pub SeesIf : ℕ → Federation → List Event → Option Ask → Looked → Type 0
SeesIf members s0 events None seen = Unit {0}
SeesIf members s0 events (Some ask) seen = Sees members s0 events ask seen

-- ---- one line after the other

-- what a reader sees that comes to a member of the federation now
abbrev pub SeesFirst : Federation → Ask → Looked → Type 0
SeesFirst s ask looked.NoMember = ⊥
SeesFirst s ask looked.Unopened = ⊥
SeesFirst s ask looked.NotMv = kind_at s ask.member ≢ Mv
SeesFirst s ask looked.Down = (kind_at s ask.member ≡ Mv) × (is_up_at s ask.member ≡ false)
SeesFirst s ask looked.Lost = ⊥
SeesFirst s ask (looked.Rows rows) = (kind_at s ask.member ≡ Mv) × (is_up_at s ask.member ≡ true) × (rows ≡ rows_asked s ask)

-- it comes behind the line that it asks for, and not before
abbrev pub SeesWhere : Bool → Federation → Ask → Looked → Type 0
SeesWhere true s ask seen = SeesFirst s ask seen
SeesWhere false s ask seen = seen ≡ looked.Unopened

abbrev pub SeesAt : ℕ → Federation → Ask → Looked → Type 0
SeesAt line s ask seen = SeesWhere (line == ask.line) s ask seen

-- behind the head
abbrev pub SeesHead : ℕ → Federation → Ask → Looked → Type 0
SeesHead members s ask looked.NoMember = members < ask.member
SeesHead members s ask seen = (ask.member ≤ members) × SeesAt 1 s ask seen

-- behind a line, after what it saw before: it stays while the member is up
abbrev pub SeesNext : ℕ → Federation → Ask → Looked → Looked → Type 0
SeesNext line s ask looked.Unopened seen = SeesAt line s ask seen
SeesNext line s ask (looked.Rows rows) seen = seen ≡ (if is_up_at s ask.member then looked.Rows rows else looked.Lost)
SeesNext line s ask before seen = seen ≡ before

-- ---- where there is a reader

-- it asks for a member and a line by numbers from 1 on
abbrev pub IsAsk : Ask → Type 0
IsAsk ask = (1 ≤ ask.member) × (1 ≤ ask.line)

abbrev pub IsAskIf : Option Ask → Type 0
IsAskIf None = Unit {0}
IsAskIf (Some ask) = IsAsk ask

-- a member that a reader has not found missing is one of so many
abbrev pub IsOwnIf : ℕ → Option Ask → Looked → Type 0
IsOwnIf members None seen = Unit {0}
IsOwnIf members (Some ask) seen = (seen ≡ looked.NoMember → ⊥) → ask.member ≤ members

abbrev pub SeesHeadIf : ℕ → Federation → Option Ask → Looked → Type 0
SeesHeadIf members s None seen = Unit {0}
SeesHeadIf members s (Some ask) seen = SeesHead members s ask seen

abbrev pub SeesNextIf : ℕ → Federation → Option Ask → Looked → Looked → Type 0
SeesNextIf line s None before seen = Unit {0}
SeesNextIf line s (Some ask) before seen = SeesNext line s ask before seen
