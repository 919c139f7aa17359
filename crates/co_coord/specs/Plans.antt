-- The plan of each event of a coordinator, by the entry of its transaction; and what carrying a plan out comes to.
use Rattle.std.specs.Prelude.{ℕ, Bool, true, false, not, ◌&&◌, List, [], ◌∷◌, if◌then◌else◌, Option, None, Some}
use Rattle.co_base.specs.declared.part.Part.{Part}
use Rattle.co_message.specs.declared.answer.Answer.{Answer}
use Rattle.co_message.specs.declared.answer.Answer.TheVariants as answer
use Rattle.co_message.specs.declared.answer.Cause.{Cause}
use Rattle.co_message.specs.declared.answer.Cause.TheVariants as cause
use Rattle.co_message.specs.declared.message.Message.{Message}
use Rattle.co_message.specs.declared.message.Message.TheVariants as message
use Rattle.co_record.specs.declared.record.Record.TheVariants as log
use Rattle.co_state.specs.Table.{Table, put, without}
use Rattle.co_plain.specs.Numbers.{first_lacking, has_number, numbers_lacking}
use Rattle.co_plain.specs.declared.coord_state.CoordState.{CoordState}
use Rattle.co_plain.specs.declared.coord_state.Entry.{Entry}
use Rattle.co_plain.specs.declared.coord_state.Entry.TheVariants as entry
use Rattle.co_plain.specs.declared.coord_step.CoordStep.{CoordStep}
use Rattle.co_plain.specs.CoordStep.{with_table, with_coord_log, has_part, members_of, force_coord}
use Rattle.co_plain.specs.Coordinator.{prepares_to, decisions_to, parts_lacking, member_or_none}
use Rattle.co_plain.specs.LogWrite.{with_waiting}
use Rattle.co_coord.specs.declared.plan.Change.{Change}
use Rattle.co_coord.specs.declared.plan.Change.TheVariants.{Stays, Becomes, Leaves}
use Rattle.co_coord.specs.declared.plan.Plan.{Plan}
use Rattle.co_node.specs.declared.writing.Writes.{Writes}
use Rattle.co_node.specs.declared.writing.Writes.TheVariants.{Nothing, Keeps, Forces, ForcesBoth}

-- what becomes of the transaction, with messages and nothing written
abbrev pub turns : Change → Answer → List Message → Plan
turns x a messages = record { writes = Nothing; change = x; answer = a; sent = messages }

-- messages alone
abbrev pub sends : Answer → List Message → Plan
sends a messages = turns Stays a messages

-- an answer alone: nothing is written, changed or sent
abbrev pub says : Answer → Plan
says a = sends a []

-- the least participant without a yes is waited for
abbrev pub waits : List Part → List ℕ → Plan
waits parts yeses = says (answer.Waiting (member_or_none (first_lacking (members_of parts) yeses)))

-- a transaction leaves the table by this cause, and its participants are told
abbrev pub aborts : ℕ → ℕ → Cause → List Part → Plan
aborts c t by parts = turns Leaves (answer.Aborted by) (decisions_to c t false (members_of parts))

-- a client begins
abbrev pub begin_plan : Plan
begin_plan = turns (Becomes entry.Idle) answer.Begun []

-- a transaction without participants is decided at once
abbrev pub decides_alone : ℕ → Plan
decides_alone t = record { writes = Forces (log.Commit t []); change = Leaves; answer = answer.Committed; sent = [] }

-- each participant is asked to prepare, and the least one is waited for
abbrev pub prepares : ℕ → ℕ → ℕ → List Part → Plan
prepares c t m parts = turns (Becomes (entry.Collecting parts [])) (answer.Waiting m) (prepares_to c t parts)

-- an idle transaction whose commit is asked is decided where it has no participants
abbrev pub ask_plan_of : ℕ → ℕ → List Part → Plan
ask_plan_of c t [] = decides_alone t
ask_plan_of c t (p ∷ ps) = prepares c t p.member (p ∷ ps)

abbrev pub commit_plan : ℕ → ℕ → List Part → Option Entry → Plan
commit_plan c t parts None = says answer.Unknown
commit_plan c t parts (Some entry.Idle) = ask_plan_of c t parts
commit_plan c t parts (Some (entry.Collecting ps yeses)) = waits ps yeses
commit_plan c t parts (Some (entry.Committed ms acks)) = says answer.Decided

abbrev pub abort_plan : ℕ → ℕ → List Part → Option Entry → Plan
abort_plan c t parts None = says answer.Unknown
abort_plan c t parts (Some entry.Idle) = aborts c t cause.Client parts
abort_plan c t parts (Some (entry.Collecting ps yeses)) = waits ps yeses
abort_plan c t parts (Some (entry.Committed ms acks)) = says answer.Decided

-- the commit is forced before any decision is sent
abbrev pub commits : ℕ → ℕ → List ℕ → Plan
commits c t members =
    record { writes = Forces (log.Commit t members); change = Becomes (entry.Committed members []); answer = answer.Committed; sent = decisions_to c t true members }

-- a yes was counted, and another one is waited for
abbrev pub collects : ℕ → List Part → List ℕ → Plan
collects m parts yeses = turns (Becomes (entry.Collecting parts yeses)) (answer.Waiting m) []

-- a yes was counted: the last missing one decides
abbrev pub decides : ℕ → ℕ → List Part → List ℕ → Option ℕ → Plan
decides c t parts yeses (Some m) = collects m parts yeses
decides c t parts yeses None = commits c t (members_of parts)

-- a yes of a member that is no participant, or that said yes before, changes nothing
abbrev pub yes_plan : ℕ → ℕ → ℕ → List Part → List ℕ → Plan
yes_plan c t m parts yeses =
    if has_part parts m && not (has_number yeses m)
    then decides c t parts (m ∷ yeses) (first_lacking (members_of parts) (m ∷ yeses))
    else waits parts yeses

-- a no of a participant ends the transaction
abbrev pub no_plan : ℕ → ℕ → ℕ → List Part → List ℕ → Plan
no_plan c t m parts yeses = if has_part parts m then aborts c t cause.Vote parts else waits parts yeses

abbrev pub vote_plan : ℕ → ℕ → ℕ → Bool → Option Entry → Plan
vote_plan c t m granted None = says answer.Unknown
vote_plan c t m granted (Some entry.Idle) = says answer.Idle
vote_plan c t m true (Some (entry.Collecting parts yeses)) = yes_plan c t m parts yeses
vote_plan c t m false (Some (entry.Collecting parts yeses)) = no_plan c t m parts yeses
vote_plan c t m granted (Some (entry.Committed members acks)) = says answer.Decided

-- a member in doubt asks. Who is not in the table is aborted.
abbrev pub ask_plan : ℕ → ℕ → ℕ → Option Entry → Plan
ask_plan c t m None = sends answer.Unknown (message.Decide t c m false ∷ [])
ask_plan c t m (Some entry.Idle) = says answer.Idle
ask_plan c t m (Some (entry.Collecting parts yeses)) = waits parts yeses
ask_plan c t m (Some (entry.Committed members acks)) = sends answer.Decided (message.Decide t c m true ∷ [])

-- an acknowledgement was counted, and another one is waited for
abbrev pub counts : List ℕ → List ℕ → Plan
counts members acks = turns (Becomes (entry.Committed members acks)) answer.Decided []

-- behind the last acknowledgement the transaction is forgotten, and its end record waits
abbrev pub forgets : ℕ → Plan
forgets t = record { writes = Keeps (log.End t); change = Leaves; answer = answer.Ended; sent = [] }

-- the last acknowledgement ends the transaction
abbrev pub ends : ℕ → List ℕ → List ℕ → Option ℕ → Plan
ends t members acks (Some m) = counts members acks
ends t members acks None = forgets t

abbrev pub acknowledged_plan : ℕ → ℕ → List ℕ → List ℕ → Plan
acknowledged_plan t m members acks =
    if has_number members m && not (has_number acks m)
    then ends t members (m ∷ acks) (first_lacking members (m ∷ acks))
    else says answer.Decided

abbrev pub ack_plan : ℕ → ℕ → Option Entry → Plan
ack_plan t m None = says answer.Unknown
ack_plan t m (Some entry.Idle) = says answer.Idle
ack_plan t m (Some (entry.Collecting parts yeses)) = waits parts yeses
ack_plan t m (Some (entry.Committed members acks)) = acknowledged_plan t m members acks

-- the timer fires: only what is not decided may end
abbrev pub timer_plan : ℕ → ℕ → Option Entry → Plan
timer_plan c t None = says answer.Unknown
timer_plan c t (Some entry.Idle) = turns Leaves (answer.Aborted cause.Timer) []
timer_plan c t (Some (entry.Collecting parts yeses)) = aborts c t cause.Timer parts
timer_plan c t (Some (entry.Committed members acks)) = says answer.Decided

-- what was not answered is sent again
abbrev pub resend_plan : ℕ → ℕ → Option Entry → Plan
resend_plan c t None = says answer.Unknown
resend_plan c t (Some entry.Idle) = says answer.Idle
resend_plan c t (Some (entry.Collecting parts yeses)) =
    sends (answer.Waiting (member_or_none (first_lacking (members_of parts) yeses))) (prepares_to c t (parts_lacking parts yeses))
resend_plan c t (Some (entry.Committed members acks)) = sends answer.Decided (decisions_to c t true (numbers_lacking members acks))

-- a message that was sent to the coordinator, and the entry of its transaction; the other messages go to members
abbrev pub deliver_plan : ℕ → Message → Option Entry → Plan
deliver_plan c (message.Vote t m coord granted) e = vote_plan c t m granted e
deliver_plan c (message.Ask t m coord) e = ask_plan c t m e
deliver_plan c (message.Ack t m coord) e = ack_plan t m e
deliver_plan c (message.Prepare t coord m count) e = says answer.Unknown
deliver_plan c (message.Decide t coord m commit) e = says answer.Unknown

-- the transaction that a message is about
abbrev pub txn_of : Message → ℕ
txn_of (message.Prepare t coord m count) = t
txn_of (message.Vote t m coord granted) = t
txn_of (message.Decide t coord m commit) = t
txn_of (message.Ask t m coord) = t
txn_of (message.Ack t m coord) = t

-- ---- carrying a plan out

abbrev pub changed : Table Entry → ℕ → Change → Table Entry
changed table t Stays = table
changed table t (Becomes e) = put table t e
changed table t Leaves = without table t

-- What a plan comes to: its log write first, which may be stopped and then leaves the coordinator down; then its change.
abbrev pub carried : Writes → ℕ → CoordState → Answer → List Message → CoordStep
carried Nothing c next a messages = record { state = next; answer = a; sent = messages; marks = [] }
carried (Keeps r) c next a messages = record { state = with_coord_log next (with_waiting next.log r); answer = a; sent = messages; marks = [] }
carried (Forces r) c next a messages = force_coord c next (r ∷ []) a messages
carried (ForcesBoth first r) c next a messages = force_coord c next (r ∷ first ∷ []) a messages

abbrev pub carried_out : ℕ → CoordState → ℕ → Plan → CoordStep
carried_out c x t p = carried p.writes c (with_table x (changed x.table t p.change)) p.answer p.sent
