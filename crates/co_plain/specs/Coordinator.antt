-- What a coordinator does: one definition for each event, by the entry of the transaction in its table. Two-
-- phase commit with presumed abort (Mohan, Lindsay and Obermarck, TODS 1986): who is not in the table and
-- has no commit is aborted. Every one is for a coordinator that is up.
use Rattle.std.specs.Prelude.{ℕ, Bool, true, false, not, ◌&&◌, List, [], ◌∷◌, map, filter, if◌then◌else◌, Option, None, Some}
use Rattle.co_base.specs.declared.part.Part.{Part}
use Rattle.co_message.specs.declared.answer.Answer.TheVariants as answer
use Rattle.co_message.specs.declared.answer.Cause.{Cause}
use Rattle.co_message.specs.declared.answer.Cause.TheVariants as cause
use Rattle.co_message.specs.declared.message.Message.{Message}
use Rattle.co_message.specs.declared.message.Message.TheVariants as message
use Rattle.co_record.specs.declared.record.Record.TheVariants as log
use Rattle.co_state.specs.Table.{look, put, without}
use Rattle.co_plain.specs.Numbers.{TxnNumber, MemberNumber, CoordNumber, first_lacking, has_number, numbers_lacking}
use Rattle.co_plain.specs.declared.coord_state.CoordState.{CoordState}
use Rattle.co_plain.specs.declared.coord_state.Entry.{Entry}
use Rattle.co_plain.specs.declared.coord_state.Entry.TheVariants as entry
use Rattle.co_plain.specs.LogWrite.{with_waiting}
use Rattle.co_plain.specs.declared.coord_step.CoordStep.{CoordStep}
use Rattle.co_plain.specs.CoordStep.{coord_says, coord_sends, with_table, with_coord_log, has_part, members_of, force_coord}

-- the messages to participants, in their order
abbrev pub prepares_to : CoordNumber → TxnNumber → List Part → List Message
prepares_to c t parts = map (λ p. message.Prepare t c p.member p.count) parts

abbrev pub decisions_to : CoordNumber → TxnNumber → Bool → List ℕ → List Message
decisions_to c t commit members = map (λ m. message.Decide t c m commit) members

abbrev pub parts_lacking : List Part → List ℕ → List Part
parts_lacking parts yeses = filter (λ p. not (has_number yeses p.member)) parts

abbrev pub member_or_none : Option ℕ → MemberNumber
member_or_none None = 0
member_or_none (Some m) = m

-- the transaction waits for the least participant without a yes
abbrev pub waits : CoordState → List Part → List ℕ → CoordStep
waits x parts yeses = coord_says x (answer.Waiting (member_or_none (first_lacking (members_of parts) yeses)))

-- a client begins
abbrev pub coord_begin : CoordState → TxnNumber → CoordStep
coord_begin x t = coord_says (with_table x (put x.table t entry.Idle)) answer.Begun

-- the client asks for the commit: a transaction without participants is decided at once
abbrev pub ask_commit : CoordNumber → CoordState → TxnNumber → List Part → CoordStep
ask_commit c x t [] = force_coord c (with_table x (without x.table t)) (log.Commit t [] ∷ []) answer.Committed []
ask_commit c x t (p ∷ ps) =
    coord_sends (with_table x (put x.table t (entry.Collecting (p ∷ ps) []))) (answer.Waiting p.member) (prepares_to c t (p ∷ ps))

abbrev pub commit_entry : CoordNumber → CoordState → TxnNumber → List Part → Option Entry → CoordStep
commit_entry c x t parts None = coord_says x answer.Unknown
commit_entry c x t parts (Some entry.Idle) = ask_commit c x t parts
commit_entry c x t parts (Some (entry.Collecting ps yeses)) = waits x ps yeses
commit_entry c x t parts (Some (entry.Committed ms acks)) = coord_says x answer.Decided

abbrev pub coord_commit : CoordNumber → CoordState → TxnNumber → List Part → CoordStep
coord_commit c x t parts = commit_entry c x t parts (look x.table t)

-- a transaction leaves the table by this cause, and its participants are told
abbrev pub aborts : CoordNumber → CoordState → TxnNumber → Cause → List Part → CoordStep
aborts c x t by parts =
    coord_sends (with_table x (without x.table t)) (answer.Aborted by) (decisions_to c t false (members_of parts))

-- the client asks for the abort
abbrev pub abort_entry : CoordNumber → CoordState → TxnNumber → List Part → Option Entry → CoordStep
abort_entry c x t parts None = coord_says x answer.Unknown
abort_entry c x t parts (Some entry.Idle) =
    aborts c x t cause.Client parts
abort_entry c x t parts (Some (entry.Collecting ps yeses)) = waits x ps yeses
abort_entry c x t parts (Some (entry.Committed ms acks)) = coord_says x answer.Decided

abbrev pub coord_abort : CoordNumber → CoordState → TxnNumber → List Part → CoordStep
coord_abort c x t parts = abort_entry c x t parts (look x.table t)

-- the last missing yes decides
abbrev pub decided_by : CoordNumber → CoordState → TxnNumber → List Part → List ℕ → Option ℕ → CoordStep
decided_by c x t parts yeses (Some m) =
    coord_says (with_table x (put x.table t (entry.Collecting parts yeses))) (answer.Waiting m)
decided_by c x t parts yeses None =
    force_coord c (with_table x (put x.table t (entry.Committed (members_of parts) []))) (log.Commit t (members_of parts) ∷ [])
    answer.Committed (decisions_to c t true (members_of parts))

-- a yes of a member that is no participant, or that said yes before, changes nothing
abbrev pub yes_counted : CoordNumber → CoordState → TxnNumber → MemberNumber → List Part → List ℕ → CoordStep
yes_counted c x t m parts yeses =
    if has_part parts m && not (has_number yeses m)
    then decided_by c x t parts (m ∷ yeses) (first_lacking (members_of parts) (m ∷ yeses))
    else waits x parts yeses

abbrev pub yes_entry : CoordNumber → CoordState → TxnNumber → MemberNumber → Option Entry → CoordStep
yes_entry c x t m None = coord_says x answer.Unknown
yes_entry c x t m (Some entry.Idle) = coord_says x answer.Idle
yes_entry c x t m (Some (entry.Collecting parts yeses)) = yes_counted c x t m parts yeses
yes_entry c x t m (Some (entry.Committed members acks)) = coord_says x answer.Decided

-- a no of a participant ends the transaction
abbrev pub no_counted : CoordNumber → CoordState → TxnNumber → MemberNumber → List Part → List ℕ → CoordStep
no_counted c x t m parts yeses =
    if has_part parts m
    then aborts c x t cause.Vote parts
    else waits x parts yeses

abbrev pub no_entry : CoordNumber → CoordState → TxnNumber → MemberNumber → Option Entry → CoordStep
no_entry c x t m None = coord_says x answer.Unknown
no_entry c x t m (Some entry.Idle) = coord_says x answer.Idle
no_entry c x t m (Some (entry.Collecting parts yeses)) = no_counted c x t m parts yeses
no_entry c x t m (Some (entry.Committed members acks)) = coord_says x answer.Decided

abbrev pub coord_vote : CoordNumber → CoordState → TxnNumber → MemberNumber → Bool → CoordStep
coord_vote c x t m true = yes_entry c x t m (look x.table t)
coord_vote c x t m false = no_entry c x t m (look x.table t)

-- a member in doubt asks. Who is not in the table is aborted.
abbrev pub ask_entry : CoordNumber → CoordState → TxnNumber → MemberNumber → Option Entry → CoordStep
ask_entry c x t m None = coord_sends x answer.Unknown (message.Decide t c m false ∷ [])
ask_entry c x t m (Some entry.Idle) = coord_says x answer.Idle
ask_entry c x t m (Some (entry.Collecting parts yeses)) = waits x parts yeses
ask_entry c x t m (Some (entry.Committed members acks)) = coord_sends x answer.Decided (message.Decide t c m true ∷ [])

abbrev pub coord_ask : CoordNumber → CoordState → TxnNumber → MemberNumber → CoordStep
coord_ask c x t m = ask_entry c x t m (look x.table t)

-- after the last acknowledgement the coordinator may forget; its end record waits
abbrev pub ended_by : CoordState → TxnNumber → List ℕ → List ℕ → Option ℕ → CoordStep
ended_by x t members acks (Some m) = coord_says (with_table x (put x.table t (entry.Committed members acks))) answer.Decided
ended_by x t members acks None =
    coord_says (with_coord_log (with_table x (without x.table t)) (with_waiting x.log (log.End t))) answer.Ended

abbrev pub ack_counted : CoordState → TxnNumber → MemberNumber → List ℕ → List ℕ → CoordStep
ack_counted x t m members acks =
    if has_number members m && not (has_number acks m)
    then ended_by x t members (m ∷ acks) (first_lacking members (m ∷ acks))
    else coord_says x answer.Decided

abbrev pub ack_entry : CoordState → TxnNumber → MemberNumber → Option Entry → CoordStep
ack_entry x t m None = coord_says x answer.Unknown
ack_entry x t m (Some entry.Idle) = coord_says x answer.Idle
ack_entry x t m (Some (entry.Collecting parts yeses)) = waits x parts yeses
ack_entry x t m (Some (entry.Committed members acks)) = ack_counted x t m members acks

abbrev pub coord_ack : CoordState → TxnNumber → MemberNumber → CoordStep
coord_ack x t m = ack_entry x t m (look x.table t)

-- the timer fires: only what is not decided may end
abbrev pub timer_entry : CoordNumber → CoordState → TxnNumber → Option Entry → CoordStep
timer_entry c x t None = coord_says x answer.Unknown
timer_entry c x t (Some entry.Idle) = coord_says (with_table x (without x.table t)) (answer.Aborted cause.Timer)
timer_entry c x t (Some (entry.Collecting parts yeses)) =
    aborts c x t cause.Timer parts
timer_entry c x t (Some (entry.Committed members acks)) = coord_says x answer.Decided

abbrev pub coord_timer : CoordNumber → CoordState → TxnNumber → CoordStep
coord_timer c x t = timer_entry c x t (look x.table t)

-- what was not answered is sent again
abbrev pub resend_entry : CoordNumber → CoordState → TxnNumber → Option Entry → CoordStep
resend_entry c x t None = coord_says x answer.Unknown
resend_entry c x t (Some entry.Idle) = coord_says x answer.Idle
resend_entry c x t (Some (entry.Collecting parts yeses)) =
    coord_sends x (answer.Waiting (member_or_none (first_lacking (members_of parts) yeses))) (prepares_to c t (parts_lacking parts yeses))
resend_entry c x t (Some (entry.Committed members acks)) =
    coord_sends x answer.Decided (decisions_to c t true (numbers_lacking members acks))

abbrev pub coord_resend : CoordNumber → CoordState → TxnNumber → CoordStep
coord_resend c x t = resend_entry c x t (look x.table t)

-- a message that was sent to the coordinator; the other messages go to members
abbrev pub coord_deliver : CoordNumber → CoordState → Message → CoordStep
coord_deliver c x (message.Vote t m coord granted) = coord_vote c x t m granted
coord_deliver c x (message.Ask t m coord) = coord_ask c x t m
coord_deliver c x (message.Ack t m coord) = coord_ack x t m
coord_deliver c x (message.Prepare t coord m count) = coord_says x answer.Unknown
coord_deliver c x (message.Decide t coord m commit) = coord_says x answer.Unknown
