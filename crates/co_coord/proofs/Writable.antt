-- What the plans of a commit and of a message write may be written.
use Rattle.std.proofs.Common.{◌≡◌, ℕ, Bool, true, false, not, ◌&&◌, List, [], ◌∷◌, refl, arith}
use Rattle.std.specs.Prelude.{Option, None, Some, if◌then◌else◌}
use Rattle.std.specs.List.Sorted.{IsStrictlySortedBy}
use Rattle.co_base.specs.declared.part.Part.{Part}
use Rattle.co_message.specs.declared.message.Message.{Message}
use Rattle.co_message.specs.declared.message.Message.TheVariants as message
use Rattle.co_plain.specs.CoordStep.{has_part, members_of}
use Rattle.co_plain.specs.Numbers.{first_lacking, has_number}
use Rattle.co_plain.specs.declared.coord_state.Entry.{Entry}
use Rattle.co_plain.specs.declared.coord_state.Entry.TheVariants as entry
use Rattle.co_record.specs.Spelling.{IsWritable}
use Rattle.co_record.specs.declared.record.Record.TheVariants as log
use Rattle.co_coord.specs.Plans.{ask_plan_of, commit_plan, decides, vote_plan, ask_plan, ends, ack_plan, deliver_plan, txn_of, waits, says, aborts}
use Rattle.co_message.specs.declared.answer.Answer.TheVariants as answer
use Rattle.co_message.specs.declared.answer.Cause.TheVariants as cause
use Rattle.co_node.specs.Writing.{MayWriteOne}

nobody : (t : ℕ) → IsWritable (log.Commit t [])
unfolding IsStrictlySortedBy
nobody t = (omega arith, tt, tt)

asked_may : (c t : ℕ) (parts : List Part) → MayWriteOne (ask_plan_of c t parts).writes
asked_may c t [] = (nobody t, tt)
asked_may c t (p ∷ ps) = tt

pub commit_may : (c t : ℕ) (parts : List Part) (e : Option Entry) → MayWriteOne (commit_plan c t parts e).writes
commit_may c t parts None = tt
commit_may c t parts (Some entry.Idle) = asked_may c t parts
commit_may c t parts (Some (entry.Collecting ps yeses)) = tt
commit_may c t parts (Some (entry.Committed ms acks)) = tt

-- the commit record of a collecting transaction can be written
abbrev IsReady : ℕ → Option Entry → Type 0
IsReady t e = (parts : List Part) (yeses : List ℕ) → e ≡ Some (entry.Collecting parts yeses) → IsWritable (log.Commit t (members_of parts))

decided_may : (c t : ℕ) (parts : List Part) (yeses : List ℕ) (o : Option ℕ) → IsWritable (log.Commit t (members_of parts)) → MayWriteOne (decides c t parts yeses o).writes
decided_may c t parts yeses None ready = (ready, tt)
decided_may c t parts yeses (Some m) ready = tt

yes_may : (c t m : ℕ) (parts : List Part) (yeses : List ℕ) (b : Bool) → IsWritable (log.Commit t (members_of parts))
    → MayWriteOne (if b then decides c t parts (m ∷ yeses) (first_lacking (members_of parts) (m ∷ yeses)) else waits parts yeses).writes
yes_may c t m parts yeses true ready = decided_may c t parts (m ∷ yeses) (first_lacking (members_of parts) (m ∷ yeses)) ready
yes_may c t m parts yeses false ready = tt

no_may : (c t : ℕ) (parts : List Part) (yeses : List ℕ) (b : Bool) → MayWriteOne (if b then aborts c t cause.Vote parts else waits parts yeses).writes
no_may c t parts yeses true = tt
no_may c t parts yeses false = tt

vote_may : (c t m : ℕ) (granted : Bool) (e : Option Entry) → IsReady t e → MayWriteOne (vote_plan c t m granted e).writes
vote_may c t m granted None ready = tt
vote_may c t m granted (Some entry.Idle) ready = tt
vote_may c t m true (Some (entry.Collecting parts yeses)) ready = yes_may c t m parts yeses (has_part parts m && not (has_number yeses m)) (ready parts yeses refl)
vote_may c t m false (Some (entry.Collecting parts yeses)) ready = no_may c t parts yeses (has_part parts m)
vote_may c t m granted (Some (entry.Committed ms acks)) ready = tt

ask_may : (c t m : ℕ) (e : Option Entry) → MayWriteOne (ask_plan c t m e).writes
ask_may c t m None = tt
ask_may c t m (Some entry.Idle) = tt
ask_may c t m (Some (entry.Collecting parts yeses)) = tt
ask_may c t m (Some (entry.Committed ms acks)) = tt

ends_may : (t : ℕ) (members acks : List ℕ) (o : Option ℕ) → MayWriteOne (ends t members acks o).writes
ends_may t members acks None = (tt, tt)
ends_may t members acks (Some m) = tt

acknowledged_may : (t m : ℕ) (members acks : List ℕ) (b : Bool)
    → MayWriteOne (if b then ends t members (m ∷ acks) (first_lacking members (m ∷ acks)) else says answer.Decided).writes
acknowledged_may t m members acks true = ends_may t members (m ∷ acks) (first_lacking members (m ∷ acks))
acknowledged_may t m members acks false = tt

ack_may : (t m : ℕ) (e : Option Entry) → MayWriteOne (ack_plan t m e).writes
ack_may t m None = tt
ack_may t m (Some entry.Idle) = tt
ack_may t m (Some (entry.Collecting parts yeses)) = tt
ack_may t m (Some (entry.Committed ms acks)) = acknowledged_may t m ms acks (has_number ms m && not (has_number acks m))

pub deliver_may : (c : ℕ) (m : Message) (e : Option Entry) → IsReady (txn_of m) e → MayWriteOne (deliver_plan c m e).writes
deliver_may c (message.Vote t m coord granted) e ready = vote_may c t m granted e ready
deliver_may c (message.Ask t m coord) e ready = ask_may c t m e
deliver_may c (message.Ack t m coord) e ready = ack_may t m e
deliver_may c (message.Prepare t coord m count) e ready = tt
deliver_may c (message.Decide t coord m commit) e ready = tt
