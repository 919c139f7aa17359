-- Each event of a coordinator is its plan, carried out.
use Rattle.std.proofs.Common.{◌≡◌, ℕ, Bool, true, false, not, ◌&&◌, List, [], ◌∷◌, refl}
use Rattle.std.specs.Prelude.{Option, None, Some, if◌then◌else◌}
use Rattle.co_base.specs.declared.part.Part.{Part}
use Rattle.co_message.specs.declared.message.Message.{Message}
use Rattle.co_message.specs.declared.message.Message.TheVariants as message
use Rattle.co_state.specs.Table.{look}
use Rattle.co_plain.specs.declared.coord_state.CoordState.{CoordState}
use Rattle.co_plain.specs.declared.coord_state.Entry.{Entry}
use Rattle.co_plain.specs.declared.coord_state.Entry.TheVariants as entry
use Rattle.co_plain.specs.CoordStep.{coord_says, has_part, members_of}
use Rattle.co_plain.specs.Coordinator as plain
use Rattle.co_plain.specs.Numbers.{first_lacking, has_number}
use Rattle.co_message.specs.declared.answer.Answer.TheVariants as answer
use Rattle.co_message.specs.declared.answer.Cause.TheVariants as cause
use Rattle.co_coord.specs.Plans as plans
use Rattle.co_coord.specs.Plans.{begin_plan, ask_plan_of, commit_plan, abort_plan, decides, yes_plan, no_plan, vote_plan, ask_plan, ends, acknowledged_plan, ack_plan, timer_plan, resend_plan, deliver_plan, txn_of, carried_out}

commit_by : (c t : ℕ) (x : CoordState) (parts : List Part) (e : Option Entry) → plain.commit_entry c x t parts e ≡ carried_out c x t (commit_plan c t parts e)
commit_by c t x parts None = refl
commit_by c t x [] (Some entry.Idle) = refl
commit_by c t x (p ∷ ps) (Some entry.Idle) = refl
commit_by c t x parts (Some (entry.Collecting ps yeses)) = refl
commit_by c t x parts (Some (entry.Committed ms acks)) = refl

abort_by : (c t : ℕ) (x : CoordState) (parts : List Part) (e : Option Entry) → plain.abort_entry c x t parts e ≡ carried_out c x t (abort_plan c t parts e)
abort_by c t x parts None = refl
abort_by c t x parts (Some entry.Idle) = refl
abort_by c t x parts (Some (entry.Collecting ps yeses)) = refl
abort_by c t x parts (Some (entry.Committed ms acks)) = refl

decides_by : (c t : ℕ) (x : CoordState) (parts : List Part) (yeses : List ℕ) (o : Option ℕ) → plain.decided_by c x t parts yeses o ≡ carried_out c x t (decides c t parts yeses o)
decides_by c t x parts yeses None = refl
decides_by c t x parts yeses (Some m) = refl

yes_by : (c t m : ℕ) (x : CoordState) (parts : List Part) (yeses : List ℕ) (b : Bool)
    → (if b then plain.decided_by c x t parts (m ∷ yeses) (first_lacking (members_of parts) (m ∷ yeses)) else plain.waits x parts yeses)
    ≡ carried_out c x t (if b then decides c t parts (m ∷ yeses) (first_lacking (members_of parts) (m ∷ yeses)) else plans.waits parts yeses)
yes_by c t m x parts yeses true = decides_by c t x parts (m ∷ yeses) (first_lacking (members_of parts) (m ∷ yeses))
yes_by c t m x parts yeses false = refl

no_by : (c t : ℕ) (x : CoordState) (parts : List Part) (yeses : List ℕ) (b : Bool)
    → (if b then plain.aborts c x t cause.Vote parts else plain.waits x parts yeses)
    ≡ carried_out c x t (if b then plans.aborts c t cause.Vote parts else plans.waits parts yeses)
no_by c t x parts yeses true = refl
no_by c t x parts yeses false = refl

ends_by : (c t : ℕ) (x : CoordState) (members acks : List ℕ) (o : Option ℕ) → plain.ended_by x t members acks o ≡ carried_out c x t (ends t members acks o)
ends_by c t x members acks None = refl
ends_by c t x members acks (Some m) = refl

acknowledged_by : (c t m : ℕ) (x : CoordState) (members acks : List ℕ) (b : Bool)
    → (if b then plain.ended_by x t members (m ∷ acks) (first_lacking members (m ∷ acks)) else coord_says x answer.Decided)
    ≡ carried_out c x t (if b then ends t members (m ∷ acks) (first_lacking members (m ∷ acks)) else plans.says answer.Decided)
acknowledged_by c t m x members acks true = ends_by c t x members (m ∷ acks) (first_lacking members (m ∷ acks))
acknowledged_by c t m x members acks false = refl

vote_by : (c t m : ℕ) (x : CoordState) (granted : Bool) (e : Option Entry) → (if granted then plain.yes_entry c x t m e else plain.no_entry c x t m e) ≡ carried_out c x t (vote_plan c t m granted e)
vote_by c t m x true None = refl
vote_by c t m x false None = refl
vote_by c t m x true (Some entry.Idle) = refl
vote_by c t m x false (Some entry.Idle) = refl
vote_by c t m x true (Some (entry.Collecting parts yeses)) = yes_by c t m x parts yeses (has_part parts m && not (has_number yeses m))
vote_by c t m x false (Some (entry.Collecting parts yeses)) = no_by c t x parts yeses (has_part parts m)
vote_by c t m x true (Some (entry.Committed ms acks)) = refl
vote_by c t m x false (Some (entry.Committed ms acks)) = refl

ask_by : (c t m : ℕ) (x : CoordState) (e : Option Entry) → plain.ask_entry c x t m e ≡ carried_out c x t (ask_plan c t m e)
ask_by c t m x None = refl
ask_by c t m x (Some entry.Idle) = refl
ask_by c t m x (Some (entry.Collecting parts yeses)) = refl
ask_by c t m x (Some (entry.Committed ms acks)) = refl

ack_by : (c t m : ℕ) (x : CoordState) (e : Option Entry) → plain.ack_entry x t m e ≡ carried_out c x t (ack_plan t m e)
ack_by c t m x None = refl
ack_by c t m x (Some entry.Idle) = refl
ack_by c t m x (Some (entry.Collecting parts yeses)) = refl
ack_by c t m x (Some (entry.Committed ms acks)) = acknowledged_by c t m x ms acks (has_number ms m && not (has_number acks m))

timer_by : (c t : ℕ) (x : CoordState) (e : Option Entry) → plain.timer_entry c x t e ≡ carried_out c x t (timer_plan c t e)
timer_by c t x None = refl
timer_by c t x (Some entry.Idle) = refl
timer_by c t x (Some (entry.Collecting parts yeses)) = refl
timer_by c t x (Some (entry.Committed ms acks)) = refl

resend_by : (c t : ℕ) (x : CoordState) (e : Option Entry) → plain.resend_entry c x t e ≡ carried_out c x t (resend_plan c t e)
resend_by c t x None = refl
resend_by c t x (Some entry.Idle) = refl
resend_by c t x (Some (entry.Collecting parts yeses)) = refl
resend_by c t x (Some (entry.Committed ms acks)) = refl

pub begin_is : (c t : ℕ) (x : CoordState) → plain.coord_begin x t ≡ carried_out c x t begin_plan
begin_is c t x = refl

pub commit_is : (c t : ℕ) (x : CoordState) (parts : List Part) → plain.coord_commit c x t parts ≡ carried_out c x t (commit_plan c t parts (look x.table t))
commit_is c t x parts = commit_by c t x parts (look x.table t)

pub abort_is : (c t : ℕ) (x : CoordState) (parts : List Part) → plain.coord_abort c x t parts ≡ carried_out c x t (abort_plan c t parts (look x.table t))
abort_is c t x parts = abort_by c t x parts (look x.table t)

pub deliver_is : (c : ℕ) (x : CoordState) (m : Message) → plain.coord_deliver c x m ≡ carried_out c x (txn_of m) (deliver_plan c m (look x.table (txn_of m)))
deliver_is c x (message.Vote t m coord true) = vote_by c t m x true (look x.table t)
deliver_is c x (message.Vote t m coord false) = vote_by c t m x false (look x.table t)
deliver_is c x (message.Ask t m coord) = ask_by c t m x (look x.table t)
deliver_is c x (message.Ack t m coord) = ack_by c t m x (look x.table t)
deliver_is c x (message.Prepare t coord m count) = refl
deliver_is c x (message.Decide t coord m commit) = refl

pub timer_is : (c t : ℕ) (x : CoordState) → plain.coord_timer c x t ≡ carried_out c x t (timer_plan c t (look x.table t))
timer_is c t x = timer_by c t x (look x.table t)

pub resend_is : (c t : ℕ) (x : CoordState) → plain.coord_resend c x t ≡ carried_out c x t (resend_plan c t (look x.table t))
resend_is c t x = resend_by c t x (look x.table t)
