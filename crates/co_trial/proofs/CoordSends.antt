-- What a coordinator sends is for members of the head.
use Rattle.std.proofs.Common.{◌≡◌, ℕ, Bool, true, false, not, ◌&&◌, if◌then◌else◌, nat_le, List, [], ◌∷◌, Option, None, Some, refl, arith}
use Rattle.std.proofs.lemmas.Bool.{and_parts}
use Rattle.std.proofs.lemmas.Bool.Decides.{nat_tests}
use Rattle.std.specs.List.{AllByRecursion}
use Rattle.co_base.specs.declared.part.Part.{Part}
use Rattle.co_message.specs.declared.answer.Answer.{Answer}
use Rattle.co_message.specs.declared.answer.Answer.TheVariants as answer
use Rattle.co_message.specs.declared.answer.Cause.TheVariants as cause
use Rattle.co_message.specs.declared.message.Message.{Message}
use Rattle.co_record.specs.declared.record.Record.{Record}
use Rattle.co_record.specs.declared.record.Record.TheVariants as log
use Rattle.co_frame.specs.Gate.{batch_is_stable}
use Rattle.co_state.specs.Table.{look, put, without}
use Rattle.co_plain.specs.declared.coord_state.CoordState.{CoordState}
use Rattle.co_plain.specs.declared.coord_state.Entry.{Entry}
use Rattle.co_plain.specs.declared.coord_state.Entry.TheVariants as entry
use Rattle.co_plain.specs.declared.coord_step.CoordStep.{CoordStep}
use Rattle.co_plain.specs.declared.outcome.Outcome.{Outcome}
use Rattle.co_plain.specs.declared.outcome.Outcome.TheVariants.{Completes, StopsAt}
use Rattle.co_plain.specs.Numbers.{first_lacking, has_number, numbers_lacking, next_generation, IsAmong}
use Rattle.co_plain.specs.LogWrite.{outcome_of, generation_of}
use Rattle.co_plain.specs.CoordStep.{coord_says, with_table, has_part, members_of, stopped_coord, coord_forced_by, force_coord}
use Rattle.co_plain.specs.CoordView.{all_up_to}
use Rattle.co_plain.specs.Coordinator.{prepares_to, decisions_to, parts_lacking, ask_commit, commit_entry, coord_commit, aborts, abort_entry, coord_abort, waits, decided_by, yes_entry, no_entry, coord_vote, ask_entry, coord_ask, ended_by, ack_entry, coord_ack, timer_entry, coord_timer, resend_entry, coord_resend}
use Rattle.co_plain.specs.CoordLog.{coord_stopped_fill, coord_fill_by, coord_close_by, coord_checkpoint_by, coord_checkpoint, coord_restart_by, coord_restart}
use Rattle.co_trial.proofs.InHead.{InHead}

-- what one step of a coordinator sends
abbrev pub CoordSends : ℕ → ℕ → CoordStep → Type 0
CoordSends n k did = AllByRecursion (InHead n k) did.sent

-- numbers of members of the head
abbrev pub AreMembers : ℕ → List ℕ → Type 0
AreMembers n ms = AllByRecursion (λ m. IsAmong m n) ms

pub members_up : (n : ℕ) (ms : List ℕ) → all_up_to n ms ≡ true → AreMembers n ms
members_up n [] h = tt
members_up n (m ∷ ms) h =
    let p = and_parts _ _ h in
    let b = and_parts (nat_le 1 m) (nat_le m n) p.0 in
    let low = b.0 in
    let high = b.1 in
    ((grind (arith, nat_tests, low), grind (arith, nat_tests, high)), members_up n ms p.1)

-- the participants that an entry names are members
abbrev pub EntryFits : ℕ → Entry → Type 0
EntryFits n entry.Idle = Unit {0}
EntryFits n (entry.Collecting parts yeses) = AreMembers n (members_of parts)
EntryFits n (entry.Committed ms acks) = AreMembers n ms

module _ (n k c : ℕ) (y : CoordState) (fits : (t : ℕ) (e : Entry) → look y.table t ≡ Some e → EntryFits n e) where
  prepares : (t : ℕ) (parts : List Part) → AreMembers n (members_of parts) → AllByRecursion (InHead n k) (prepares_to c t parts)
  prepares t [] own = tt
  prepares t (p ∷ ps) own = (own.0, prepares t ps own.1)

  decisions : (t : ℕ) (commit : Bool) (members : List ℕ) → AreMembers n members → AllByRecursion (InHead n k) (decisions_to c t commit members)
  decisions t commit [] own = tt
  decisions t commit (m ∷ ms) own = (own.0, decisions t commit ms own.1)

  lacking_parts : (parts : List Part) (yeses : List ℕ) → AreMembers n (members_of parts) → AreMembers n (members_of (parts_lacking parts yeses))
  lacking_parts [] yeses own = tt
  lacking_parts (p ∷ ps) yeses own = by (lacking_parts ps yeses own.1) (not (has_number yeses p.member))
    where
      by : AreMembers n (members_of (parts_lacking ps yeses)) → (b : Bool) → AreMembers n (members_of (if b then p ∷ parts_lacking ps yeses else parts_lacking ps yeses))
      by rest true = (own.0, rest)
      by rest false = rest

  lacking_members : (ms acks : List ℕ) → AreMembers n ms → AreMembers n (numbers_lacking ms acks)
  lacking_members [] acks own = tt
  lacking_members (m ∷ ms) acks own = by (lacking_members ms acks own.1) (not (has_number acks m))
    where
      by : AreMembers n (numbers_lacking ms acks) → (b : Bool) → AreMembers n (if b then m ∷ numbers_lacking ms acks else numbers_lacking ms acks)
      by rest true = (own.0, rest)
      by rest false = rest

  forced : (next : CoordState) (batch : List Record) (a : Answer) (notes : List Message) → AllByRecursion (InHead n k) notes → CoordSends n k (force_coord c next batch a notes)
  forced next batch a notes h = by (outcome_of next.log.armed 4)
    where
      stopped : (call : ℕ) (b : Bool) → CoordSends n k (stopped_coord c next call b batch)
      stopped call true = tt
      stopped call false = tt

      by : (o : Outcome) → CoordSends n k (coord_forced_by c next batch a notes o)
      by Completes = h
      by (StopsAt call leaves) = stopped call (batch_is_stable call leaves)

  pub sends_commit : (t : ℕ) (parts : List Part) → AreMembers n (members_of parts) → CoordSends n k (coord_commit c y t parts)
  sends_commit t parts own = by (look y.table t)
    where
      asked : (ps : List Part) → AreMembers n (members_of ps) → CoordSends n k (ask_commit c y t ps)
      asked [] own = forced (with_table y (without y.table t)) (log.Commit t [] ∷ []) answer.Committed [] tt
      asked (p ∷ ps) own = prepares t (p ∷ ps) own

      by : (o : Option Entry) → CoordSends n k (commit_entry c y t parts o)
      by None = tt
      by (Some entry.Idle) = asked parts own
      by (Some (entry.Collecting ps yeses)) = tt
      by (Some (entry.Committed ms acks)) = tt

  pub sends_abort : (t : ℕ) (parts : List Part) → AreMembers n (members_of parts) → CoordSends n k (coord_abort c y t parts)
  sends_abort t parts own = by (look y.table t)
    where
      by : (o : Option Entry) → CoordSends n k (abort_entry c y t parts o)
      by None = tt
      by (Some entry.Idle) = decisions t false (members_of parts) own
      by (Some (entry.Collecting ps yeses)) = tt
      by (Some (entry.Committed ms acks)) = tt

  pub sends_counted : (t m : ℕ) (granted : Bool) → CoordSends n k (coord_vote c y t m granted)
  sends_counted t m true = by (look y.table t) refl
    where
      counts : (parts : List Part) (yeses : List ℕ) (lacking : Option ℕ) → AreMembers n (members_of parts) → CoordSends n k (decided_by c y t parts yeses lacking)
      counts parts yeses (Some j) own = tt
      counts parts yeses None own =
          forced (with_table y (put y.table t (entry.Committed (members_of parts) []))) (log.Commit t (members_of parts) ∷ []) answer.Committed
          (decisions_to c t true (members_of parts)) (decisions t true (members_of parts) own)

      counted : (parts : List Part) (yeses : List ℕ) (b : Bool) → AreMembers n (members_of parts) →
          CoordSends n k (if b then decided_by c y t parts (m ∷ yeses) (first_lacking (members_of parts) (m ∷ yeses)) else waits y parts yeses)
      counted parts yeses true own = counts parts (m ∷ yeses) (first_lacking (members_of parts) (m ∷ yeses)) own
      counted parts yeses false own = tt

      by : (o : Option Entry) → look y.table t ≡ o → CoordSends n k (yes_entry c y t m o)
      by None e = tt
      by (Some entry.Idle) e = tt
      by (Some (entry.Collecting parts yeses)) e = counted parts yeses (has_part parts m && not (has_number yeses m)) (fits t (entry.Collecting parts yeses) e)
      by (Some (entry.Committed ms acks)) e = tt
  sends_counted t m false = by (look y.table t) refl
    where
      counted : (parts : List Part) (yeses : List ℕ) (b : Bool) → AreMembers n (members_of parts) → CoordSends n k (if b then aborts c y t cause.Vote parts else waits y parts yeses)
      counted parts yeses true own = decisions t false (members_of parts) own
      counted parts yeses false own = tt

      by : (o : Option Entry) → look y.table t ≡ o → CoordSends n k (no_entry c y t m o)
      by None e = tt
      by (Some entry.Idle) e = tt
      by (Some (entry.Collecting parts yeses)) e = counted parts yeses (has_part parts m) (fits t (entry.Collecting parts yeses) e)
      by (Some (entry.Committed ms acks)) e = tt

  -- who asked is a member
  pub sends_answer : (t m : ℕ) → IsAmong m n → CoordSends n k (coord_ask c y t m)
  sends_answer t m own = by (look y.table t)
    where
      by : (o : Option Entry) → CoordSends n k (ask_entry c y t m o)
      by None = (own, tt)
      by (Some entry.Idle) = tt
      by (Some (entry.Collecting parts yeses)) = tt
      by (Some (entry.Committed ms acks)) = (own, tt)

  pub sends_acknowledged : (t m : ℕ) → CoordSends n k (coord_ack y t m)
  sends_acknowledged t m = by (look y.table t)
    where
      ended : (ms acks : List ℕ) (lacking : Option ℕ) → CoordSends n k (ended_by y t ms acks lacking)
      ended ms acks (Some j) = tt
      ended ms acks None = tt

      counted : (ms acks : List ℕ) (b : Bool) → CoordSends n k (if b then ended_by y t ms (m ∷ acks) (first_lacking ms (m ∷ acks)) else coord_says y answer.Decided)
      counted ms acks true = ended ms (m ∷ acks) (first_lacking ms (m ∷ acks))
      counted ms acks false = tt

      by : (o : Option Entry) → CoordSends n k (ack_entry y t m o)
      by None = tt
      by (Some entry.Idle) = tt
      by (Some (entry.Collecting parts yeses)) = tt
      by (Some (entry.Committed ms acks)) = counted ms acks (has_number ms m && not (has_number acks m))

  pub sends_timer : (t : ℕ) → CoordSends n k (coord_timer c y t)
  sends_timer t = by (look y.table t) refl
    where
      by : (o : Option Entry) → look y.table t ≡ o → CoordSends n k (timer_entry c y t o)
      by None e = tt
      by (Some entry.Idle) e = tt
      by (Some (entry.Collecting parts yeses)) e = decisions t false (members_of parts) (fits t (entry.Collecting parts yeses) e)
      by (Some (entry.Committed ms acks)) e = tt

  pub sends_again : (t : ℕ) → CoordSends n k (coord_resend c y t)
  sends_again t = by (look y.table t) refl
    where
      by : (o : Option Entry) → look y.table t ≡ o → CoordSends n k (resend_entry c y t o)
      by None e = tt
      by (Some entry.Idle) e = tt
      by (Some (entry.Collecting parts yeses)) e = prepares t (parts_lacking parts yeses) (lacking_parts parts yeses (fits t (entry.Collecting parts yeses) e))
      by (Some (entry.Committed ms acks)) e = decisions t true (numbers_lacking ms acks) (lacking_members ms acks (fits t (entry.Committed ms acks) e))

  pub sends_restart : CoordSends n k (coord_restart y)
  sends_restart = by y.up
    where
      by : (b : Bool) → CoordSends n k (coord_restart_by y b)
      by true = tt
      by false = tt

  pub sends_checkpoint : CoordSends n k (coord_checkpoint c y)
  sends_checkpoint = by y.log.spare_closed
    where
      stopped : (generation call : ℕ) (b : Bool) → CoordSends n k (coord_stopped_fill c y generation call b)
      stopped generation call true = tt
      stopped generation call false = tt

      fills : (generation : ℕ) (o : Outcome) → CoordSends n k (coord_fill_by c y generation o)
      fills generation Completes = tt
      fills generation (StopsAt call leaves) = stopped generation call (batch_is_stable call leaves)

      closes : (o : Outcome) → CoordSends n k (coord_close_by y o)
      closes Completes = tt
      closes (StopsAt call leaves) = tt

      by : (b : Bool) → CoordSends n k (coord_checkpoint_by c y b)
      by false = closes (outcome_of y.log.armed 2)
      by true = fills (next_generation (generation_of y.log.stable)) (outcome_of y.log.armed 4)
