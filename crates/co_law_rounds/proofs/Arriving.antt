-- What a delivery sends has a lower rank than what is delivered; so deliveries of what is sent come to an end.
use Rattle.std.proofs.Common.{◌≡◌, ◌⊎◌, inl, inr, ℕ, zero, suc, Bool, true, false, not, ◌&&◌, ◌≤◌, if◌then◌else◌, List, [], ◌∷◌, ◌++◌, map, Option, None, Some, refl, ap, subst, arith}
use Rattle.co_base.specs.declared.mark.Mark.{Mark}
use Rattle.co_message.specs.declared.answer.Answer.{Answer}
use Rattle.co_message.specs.declared.answer.Answer.TheVariants as answer
use Rattle.co_message.specs.declared.answer.Cause.TheVariants as cause
use Rattle.co_message.specs.declared.event.Event.{Event}
use Rattle.co_message.specs.declared.event.Event.TheVariants as event
use Rattle.co_message.specs.declared.item.ItemKind.{ItemKind}
use Rattle.co_message.specs.declared.item.ItemKind.TheVariants as item
use Rattle.co_message.specs.declared.message.Message.{Message}
use Rattle.co_message.specs.declared.message.Message.TheVariants as message
use Rattle.co_record.specs.declared.record.Record.{Record}
use Rattle.co_record.specs.declared.record.Record.TheVariants as log
use Rattle.co_frame.specs.Gate.{batch_is_stable}
use Rattle.co_state.specs.Changes.{sets_of}
use Rattle.co_state.specs.EngineState.{operations_of}
use Rattle.co_state.specs.Table.{look, put}
use Rattle.co_state.specs.VotingRule.{vote_of}
use Rattle.co_state.specs.declared.verdict.Verdict.{Verdict}
use Rattle.co_state.specs.declared.verdict.Verdict.TheVariants.{LostOperations, StaleRead, HeldBy, VoteYes}
use Rattle.co_plain.specs.declared.coord_state.CoordState.{CoordState}
use Rattle.co_plain.specs.declared.coord_state.Entry.{Entry}
use Rattle.co_plain.specs.declared.coord_state.Entry.TheVariants as entry
use Rattle.co_plain.specs.declared.coord_step.CoordStep.{CoordStep}
use Rattle.co_plain.specs.declared.member_state.MemberState.{MemberState}
use Rattle.co_plain.specs.declared.member_step.MemberStep.{MemberStep}
use Rattle.co_plain.specs.declared.outcome.Outcome.{Outcome}
use Rattle.co_plain.specs.declared.outcome.Outcome.TheVariants.{Completes, StopsAt}
use Rattle.co_plain.specs.declared.standing.Standing.{Standing}
use Rattle.co_plain.specs.declared.standing.Standing.TheVariants.{IsActive, IsVoted, IsInstalled, IsAbsent}
use Rattle.co_plain.specs.CoordStep.{has_part, members_of, with_table, coord_says, coord_forced_by, stopped_coord}
use Rattle.co_plain.specs.Coordinator.{yes_entry, no_entry, decided_by, ack_entry, ended_by, waits, aborts, decisions_to, ask_entry, coord_deliver, coord_vote}
use Rattle.co_plain.specs.Federation.{Federation, answers, items_of, message_list}
use Rattle.co_plain.specs.LogWrite.{outcome_of}
use Rattle.co_plain.specs.Member.{prepare_record, voted_state, installed_state, with_mark, vote_by, prepare_by, commit_by, abort_by, member_decide, member_deliver}
use Rattle.co_plain.specs.MemberStep.{standing_of, forced_by, stopped_member}
use Rattle.co_plain.specs.Numbers.{first_lacking, has_number}
use Rattle.co_plain.specs.Runs.{run, lines}
use Rattle.co_plain.specs.Step.{arrives, member_step, up_member, coord_step, up_coord, step_line}
use Rattle.co_plain.specs.Wire.{was_sent}
use Rattle.co_law_rounds.specs.CanBeSettled.{MakeThemselves}
use Rattle.co_law_rounds.specs.FairRounds.{Stands, DeliverTheirOwn}
use Rattle.co_law_rounds.proofs.AnyState.{both_make}

pub in_front : {A : Type 0} (x : A) (xs ys : List A) → Stands x xs → Stands x (xs ++ ys)
in_front x [] ys h = absurd h
in_front x (y ∷ xs) ys (inl e) = inl e
in_front x (y ∷ xs) ys (inr h) = inr (in_front x xs ys h)

pub behind : {A : Type 0} (x : A) (xs ys : List A) → Stands x ys → Stands x (xs ++ ys)
behind x [] ys h = h
behind x (y ∷ xs) ys h = inr (behind x xs ys h)

in_either : {A : Type 0} (x : A) (xs ys : List A) → Stands x (xs ++ ys) → Stands x xs ⊎ Stands x ys
in_either x [] ys h = inr h
in_either x (y ∷ xs) ys (inl e) = inl (inl e)
in_either x (y ∷ xs) ys (inr h) = by (in_either x xs ys h)
  where
    by : Stands x xs ⊎ Stands x ys → Stands x (y ∷ xs) ⊎ Stands x ys
    by (inl k) = inl (inr k)
    by (inr k) = inr k

abbrev rank : Message → ℕ
rank (message.Prepare t c m n) = 3
rank (message.Vote t m c granted) = 2
rank (message.Ask t m c) = 2
rank (message.Decide t c m commit) = 1
rank (message.Ack t m c) = 0

abbrev Below : ℕ → List Message → Type 0
Below n notes = (note : Message) → Stands note notes → suc (rank note) ≤ n

no_notes : (n : ℕ) → Below n []
no_notes n note h = absurd h

one_note : (n : ℕ) (note : Message) → suc (rank note) ≤ n → Below n (note ∷ [])
one_note n note l k (inl e) = subst (λ j. suc (rank j) ≤ n) e l
one_note n note l k (inr h) = absurd h

-- the messages that items tell
abbrev notes_of : List ItemKind → List Message
notes_of [] = []
notes_of (item.Sent note ∷ items) = note ∷ notes_of items
notes_of (item.Head head ∷ items) = notes_of items
notes_of (item.Event e ∷ items) = notes_of items
notes_of (item.Log mark ∷ items) = notes_of items
notes_of (item.Answered a ∷ items) = notes_of items

of_items : (items : List ItemKind) (note : Message) → Stands (item.Sent note) items → Stands note (notes_of items)
of_items [] note h = absurd h
of_items (item.Sent n ∷ items) note (inl e) = inl (let same : n ≡ note = cc in same)
of_items (item.Sent n ∷ items) note (inr h) = inr (of_items items note h)
of_items (item.Head x ∷ items) note (inl e) = absurd (let z : item.Head x ≡ item.Sent note = e in cc)
of_items (item.Head x ∷ items) note (inr h) = of_items items note h
of_items (item.Event x ∷ items) note (inl e) = absurd (let z : item.Event x ≡ item.Sent note = e in cc)
of_items (item.Event x ∷ items) note (inr h) = of_items items note h
of_items (item.Log x ∷ items) note (inl e) = absurd (let z : item.Log x ≡ item.Sent note = e in cc)
of_items (item.Log x ∷ items) note (inr h) = of_items items note h
of_items (item.Answered x ∷ items) note (inl e) = absurd (let z : item.Answered x ≡ item.Sent note = e in cc)
of_items (item.Answered x ∷ items) note (inr h) = of_items items note h

items_below : (n : ℕ) (marks : List Mark) (notes : List Message) (a : Answer) → Below n notes → Below n (notes_of (items_of marks notes a))
items_below n [] [] a b note h = absurd h
items_below n [] (k ∷ ks) a b note (inl e) = b note (inl e)
items_below n [] (k ∷ ks) a b note (inr h) = items_below n [] ks a (λ j i. b j (inr i)) note h
items_below n (m ∷ ms) notes a b note h = items_below n ms notes a b note h

-- at a member
module _ (m : ℕ) (x : MemberState) (t c : ℕ) where
  forced_below : (n : ℕ) (next : MemberState) (batch : List Record) (a : Answer) (note : Message) → suc (rank note) ≤ n → (o : Outcome) → Below n (message_list (forced_by m next batch a (Some note) o).sent)
  forced_below n next batch a note l Completes = one_note n note l
  forced_below n next batch a note l (StopsAt call leaves) = by (batch_is_stable call leaves)
    where
      by : (b : Bool) → Below n (message_list (stopped_member m next call b batch).sent)
      by true = no_notes n
      by false = no_notes n

  voted_below : (y : MemberState) (n : ℕ) (v : Verdict) → Below 3 (message_list (vote_by m y t c n v).sent)
  voted_below y n LostOperations = one_note 3 (message.Vote t m c false) (omega arith)
  voted_below y n (StaleRead key) = one_note 3 (message.Vote t m c false) (omega arith)
  voted_below y n (HeldBy u) = no_notes 3
  voted_below y n VoteYes =
      forced_below 3 (voted_state y t c n) (prepare_record t c n (sets_of (operations_of y.engine t)) ∷ []) answer.Yes (message.Vote t m c true) (omega arith) (outcome_of y.log.armed 4)

  prepared_below : (n : ℕ) (st : Standing) → Below 3 (message_list (prepare_by m x t c n st).sent)
  prepared_below n IsActive = voted_below (with_mark x t c n) n (vote_of x.engine t n)
  prepared_below n IsVoted = one_note 3 _ (omega arith)
  prepared_below n IsInstalled = no_notes 3
  prepared_below n IsAbsent = voted_below x n (vote_of x.engine t n)

  committed_below : (st : Standing) → Below 1 (message_list (commit_by m x t c st).sent)
  committed_below IsActive = no_notes 1
  committed_below IsVoted = forced_below 1 (installed_state x t) (log.Commit t [] ∷ []) answer.Installed (message.Ack t m c) (omega arith) (outcome_of x.log.armed 4)
  committed_below IsInstalled = one_note 1 (message.Ack t m c) (omega arith)
  committed_below IsAbsent = no_notes 1

  aborted_below : (st : Standing) → Below 1 (message_list (abort_by x t st).sent)
  aborted_below IsActive = no_notes 1
  aborted_below IsVoted = no_notes 1
  aborted_below IsInstalled = no_notes 1
  aborted_below IsAbsent = no_notes 1

  decision_below : (commit : Bool) → Below 1 (message_list (member_decide m x t c commit).sent)
  decision_below true = committed_below (standing_of x t)
  decision_below false = aborted_below (standing_of x t)

-- at a coordinator
decisions_below : (c t : ℕ) (commit : Bool) (ms : List ℕ) → Below 2 (decisions_to c t commit ms)
decisions_below c t commit [] note h = absurd h
decisions_below c t commit (m ∷ ms) note (inl e) = subst (λ j. suc (rank j) ≤ 2) e (omega arith)
decisions_below c t commit (m ∷ ms) note (inr h) = decisions_below c t commit ms note h

module _ (c : ℕ) (x : CoordState) (t m : ℕ) where
  coord_forced_below : (next : CoordState) (batch : List Record) (a : Answer) (notes : List Message) → Below 2 notes → (o : Outcome) → Below 2 (coord_forced_by c next batch a notes o).sent
  coord_forced_below next batch a notes b Completes = b
  coord_forced_below next batch a notes b (StopsAt call leaves) = by (batch_is_stable call leaves)
    where
      by : (k : Bool) → Below 2 (stopped_coord c next call k batch).sent
      by true = no_notes 2
      by false = no_notes 2

  yes_below : (o : Option Entry) → Below 2 (yes_entry c x t m o).sent
  yes_below None = no_notes 2
  yes_below (Some entry.Idle) = no_notes 2
  yes_below (Some (entry.Committed ms acks)) = no_notes 2
  yes_below (Some (entry.Collecting parts yeses)) = by (has_part parts m && not (has_number yeses m))
    where
      decided : (o : Option ℕ) → Below 2 (decided_by c x t parts (m ∷ yeses) o).sent
      decided (Some k) = no_notes 2
      decided None =
          coord_forced_below (with_table x (put x.table t (entry.Committed (members_of parts) []))) (log.Commit t (members_of parts) ∷ []) answer.Committed (decisions_to c t true (members_of parts))
          (decisions_below c t true (members_of parts)) (outcome_of x.log.armed 4)

      by : (b : Bool) → Below 2 (if b then decided_by c x t parts (m ∷ yeses) (first_lacking (members_of parts) (m ∷ yeses)) else waits x parts yeses).sent
      by true = decided (first_lacking (members_of parts) (m ∷ yeses))
      by false = no_notes 2

  no_below : (o : Option Entry) → Below 2 (no_entry c x t m o).sent
  no_below None = no_notes 2
  no_below (Some entry.Idle) = no_notes 2
  no_below (Some (entry.Committed ms acks)) = no_notes 2
  no_below (Some (entry.Collecting parts yeses)) = by (has_part parts m)
    where
      by : (b : Bool) → Below 2 (if b then aborts c x t cause.Vote parts else waits x parts yeses).sent
      by true = decisions_below c t false (members_of parts)
      by false = no_notes 2

  vote_below : (granted : Bool) → Below 2 (coord_vote c x t m granted).sent
  vote_below true = yes_below (look x.table t)
  vote_below false = no_below (look x.table t)

  ask_below : (o : Option Entry) → Below 2 (ask_entry c x t m o).sent
  ask_below None = one_note 2 (message.Decide t c m false) (omega arith)
  ask_below (Some entry.Idle) = no_notes 2
  ask_below (Some (entry.Collecting parts yeses)) = no_notes 2
  ask_below (Some (entry.Committed ms acks)) = one_note 2 (message.Decide t c m true) (omega arith)

  ack_below : (o : Option Entry) → Below 0 (ack_entry x t m o).sent
  ack_below None = no_notes 0
  ack_below (Some entry.Idle) = no_notes 0
  ack_below (Some (entry.Collecting parts yeses)) = no_notes 0
  ack_below (Some (entry.Committed ms acks)) = by (has_number ms m && not (has_number acks m))
    where
      ended : (o : Option ℕ) → Below 0 (ended_by x t ms (m ∷ acks) o).sent
      ended (Some k) = no_notes 0
      ended None = no_notes 0

      by : (b : Bool) → Below 0 (if b then ended_by x t ms (m ∷ acks) (first_lacking ms (m ∷ acks)) else coord_says x answer.Decided).sent
      by true = ended (first_lacking ms (m ∷ acks))
      by false = no_notes 0

module _ (s : Federation) where
  member_below : (n m : ℕ) (does : MemberState → MemberStep) → Below n (message_list (does (s.member m)).sent) → Below n (notes_of (member_step s m does).items)
  member_below n m does b = by (s.member m).up
    where
      by : (k : Bool) → Below n (notes_of (up_member s m k (does (s.member m))).items)
      by true = items_below n (does (s.member m)).marks (message_list (does (s.member m)).sent) (does (s.member m)).answer b
      by false = no_notes n

  coord_below : (n c : ℕ) (does : CoordState → CoordStep) → Below n (does (s.coord c)).sent → Below n (notes_of (coord_step s c does).items)
  coord_below n c does b = by (s.coord c).up
    where
      by : (k : Bool) → Below n (notes_of (up_coord s c k (does (s.coord c))).items)
      by true = items_below n (does (s.coord c)).marks (does (s.coord c)).sent (does (s.coord c)).answer b
      by false = no_notes n

  arrival_below : (note : Message) → Below (rank note) (notes_of (arrives s note).items)
  arrival_below (message.Prepare t c m n) = member_below 3 m (λ x. member_deliver m x (message.Prepare t c m n)) (prepared_below m (s.member m) t c n (standing_of (s.member m) t))
  arrival_below (message.Decide t c m commit) = member_below 1 m (λ x. member_deliver m x (message.Decide t c m commit)) (decision_below m (s.member m) t c commit)
  arrival_below (message.Vote t m c granted) = coord_below 2 c (λ x. coord_deliver c x (message.Vote t m c granted)) (vote_below c (s.coord c) t m granted)
  arrival_below (message.Ask t m c) = coord_below 2 c (λ x. coord_deliver c x (message.Ask t m c)) (ask_below c (s.coord c) t m (look (s.coord c).table t))
  arrival_below (message.Ack t m c) = coord_below 0 c (λ x. coord_deliver c x (message.Ack t m c)) (ack_below c (s.coord c) t m (look (s.coord c).table t))

  delivery_below : (note : Message) → Below (rank note) (notes_of (step_line s (event.Deliver note)).items)
  delivery_below note = by (was_sent s.sent note)
    where
      by : (b : Bool) → Below (rank note) (notes_of (if b then arrives s note else answers s answer.Unsent).items)
      by true = arrival_below note
      by false = no_notes (rank note)

-- the messages that events tell
abbrev told : List Event → Federation → List Message
told [] s = []
told (e ∷ es) s = notes_of (step_line s e).items ++ told es (step_line s e).state

told_below : (n : ℕ) (notes : List Message) (s : Federation) → Below (suc n) notes → Below n (told (map event.Deliver notes) s)
told_below n [] s b note h = absurd h
told_below n (k ∷ ks) s b note h =
    by (told_below n ks (step_line s (event.Deliver k)).state (λ j i. b j (inr i)) note)
    (in_either note (notes_of (step_line s (event.Deliver k)).items) (told (map event.Deliver ks) (step_line s (event.Deliver k)).state) h)
  where
    by : (Stands note (told (map event.Deliver ks) (step_line s (event.Deliver k)).state) → suc (rank note) ≤ n) →
        Stands note (notes_of (step_line s (event.Deliver k)).items) ⊎ Stands note (told (map event.Deliver ks) (step_line s (event.Deliver k)).state) → suc (rank note) ≤ n
    by rest (inl i) = let l = delivery_below s k note i in let u = b k (inl refl) in omega (arith, l, u)
    by rest (inr i) = rest i

joined : (es tail : List Event) (s : Federation) → ((note : Message) → Stands note (told es s) → Stands (event.Deliver note) tail) → DeliverTheirOwn tail (run (lines es) s) → DeliverTheirOwn (es ++ tail) s
joined [] tail s all d = d
joined (e ∷ es) tail s all d = (
  λ note h. behind (event.Deliver note) es tail (all note (in_front note (notes_of (step_line s e).items) (told es (step_line s e).state) (of_items (step_line s e).items note h))),
  joined es tail (step_line s e).state (λ note h. all note (behind note (notes_of (step_line s e).items) (told es (step_line s e).state) h)) d,
)

mapped : (notes : List Message) (note : Message) → Stands note notes → Stands (event.Deliver note) (map event.Deliver notes)
mapped [] note h = absurd h
mapped (n ∷ ns) note (inl e) = inl (ap event.Deliver e)
mapped (n ∷ ns) note (inr h) = inr (mapped ns note h)

deliveries_make : (notes : List Message) → MakeThemselves (map event.Deliver notes)
deliveries_make [] = tt
deliveries_make (n ∷ ns) = (tt, deliveries_make ns)

arrive : (n : ℕ) (es : List Event) (s : Federation) → Below n (told es s) → (more : List Event) × MakeThemselves more × DeliverTheirOwn (es ++ more) s
arrive zero es s b = ([], tt, joined es [] s (λ note h. absurd (let l = b note h in omega (arith, l))) tt)
arrive (suc n) es s b = by (arrive n (map event.Deliver (told es s)) (run (lines es) s) (told_below n (told es s) (run (lines es) s) b))
  where
    by : (more : List Event) × MakeThemselves more × DeliverTheirOwn (map event.Deliver (told es s) ++ more) (run (lines es) s) → (more : List Event) × MakeThemselves more × DeliverTheirOwn (es ++ more) s
    by r = (
      map event.Deliver (told es s) ++ r.0,
      both_make (map event.Deliver (told es s)) r.0 (deliveries_make (told es s)) r.1,
      joined es (map event.Deliver (told es s) ++ r.0) s (λ note h. in_front (event.Deliver note) (map event.Deliver (told es s)) r.0 (mapped (told es s) note h)) r.2,
    )

few_ranks : (note : Message) → suc (rank note) ≤ 4
few_ranks (message.Prepare t c m n) = omega arith
few_ranks (message.Vote t m c granted) = omega arith
few_ranks (message.Ask t m c) = omega arith
few_ranks (message.Decide t c m commit) = omega arith
few_ranks (message.Ack t m c) = omega arith

-- behind any events stand deliveries of all that they and those send
pub all_arrive : (es : List Event) (s : Federation) → (more : List Event) × MakeThemselves more × DeliverTheirOwn (es ++ more) s
all_arrive es s = arrive 4 es s (λ note h. few_ranks note)
