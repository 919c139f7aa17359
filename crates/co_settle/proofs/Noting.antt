-- The messages of an exchange: those that the code delivers are those of the turn, and they name nodes of the federation.
use Rattle.std.proofs.Common.{◌≡◌, ◌≢◌, ℕ, Bool, true, false, ◌==◌, ◌≤◌, if◌then◌else◌, List, [], ◌∷◌, ◌++◌, find, length, Option, None, Some, refl, sym, ap, ◌∙◌, subst, arith}
use Rattle.std.proofs.lemmas.Bool.{eqb-true}
use Rattle.co_message.specs.declared.answer.Answer.{Answer}
use Rattle.co_message.specs.declared.answer.Answer.TheVariants as answer
use Rattle.co_message.specs.declared.event.Event.{Event}
use Rattle.co_message.specs.declared.event.Event.TheVariants as event
use Rattle.co_message.specs.declared.item.ItemKind.{ItemKind}
use Rattle.co_message.specs.declared.item.ItemKind.TheVariants as item
use Rattle.co_message.specs.declared.message.Message.{Message}
use Rattle.co_message.specs.declared.message.Message.TheVariants as message
use Rattle.co_record.specs.declared.record.Record.TheVariants as log
use Rattle.co_plain.specs.LogWrite.{outcome_of}
use Rattle.co_plain.specs.declared.outcome.Outcome.{Outcome}
use Rattle.co_plain.specs.declared.outcome.Outcome.TheVariants.{Completes, StopsAt}
use Rattle.co_plain.specs.Runs.{run, lines}
use Rattle.co_plain.specs.Federation.{Federation, Stepped, answers, message_list}
use Rattle.co_plain.specs.Member.{member_decide, commit_by, abort_by, installed_state}
use Rattle.co_plain.specs.MemberStep.{standing_of, stopped_member, forced_by}
use Rattle.co_plain.specs.Quiet.{IsMember, IsEnabled}
use Rattle.co_plain.specs.Step.{step_line, up_member, up_coord, arrives}
use Rattle.co_plain.specs.Wire.{was_sent}
use Rattle.co_plain.specs.declared.coord_step.CoordStep.{CoordStep}
use Rattle.co_plain.specs.declared.member_state.MemberState.{MemberState}
use Rattle.co_plain.specs.declared.member_step.MemberStep.{MemberStep}
use Rattle.co_plain.specs.declared.standing.Standing.{Standing}
use Rattle.co_plain.specs.declared.standing.Standing.TheVariants.{IsActive, IsVoted, IsInstalled, IsAbsent}
use Rattle.co_law_settle.proofs.Reaching.{note_of, found_sent}
use Rattle.co_law_settle.specs.SettlingTurns.{note_in, delivers, deliveries, first_event, turn_events, Exchanges, prepares_member, votes_from, decides_for, asks_from, acks_from}
use Rattle.co_cluster.specs.Readings.{exchange_of, exchange_as}
use Rattle.co_cluster.specs.declared.exchanges.Exchange.{Exchange}
use Rattle.co_cluster.specs.declared.exchanges.ExchangeKind.{ExchangeKind}
use Rattle.co_cluster.specs.declared.exchanges.ExchangeKind.TheVariants as kind
use Rattle.co_settle.specs.Notes.{wanted_by, first_want, next_want, next_note, passed, AreInHead, IsForHead, MayPass}
use Rattle.co_base.specs.declared.head.Kind.{Kind}
use Rattle.co_outside.specs.Home.{File}
use Rattle.co_outside.specs.declared.spot.Spot.{Spot}
use Rattle.co_state.specs.declared.engine_state.EngineState.{EngineState}
use Rattle.co_world.specs.Standing.{RepresentsWorld}
use Rattle.co_world.specs.declared.world.World.{World}
use Rattle.co_durable.specs.declared.fault.WorldFault.{WorldFault}
use Rattle.co_settle.specs.Progress.{HasDone, IsCutIn}
use Rattle.co_settle.specs.declared.counting.Steps.{Steps}
use Rattle.co_settle.specs.declared.telling.Told.{Told}
use Rattle.co_settle.proofs.Composing.{cut_before, cut_later, done_more}
use Rattle.co_settle.specs.Reached.{IsReached}
use Rattle.co_settle.specs.declared.notes.Want.{Want}
use Rattle.co_settle.specs.declared.notes.Want.TheVariants as want
use Rattle.co_settle.proofs.Reaching.{NamesNoNode, NamesCoord, sent_names, reached_next, kinds_stay, coords_stay}

-- ---- the events of a turn

none_wanted : (items : List ItemKind) → note_in (λ note. false) items ≡ None
none_wanted [] = refl
none_wanted (item.Head head ∷ items) = none_wanted items
none_wanted (item.Event e ∷ items) = none_wanted items
none_wanted (item.Log mark ∷ items) = none_wanted items
none_wanted (item.Sent note ∷ items) = none_wanted items
none_wanted (item.Answered a ∷ items) = none_wanted items

next_deliveries : (b : Message → Bool) (z : Stepped) → deliveries (b ∷ []) z ≡ passed (note_in b z.items)
next_deliveries b z = by (note_in b z.items)
  where
    by : (o : Option Message) → delivers o (λ note. []) ≡ passed o
    by None = refl
    by (Some note) = refl

abbrev found_next : (Message → Bool) → Federation → Option Message → Option Message
found_next b s None = None
found_next b s (Some note) = note_in b (step_line s (event.Deliver note)).items

two_deliveries : (a b : Message → Bool) (z : Stepped) → deliveries (a ∷ b ∷ []) z ≡ passed (note_in a z.items) ++ passed (found_next b z.state (note_in a z.items))
two_deliveries a b z = by (note_in a z.items)
  where
    by : (o : Option Message) → delivers o (λ note. deliveries (b ∷ []) (step_line z.state (event.Deliver note))) ≡ passed o ++ passed (found_next b z.state o)
    by None = refl
    by (Some note) = ap (λ es. event.Deliver note ∷ es) (next_deliveries b (step_line z.state (event.Deliver note)))

as_next : (w : Want) (m : ℕ) (s : Federation) (o : Option Message) → found_next (wanted_by w m) s o ≡ next_note w m s o
as_next w m s None = refl
as_next w m s (Some note) = refl

one_delivery : (a : Message → Bool) (m : ℕ) (z : Stepped) → deliveries (a ∷ []) z ≡ passed (note_in a z.items) ++ passed (next_note want.Nothing m z.state (note_in a z.items))
one_delivery a m z = by (note_in a z.items)
  where
    by : (o : Option Message) → delivers o (λ note. []) ≡ passed o ++ passed (next_note want.Nothing m z.state o)
    by None = refl
    by (Some note) = ap (λ o. event.Deliver note ∷ passed o) (sym (none_wanted (step_line z.state (event.Deliver note)).items))

-- what the code does in an exchange
abbrev pub first_note : Federation → Exchange → Option Message
first_note s e = note_in (wanted_by (first_want e.kind) e.member) (step_line s (first_event (exchange_of e))).items

abbrev pub second_note : Federation → Exchange → Option Message
second_note s e = next_note (next_want e.kind) e.member (step_line s (first_event (exchange_of e))).state (first_note s e)

pub exchange_events : (s : Federation) (e : Exchange) →
    first_event (exchange_of e) ∷ (passed (first_note s e) ++ passed (second_note s e)) ≡ turn_events s (Exchanges (exchange_of e))
exchange_events s e = by e.kind
  where
    by : (k : ExchangeKind) →
        let x = exchange_as k e.txn e.member e.coord in
        let z = step_line s (first_event x) in
        first_event x ∷ (passed (note_in (wanted_by (first_want k) e.member) z.items) ++ passed (next_note (next_want k) e.member z.state (note_in (wanted_by (first_want k) e.member) z.items))) ≡ turn_events s (Exchanges x)
    by kind.Prepare =
        let z = step_line s (event.Resend e.txn e.coord) in
        ap (λ es. event.Resend e.txn e.coord ∷ es) (ap (λ o. passed (note_in (prepares_member e.member) z.items) ++ passed o) (sym (as_next want.Vote e.member z.state (note_in (prepares_member e.member) z.items))) ∙ sym (two_deliveries (prepares_member e.member) (votes_from e.member) z))
    by kind.Vote = let z = step_line s (event.Vote e.txn e.member) in ap (λ es. event.Vote e.txn e.member ∷ es) (sym (one_delivery (votes_from e.member) e.member z))
    by kind.Commit =
        let z = step_line s (event.Resend e.txn e.coord) in
        ap (λ es. event.Resend e.txn e.coord ∷ es) (ap (λ o. passed (note_in (decides_for e.member) z.items) ++ passed o) (sym (as_next want.Ack e.member z.state (note_in (decides_for e.member) z.items))) ∙ sym (two_deliveries (decides_for e.member) (acks_from e.member) z))
    by kind.Ask =
        let z = step_line s (event.Ask e.txn e.member) in
        ap (λ es. event.Ask e.txn e.member ∷ es) (ap (λ o. passed (note_in (asks_from e.member) z.items) ++ passed o) (sym (as_next want.Decide e.member z.state (note_in (asks_from e.member) z.items))) ∙ sym (two_deliveries (asks_from e.member) (decides_for e.member) z))

-- ---- what a step tells was sent

abbrev TellsSent : Stepped → Type 0
TellsSent z = (test : Message → Bool) (note : Message) → note_in test z.items ≡ Some note → was_sent z.state.sent note ≡ true

nothing_told : (s : Federation) (a : Answer) → TellsSent (answers s a)
nothing_told s a test note e = absurd (let z : None ≡ Some note = e in cc)

member_told : (s : Federation) (m : ℕ) (up : Bool) (did : MemberStep) → TellsSent (up_member s m up did)
member_told s m true did test note e = found_sent test s.sent (message_list did.sent) note (sym (note_of test did.marks (message_list did.sent) did.answer) ∙ e)
member_told s m false did test note e = absurd (let z : None ≡ Some note = e in cc)

coord_told : (s : Federation) (c : ℕ) (up : Bool) (did : CoordStep) → TellsSent (up_coord s c up did)
coord_told s c true did test note e = found_sent test s.sent did.sent note (sym (note_of test did.marks did.sent did.answer) ∙ e)
coord_told s c false did test note e = absurd (let z : None ≡ Some note = e in cc)

arrives_told : (s : Federation) (note : Message) → TellsSent (arrives s note)
arrives_told s (message.Prepare t c m n) = member_told s m (s.member m).up _
arrives_told s (message.Decide t c m commit) = member_told s m (s.member m).up _
arrives_told s (message.Vote t m c granted) = coord_told s c (s.coord c).up _
arrives_told s (message.Ask t m c) = coord_told s c (s.coord c).up _
arrives_told s (message.Ack t m c) = coord_told s c (s.coord c).up _

delivered_told : (s : Federation) (note : Message) → TellsSent (step_line s (event.Deliver note))
delivered_told s note = by (was_sent s.sent note)
  where
    by : (b : Bool) → TellsSent (if b then arrives s note else answers s answer.Unsent)
    by true = arrives_told s note
    by false = nothing_told s answer.Unsent

first_told : (s : Federation) (k : ExchangeKind) (t m c : ℕ) → TellsSent (step_line s (first_event (exchange_as k t m c)))
first_told s kind.Prepare t m c = coord_told s c (s.coord c).up _
first_told s kind.Vote t m c = member_told s m (s.member m).up _
first_told s kind.Commit t m c = coord_told s c (s.coord c).up _
first_told s kind.Ask t m c = member_told s m (s.member m).up _

-- ---- what was wanted

passes : (test : Message → Bool) (items : List ItemKind) (note : Message) → note_in test items ≡ Some note → test note ≡ true
passes test [] note e = absurd (let z : None ≡ Some note = e in cc)
passes test (item.Head head ∷ items) note e = passes test items note e
passes test (item.Event x ∷ items) note e = passes test items note e
passes test (item.Log mark ∷ items) note e = passes test items note e
passes test (item.Answered a ∷ items) note e = passes test items note e
passes test (item.Sent n ∷ items) note e = by (passes test items note) (test n) refl e
  where
    by : (note_in test items ≡ Some note → test note ≡ true) → (b : Bool) → test n ≡ b → (if b then Some n else note_in test items) ≡ Some note → test note ≡ true
    by rest true h e = let same : n ≡ note = cc in ap test (sym same) ∙ h
    by rest false h e = rest e

never : {A : Type 0} → false ≡ true → A
never e = absurd (cc)

module _ (s : Federation) (r : IsReached s) (m : ℕ) (own : IsMember s m) where
  -- a wanted message that was sent names nodes of the federation, but for an acknowledgement
  sent_in_head : (w : Want) → (w ≡ want.Ack → ⊥) → (note : Message) → wanted_by w m note ≡ true → NamesCoord s r note → IsForHead (length s.kinds) s.coordinators note
  sent_in_head want.Nothing other note h named = never h
  sent_in_head want.Ack other note h named = absurd (other refl)
  sent_in_head want.Prepare other (message.Prepare t c k n) h named = (subst (IsMember s) (sym (eqb-true k m h)) own, named)
  sent_in_head want.Prepare other (message.Vote t k c granted) h named = never h
  sent_in_head want.Prepare other (message.Decide t c k commit) h named = never h
  sent_in_head want.Prepare other (message.Ask t k c) h named = never h
  sent_in_head want.Prepare other (message.Ack t k c) h named = never h
  sent_in_head want.Vote other (message.Prepare t c k n) h named = never h
  sent_in_head want.Vote other (message.Vote t k c granted) h named = (subst (IsMember s) (sym (eqb-true k m h)) own, named)
  sent_in_head want.Vote other (message.Decide t c k commit) h named = never h
  sent_in_head want.Vote other (message.Ask t k c) h named = never h
  sent_in_head want.Vote other (message.Ack t k c) h named = never h
  sent_in_head want.Decide other (message.Prepare t c k n) h named = never h
  sent_in_head want.Decide other (message.Vote t k c granted) h named = never h
  sent_in_head want.Decide other (message.Decide t c k commit) h named = (subst (IsMember s) (sym (eqb-true k m h)) own, named)
  sent_in_head want.Decide other (message.Ask t k c) h named = never h
  sent_in_head want.Decide other (message.Ack t k c) h named = never h
  sent_in_head want.Ask other (message.Prepare t c k n) h named = never h
  sent_in_head want.Ask other (message.Vote t k c granted) h named = never h
  sent_in_head want.Ask other (message.Decide t c k commit) h named = never h
  sent_in_head want.Ask other (message.Ask t k c) h named = (subst (IsMember s) (sym (eqb-true k m h)) own, named)
  sent_in_head want.Ask other (message.Ack t k c) h named = never h

-- ---- an acknowledgement names the coordinator of the decision

module _ (n k m t c : ℕ) (j : ℕ) (head : AreInHead n k m c) where
  SentInHead : Option Message → Type 0
  SentInHead o = (note : Message) → find (acks_from j) (message_list o) ≡ Some note → IsForHead n k note

  none_in_head : (note : Message) → find (acks_from j) (message_list None) ≡ Some note → IsForHead n k note
  none_in_head note e = absurd (let z : None ≡ Some note = e in cc)

  ack_in_head : (note : Message) → find (acks_from j) (message_list (Some (message.Ack t m c))) ≡ Some note → IsForHead n k note
  ack_in_head note e = by (m == j) e
    where
      by : (b : Bool) → (if b then Some (message.Ack t m c) else None) ≡ Some note → IsForHead n k note
      by true q = let same : message.Ack t m c ≡ note = cc in subst (IsForHead n k) same head
      by false q = absurd (let z : None ≡ Some note = q in cc)

  decided_in_head : (x : MemberState) (commit : Bool) (note : Message) → find (acks_from j) (message_list (member_decide m x t c commit).sent) ≡ Some note → IsForHead n k note
  decided_in_head x true note e = by (standing_of x t) e
    where
      stopped : (b : Bool) (call : ℕ) → find (acks_from j) (message_list (stopped_member m (installed_state x t) call b (log.Commit t [] ∷ [])).sent) ≡ Some note → IsForHead n k note
      stopped true call q = none_in_head note q
      stopped false call q = none_in_head note q

      forced : (o : Outcome) → find (acks_from j) (message_list (forced_by m (installed_state x t) (log.Commit t [] ∷ []) answer.Installed (Some (message.Ack t m c)) o).sent) ≡ Some note → IsForHead n k note
      forced Completes q = ack_in_head note q
      forced (StopsAt call leaves) q = stopped _ call q

      by : (a : Standing) → find (acks_from j) (message_list (commit_by m x t c a).sent) ≡ Some note → IsForHead n k note
      by IsActive q = none_in_head note q
      by IsVoted q = forced (outcome_of (installed_state x t).log.armed 4) q
      by IsInstalled q = ack_in_head note q
      by IsAbsent q = none_in_head note q
  decided_in_head x false note e = by (standing_of x t) e
    where
      by : (a : Standing) → find (acks_from j) (message_list (abort_by x t a).sent) ≡ Some note → IsForHead n k note
      by IsActive q = none_in_head note q
      by IsVoted q = none_in_head note q
      by IsInstalled q = none_in_head note q
      by IsAbsent q = none_in_head note q

  -- where the decision arrives
  answered_in_head : (s : Federation) (commit : Bool) (note : Message) → note_in (acks_from j) (step_line s (event.Deliver (message.Decide t c m commit))).items ≡ Some note → IsForHead n k note
  answered_in_head s commit note e = by (was_sent s.sent (message.Decide t c m commit)) e
    where
      here : (up : Bool) → note_in (acks_from j) (up_member s m up (member_decide m (s.member m) t c commit)).items ≡ Some note → IsForHead n k note
      here false q = absurd (let z : None ≡ Some note = q in cc)
      here true q =
          let did = member_decide m (s.member m) t c commit in
          decided_in_head (s.member m) commit note (sym (note_of (acks_from j) did.marks (message_list did.sent) did.answer) ∙ q)

      by : (b : Bool) → note_in (acks_from j) (if b then arrives s (message.Decide t c m commit) else answers s answer.Unsent).items ≡ Some note → IsForHead n k note
      by true q = here (s.member m).up q
      by false q = absurd (let z : None ≡ Some note = q in cc)

ack_of : (n k m : ℕ) (s : Federation) (first note : Message) → decides_for m first ≡ true → IsForHead n k first → note_in (acks_from m) (step_line s (event.Deliver first)).items ≡ Some note → IsForHead n k note
ack_of n k m s (message.Prepare t c j count) note h head e = never h
ack_of n k m s (message.Vote t j c granted) note h head e = never h
ack_of n k m s (message.Decide t c j commit) note h head e = answered_in_head n k j t c m head s commit note e
ack_of n k m s (message.Ask t j c) note h head e = never h
ack_of n k m s (message.Ack t j c) note h head e = never h

-- ---- the first event of an exchange

pub first_names : (k : ExchangeKind) (t m c : ℕ) → NamesNoNode (first_event (exchange_as k t m c))
first_names kind.Prepare t m c n j = tt
first_names kind.Vote t m c n j = tt
first_names kind.Commit t m c n j = tt
first_names kind.Ask t m c n j = tt

pub enabled_member : (s : Federation) (k : ExchangeKind) (t m c : ℕ) → IsEnabled s (exchange_as k t m c) → IsMember s m
enabled_member s kind.Prepare t m c h = h.0
enabled_member s kind.Vote t m c h = h.0
enabled_member s kind.Commit t m c h = h.0
enabled_member s kind.Ask t m c h = h.0

no_ack_first : (k : ExchangeKind) → first_want k ≡ want.Ack → ⊥
no_ack_first kind.Prepare e = let z : want.Prepare ≡ want.Ack = e in cc
no_ack_first kind.Vote e = let z : want.Vote ≡ want.Ack = e in cc
no_ack_first kind.Commit e = let z : want.Decide ≡ want.Ack = e in cc
no_ack_first kind.Ask e = let z : want.Ask ≡ want.Ack = e in cc

-- ---- its messages are for nodes of the federation

may_pass : (n k : ℕ) (o : Option Message) → ((note : Message) → o ≡ Some note → IsForHead n k note) → MayPass n k o
may_pass n k None h = tt
may_pass n k (Some note) h = h note refl

module _ (s : Federation) (r : IsReached s) (e : Exchange) (h : IsEnabled s (exchange_of e)) where
  abbrev pub after_first : Stepped
  after_first = step_line s (first_event (exchange_of e))

  pub first_reached : IsReached after_first.state
  first_reached = reached_next s (first_event (exchange_of e)) r (first_names e.kind e.txn e.member e.coord)

  own_after : IsMember after_first.state e.member
  own_after = let own = enabled_member s e.kind e.txn e.member e.coord h in
      subst (λ ks. (1 ≤ e.member) × (e.member ≤ length ks)) (sym (kinds_stay s r (first_event (exchange_of e)) (first_names e.kind e.txn e.member e.coord))) own

  first_note_for : (note : Message) → first_note s e ≡ Some note → IsForHead (length after_first.state.kinds) after_first.state.coordinators note
  first_note_for note is =
      sent_in_head after_first.state first_reached e.member own_after (first_want e.kind) (no_ack_first e.kind) note (passes (wanted_by (first_want e.kind) e.member) after_first.items note is)
      (sent_names after_first.state first_reached note (first_told s e.kind e.txn e.member e.coord (wanted_by (first_want e.kind) e.member) note is))

  pub first_may : MayPass (length after_first.state.kinds) after_first.state.coordinators (first_note s e)
  first_may = may_pass (length after_first.state.kinds) after_first.state.coordinators (first_note s e) first_note_for

  -- behind the first message
  module _ (first : Message) (found : first_note s e ≡ Some first) where
    abbrev after_next : Stepped
    after_next = step_line after_first.state (event.Deliver first)

    next_reached : IsReached after_next.state
    next_reached = reached_next after_first.state (event.Deliver first) first_reached (λ n k. tt)

    stay : after_next.state.kinds ≡ after_first.state.kinds
    stay = kinds_stay after_first.state first_reached (event.Deliver first) (λ n k. tt)

    stay_coords : after_next.state.coordinators ≡ after_first.state.coordinators
    stay_coords = coords_stay after_first.state first_reached (event.Deliver first) (λ n k. tt)

    own_next : IsMember after_next.state e.member
    own_next = subst (λ ks. (1 ≤ e.member) × (e.member ≤ length ks)) (sym stay) own_after

    next_for : (note : Message) → note_in (wanted_by (next_want e.kind) e.member) after_next.items ≡ Some note → IsForHead (length after_next.state.kinds) after_next.state.coordinators note
    next_for note is = by e.kind refl
      where
        plain : next_want e.kind ≢ want.Ack → IsForHead (length after_next.state.kinds) after_next.state.coordinators note
        plain other = sent_in_head after_next.state next_reached e.member own_next (next_want e.kind) other note (passes (wanted_by (next_want e.kind) e.member) after_next.items note is)
            (sent_names after_next.state next_reached note (delivered_told after_first.state first (wanted_by (next_want e.kind) e.member) note is))

        ack : e.kind ≡ kind.Commit → IsForHead (length after_next.state.kinds) after_next.state.coordinators note
        ack same =
            subst (λ c. IsForHead (length after_next.state.kinds) c note) (sym stay_coords) (subst (λ ks. IsForHead (length ks) after_first.state.coordinators note) (sym stay)
            (ack_of (length after_first.state.kinds) after_first.state.coordinators e.member after_first.state first note
            (subst (λ k. wanted_by (first_want k) e.member first ≡ true) same (passes (wanted_by (first_want e.kind) e.member) after_first.items first found))
            (first_note_for first found) (subst (λ k. note_in (wanted_by (next_want k) e.member) after_next.items ≡ Some note) same is)))

        by : (k : ExchangeKind) → e.kind ≡ k → IsForHead (length after_next.state.kinds) after_next.state.coordinators note
        by kind.Prepare q = plain (λ w. let z : want.Vote ≡ want.Ack = sym (ap next_want q) ∙ w in cc)
        by kind.Vote q = plain (λ w. let z : want.Nothing ≡ want.Ack = sym (ap next_want q) ∙ w in cc)
        by kind.Commit q = ack q
        by kind.Ask q = plain (λ w. let z : want.Decide ≡ want.Ack = sym (ap next_want q) ∙ w in cc)

  -- the state after the first message, where there is one
  abbrev pub after_passed : Option Message → Federation
  after_passed o = run (lines (passed o)) after_first.state

  pub passed_reached : (o : Option Message) → IsReached (after_passed o)
  passed_reached None = first_reached
  passed_reached (Some note) = reached_next after_first.state (event.Deliver note) first_reached (λ n k. tt)

  second_for : (o : Option Message) → first_note s e ≡ o → (note : Message) → next_note (next_want e.kind) e.member after_first.state o ≡ Some note → IsForHead (length (after_passed o).kinds) (after_passed o).coordinators note
  second_for None is note q = absurd (let z : None ≡ Some note = q in cc)
  second_for (Some first) is note q = next_for first is note q

  pub second_may : MayPass (length (after_passed (first_note s e)).kinds) (after_passed (first_note s e)).coordinators (second_note s e)
  second_may = may_pass (length (after_passed (first_note s e)).kinds) (after_passed (first_note s e)).coordinators (second_note s e) (second_for (first_note s e) refl)

  -- ---- the calls of an exchange, one behind the other

  abbrev pub events_of : List Event
  events_of = turn_events s (Exchanges (exchange_of e))

  abbrev start : List Event
  start = first_event (exchange_of e) ∷ []

  pub first_cut : (file : Spot → Option File) (fault : WorldFault) → IsCutIn start s file fault → IsCutIn events_of s file fault
  first_cut file fault cut = subst (λ es. IsCutIn es s file fault) (exchange_events s e) (cut_before start (passed (first_note s e) ++ passed (second_note s e)) s file fault cut)

  pub next_cut : (file : Spot → Option File) (fault : WorldFault) → IsCutIn (passed (first_note s e)) after_first.state file fault → IsCutIn events_of s file fault
  next_cut file fault cut = subst (λ es. IsCutIn es s file fault) (exchange_events s e) (cut_later start (passed (first_note s e) ++ passed (second_note s e)) s file fault (cut_before (passed (first_note s e)) (passed (second_note s e)) after_first.state file fault cut))

  pub last_cut : (file : Spot → Option File) (fault : WorldFault) → IsCutIn (passed (second_note s e)) (after_passed (first_note s e)) file fault → IsCutIn events_of s file fault
  last_cut file fault cut = subst (λ es. IsCutIn es s file fault) (exchange_events s e) (cut_later start (passed (first_note s e) ++ passed (second_note s e)) s file fault (cut_later (passed (first_note s e)) (passed (second_note s e)) after_first.state file fault cut))

  pub all_done : {E : Type 0} (takes : Kind → Type 0) (stands_for : E → EngineState → Type 0) (a b c d : Told) (i j k l : Steps) (w x y : World E) → HasDone takes stands_for s start a b i j w →
      HasDone takes stands_for after_first.state (passed (first_note s e)) b c j k x → HasDone takes stands_for (after_passed (first_note s e)) (passed (second_note s e)) c d k l y → HasDone takes stands_for s events_of a d i l y
  all_done takes stands_for a b c d i j k l w x y one two three =
      subst (λ es. HasDone takes stands_for s es a d i l y) (exchange_events s e)
      (done_more takes stands_for s start (passed (first_note s e) ++ passed (second_note s e)) a b d i j l w y one
      (done_more takes stands_for after_first.state (passed (first_note s e)) (passed (second_note s e)) b c d j k l x y two three))

  -- what the first call gave, and the second one
  pub record AfterFirst {E : Type 0} (takes : Kind → Type 0) (stands_for : E → EngineState → Type 0) (a b : Told) (i j : Steps) (w : World E) (sent : Option Message) : Type 0 where
    pub done : HasDone takes stands_for s start a b i j w
    pub sent_is : sent ≡ first_note s e

  pub went_first : {E : Type 0} (takes : Kind → Type 0) (stands_for : E → EngineState → Type 0) (a b : Told) (i j : Steps) (w : World E) (sent : Option Message) (ev : Event) (k : Want) → ev ≡ first_event (exchange_of e) → k ≡ first_want e.kind →
      HasDone takes stands_for s (ev ∷ []) a b i j w × (sent ≡ note_in (wanted_by k e.member) (step_line s ev).items) → AfterFirst takes stands_for a b i j w sent
  went_first takes stands_for a b i j w sent ev k is wants did =
      record {
        done = subst (λ x. HasDone takes stands_for s (x ∷ []) a b i j w) is did.0;
        sent_is = did.1 ∙ ap (λ v. note_in (wanted_by v e.member) (step_line s ev).items) wants ∙ ap (λ x. note_in (wanted_by (first_want e.kind) e.member) (step_line s x).items) is;
      }

  pub record AfterNext {E : Type 0} (takes : Kind → Type 0) (stands_for : E → EngineState → Type 0) (b c : Told) (j k : Steps) (x : World E) (answered : Option Message) : Type 0 where
    pub done : HasDone takes stands_for after_first.state (passed (first_note s e)) b c j k x
    pub answer_is : answered ≡ second_note s e

  pub went_next : {E : Type 0} (takes : Kind → Type 0) (stands_for : E → EngineState → Type 0) (b c : Told) (j k : Steps) (x : World E) (sent answered : Option Message) (v : Want) → sent ≡ first_note s e → v ≡ next_want e.kind →
      HasDone takes stands_for after_first.state (passed sent) b c j k x × (answered ≡ next_note v e.member after_first.state sent) → AfterNext takes stands_for b c j k x answered
  went_next takes stands_for b c j k x sent answered v is wants did =
      record {
        done = subst (λ o. HasDone takes stands_for after_first.state (passed o) b c j k x) is did.0;
        answer_is = did.1 ∙ ap (λ y. next_note y e.member after_first.state sent) wants ∙ ap (next_note (next_want e.kind) e.member after_first.state) is;
      }

pub passed_short : (o : Option Message) → length (passed o) ≤ 1
passed_short None = omega arith
passed_short (Some note) = omega arith

-- what may be passed on, by the numbers of a federation that stands
pub may_as : {E : Type 0} (takes : Kind → Type 0) (stands_for : E → EngineState → Type 0) (w : World E) (z : Federation) (o p : Option Message) → RepresentsWorld takes stands_for w z → p ≡ o → MayPass (length z.kinds) z.coordinators o →
    MayPass (length w.cluster.members.items) (length w.cluster.coords.items) p
may_as takes stands_for w z o p r same may =
    subst (λ n. MayPass n (length w.cluster.coords.items) p) (sym r.cluster.kinds) (subst (λ n. MayPass (length z.kinds) n p) (sym r.cluster.coordinators) (subst (MayPass (length z.kinds) z.coordinators) (sym same) may))
