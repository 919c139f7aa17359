-- Which events send a vote.
use Rattle.std.proofs.Common.{◌≡◌, ℕ, Bool, true, false, ◌||◌, ◌&&◌, ◌==◌, if◌then◌else◌, List, [], ◌∷◌, Option, None, Some, refl, sym, ap, ◌∙◌}
use Rattle.std.specs.List.{list_any}
use Rattle.std.specs.Option.{is_some}
use Rattle.std.proofs.lemmas.Bool.{and_parts, or_left, eqb-true, eq-eqb}
use Rattle.co_frame.specs.Gate.{batch_is_stable}
use Rattle.co_message.specs.declared.answer.Answer.TheVariants as answer
use Rattle.co_message.specs.declared.event.Event.{Event}
use Rattle.co_message.specs.declared.event.Event.TheVariants as event
use Rattle.co_message.specs.declared.message.Message.{Message}
use Rattle.co_message.specs.declared.message.Message.TheVariants as message
use Rattle.co_message.specs.Sent.{same_flag}
use Rattle.co_record.specs.declared.record.Record.{Record}
use Rattle.co_state.specs.declared.verdict.Verdict.{Verdict}
use Rattle.co_state.specs.declared.verdict.Verdict.TheVariants.{LostOperations, StaleRead, HeldBy, VoteYes}
use Rattle.co_state.specs.Changes.{sets_of}
use Rattle.co_state.specs.EngineState.{operations_of}
use Rattle.co_state.specs.Table.{look}
use Rattle.co_state.specs.VotingRule.{vote_of}
use Rattle.co_plain.specs.declared.member_state.AskedMark.{AskedMark}
use Rattle.co_plain.specs.declared.member_state.MemberState.{MemberState}
use Rattle.co_plain.specs.declared.member_step.MemberStep.{MemberStep}
use Rattle.co_plain.specs.declared.outcome.Outcome.{Outcome}
use Rattle.co_plain.specs.declared.outcome.Outcome.TheVariants.{Completes, StopsAt}
use Rattle.co_plain.specs.declared.standing.Standing.{Standing}
use Rattle.co_plain.specs.declared.standing.Standing.TheVariants.{IsActive, IsVoted, IsInstalled, IsAbsent}
use Rattle.co_plain.specs.Federation.{Federation, Stepped, answers, message_list}
use Rattle.co_plain.specs.LogWrite.{outcome_of}
use Rattle.co_plain.specs.MemberStep.{standing_of, stopped_member, forced_by}
use Rattle.co_plain.specs.Member.{prepare_record, voted_state, vote_by, with_mark, prepare_by, member_prepare, vote_where_asked, vote_again_by, member_vote}
use Rattle.co_plain.specs.Step.{up_member, arrives, step_line}
use Rattle.co_plain.specs.Wire.{same_message, was_sent}
use Rattle.co_law_moves.specs.MoveTraces.{messages_in}
use Rattle.co_law_moves.proofs.ItemsTold.{items_messages}
use Rattle.co_law_node.specs.Causes.{Exactly}
use Rattle.co_law_exact.specs.Events.{SendsMessage, Arrives, SendsYes, SendsNo}
use Rattle.co_law_exact.proofs.Ballots.{no_exact, no_sent_exact, yes_sent_exact}
use Rattle.co_law_exact.proofs.LineTells.{MayLack, line_lacks}
use Rattle.co_law_exact.proofs.MemberTells.{is_vote}

clash : {A : Type 0} → false ≡ true → A
clash h = absurd (let z : false ≡ true = h in cc)

or_one : (a : Bool) → (a || false) ≡ true → a ≡ true
or_one true h = refl
or_one false h = clash h

-- ---- the same vote

same_flags : (a b : Bool) → same_flag a b ≡ true → a ≡ b
same_flags true b h = sym h
same_flags false true h = clash h
same_flags false false h = refl

flag_itself : (a : Bool) → same_flag a a ≡ true
flag_itself true = refl
flag_itself false = refl

record IsSameVote (u k d t m c : ℕ) (w g : Bool) : Type 0 where
  txn : u ≡ t
  member : k ≡ m
  coord : d ≡ c
  granted : w ≡ g

same_vote : (u k d t m c : ℕ) (w g : Bool) → same_message (message.Vote u k d w) (message.Vote t m c g) ≡ true → IsSameVote u k d t m c w g
same_vote u k d t m c w g h =
    let p = and_parts ((u == t) && (k == m) && (d == c)) (same_flag w g) h in
    let q = and_parts ((u == t) && (k == m)) (d == c) p.0 in
    let r = and_parts (u == t) (k == m) q.0 in
    record { txn = eqb-true u t r.0; member = eqb-true k m r.1; coord = eqb-true d c q.1; granted = same_flags w g p.1 }

vote_itself : (t m c : ℕ) (g : Bool) → same_message (message.Vote t m c g) (message.Vote t m c g) ≡ true
vote_itself t m c g = (λ i. eq-eqb t t refl i && eq-eqb m m refl i && eq-eqb c c refl i && flag_itself g i)

-- who sends a vote sends some vote
vote_among : (notes : List Message) (t m c : ℕ) (g : Bool) → was_sent notes (message.Vote t m c g) ≡ true → list_any (is_vote true) notes ≡ true
vote_among [] t m c g h = clash h
vote_among (message.Vote u k d w ∷ notes) t m c g h = refl
vote_among (message.Prepare u d k n ∷ notes) t m c g h = vote_among notes t m c g h
vote_among (message.Decide u d k commit ∷ notes) t m c g h = vote_among notes t m c g h
vote_among (message.Ask u k d ∷ notes) t m c g h = vote_among notes t m c g h
vote_among (message.Ack u k d ∷ notes) t m c g h = vote_among notes t m c g h

-- ---- a prepare and a vote that is tried again send a vote of their own, or nothing

abbrev IsOwnVote : ℕ → ℕ → Option Message → Type 0
IsOwnVote t m None = Unit {0}
IsOwnVote t m (Some (message.Vote u k c g)) = (u ≡ t) × (k ≡ m)
IsOwnVote t m (Some _) = ⊥

module _ (m : ℕ) where
  vote_own : (x : MemberState) (t c n : ℕ) (v : Verdict) → IsOwnVote t m (vote_by m x t c n v).sent
  vote_own x t c n LostOperations = (refl, refl)
  vote_own x t c n (StaleRead key) = (refl, refl)
  vote_own x t c n (HeldBy u) = tt
  vote_own x t c n VoteYes = by (outcome_of x.log.armed 4)
    where
      batch : List Record
      batch = prepare_record t c n (sets_of (operations_of x.engine t)) ∷ []

      stopped : (call : ℕ) (b : Bool) → IsOwnVote t m (stopped_member m (voted_state x t c n) call b batch).sent
      stopped call true = tt
      stopped call false = tt

      by : (o : Outcome) → IsOwnVote t m (forced_by m (voted_state x t c n) batch answer.Yes (Some (message.Vote t m c true)) o).sent
      by Completes = (refl, refl)
      by (StopsAt call leaves) = stopped call (batch_is_stable call leaves)

  prepare_own : (x : MemberState) (t c n : ℕ) → IsOwnVote t m (member_prepare m x t c n).sent
  prepare_own x t c n = by (standing_of x t)
    where
      by : (st : Standing) → IsOwnVote t m (prepare_by m x t c n st).sent
      by IsActive = vote_own (with_mark x t c n) t c n (vote_of x.engine t n)
      by IsVoted = (refl, refl)
      by IsInstalled = tt
      by IsAbsent = vote_own x t c n (vote_of x.engine t n)

  again_own : (x : MemberState) (t : ℕ) → IsOwnVote t m (member_vote m x t).sent
  again_own x t = by (standing_of x t)
    where
      asked : (o : Option AskedMark) → IsOwnVote t m (vote_where_asked m x t o).sent
      asked None = tt
      asked (Some mark) = vote_own x t mark.coord mark.count (vote_of x.engine t mark.count)

      by : (st : Standing) → IsOwnVote t m (vote_again_by m x t st).sent
      by IsActive = asked (look x.asked t)
      by IsVoted = tt
      by IsInstalled = tt
      by IsAbsent = tt

-- ---- an event sends a vote where its member does

module _ (t m c : ℕ) (g : Bool) where
  abbrev Sends : Stepped → Type 0
  Sends z = SendsMessage z (message.Vote t m c g)

  sent_exact : (u k : ℕ) (o : Option Message) → IsOwnVote u k o →
      Exactly (was_sent (message_list o) (message.Vote t m c g) ≡ true) ((u ≡ t) × (k ≡ m) × (o ≡ Some (message.Vote u k c g)))
  sent_exact u k None own = (λ h. clash h, λ p. clash (ap is_some p.2))
  sent_exact u k (Some (message.Vote a b d w)) own = (to, from)
    where
      to : was_sent (message.Vote a b d w ∷ []) (message.Vote t m c g) ≡ true → (u ≡ t) × (k ≡ m) × (Some (message.Vote a b d w) ≡ Some (message.Vote u k c g))
      to h =
          let p = same_vote a b d t m c w g (or_one (same_message (message.Vote a b d w) (message.Vote t m c g)) h) in
          (sym own.0 ∙ p.txn, sym own.1 ∙ p.member, λ i. Some (message.Vote (own.0 i) (own.1 i) (p.coord i) (p.granted i)))

      from : (u ≡ t) × (k ≡ m) × (Some (message.Vote a b d w) ≡ Some (message.Vote u k c g)) → was_sent (message.Vote a b d w ∷ []) (message.Vote t m c g) ≡ true
      from p =
          let q : t ≡ u = sym p.0 in
          let r : m ≡ k = sym p.1 in
          ap (λ o. was_sent (message_list o) (message.Vote t m c g)) p.2
          ∙ (λ i. was_sent (message.Vote u k c g ∷ []) (message.Vote (q i) (r i) c g))
          ∙ or_left (same_message (message.Vote u k c g) (message.Vote u k c g)) false (vote_itself u k c g)
  sent_exact u k (Some (message.Prepare a b d w)) own = absurd own
  sent_exact u k (Some (message.Decide a b d w)) own = absurd own
  sent_exact u k (Some (message.Ask a b d)) own = absurd own
  sent_exact u k (Some (message.Ack a b d)) own = absurd own

  -- at a member that is up
  member_exact : (s : Federation) (u k : ℕ) (up : Bool) (did : MemberStep) (Q : Type 0) → IsOwnVote u k did.sent → Exactly (did.sent ≡ Some (message.Vote u k c g)) Q →
      Exactly (Sends (up_member s k up did)) ((u ≡ t) × (k ≡ m) × (up ≡ true) × Q)
  member_exact s u k false did Q own e = (λ h. clash h, λ p. clash p.2)
  member_exact s u k true did Q own e =
      let same = ap (λ notes. was_sent notes (message.Vote t m c g)) (items_messages did.marks (message_list did.sent) did.answer) in
      let x = sent_exact u k did.sent own in
      (λ h. let p = x.0 (sym same ∙ h) in (p.0, p.1, refl, e.0 p.2), λ p. same ∙ x.1 (p.0, p.1, e.1 p.3))

  prepare_event : (s : Federation) (u d k n : ℕ) (Q : Type 0) → Exactly ((member_prepare k (s.member k) u d n).sent ≡ Some (message.Vote u k c g)) Q →
      Exactly (Sends (step_line s (event.Deliver (message.Prepare u d k n)))) ((u ≡ t) × (k ≡ m) × Arrives s (message.Prepare u d k n) k × Q)
  prepare_event s u d k n Q e = by (was_sent s.sent (message.Prepare u d k n)) refl
    where
      arrived : Exactly (Sends (arrives s (message.Prepare u d k n))) ((u ≡ t) × (k ≡ m) × ((s.member k).up ≡ true) × Q)
      arrived = member_exact s u k (s.member k).up (member_prepare k (s.member k) u d n) Q (prepare_own k (s.member k) u d n) e

      by : (b : Bool) → was_sent s.sent (message.Prepare u d k n) ≡ b →
          Exactly (Sends (if b then arrives s (message.Prepare u d k n) else answers s answer.Unsent)) ((u ≡ t) × (k ≡ m) × Arrives s (message.Prepare u d k n) k × Q)
      by true w = (λ h. let p = arrived.0 h in (p.0, p.1, (w, p.2), p.3), λ p. arrived.1 (p.0, p.1, p.2.1, p.3))
      by false w = (λ h. clash h, λ p. clash (sym w ∙ p.2.0))

  again_event : (s : Federation) (u k : ℕ) (Q : Type 0) → Exactly ((member_vote k (s.member k) u).sent ≡ Some (message.Vote u k c g)) Q →
      Exactly (Sends (step_line s (event.Vote u k))) ((u ≡ t) × (k ≡ m) × ((s.member k).up ≡ true) × Q)
  again_event s u k Q e = member_exact s u k (s.member k).up (member_vote k (s.member k) u) Q (again_own k (s.member k) u) e

  -- another event sends none
  voteless : (s : Federation) (e : Event) → MayLack true false false e → {A : Type 0} → Sends (step_line s e) → A
  voteless s e may h = clash (sym (line_lacks true false false s e may).0 ∙ vote_among (messages_in (step_line s e).items) t m c g h)

pub yes_events : (s : Federation) (t m c : ℕ) (e : Event) → Exactly (SendsMessage (step_line s e) (message.Vote t m c true)) (SendsYes s t m c e)
yes_events s t m c (event.Deliver (message.Prepare u d k n)) = prepare_event t m c true s u d k n _ ((yes_sent_exact k (s.member k)).sent u d n c)
yes_events s t m c (event.Vote u k) = again_event t m c true s u k _ ((yes_sent_exact k (s.member k)).sent_again u c)
yes_events s t m c (event.Deliver (message.Decide u d k b)) = (voteless t m c true s (event.Deliver (message.Decide u d k b)) tt, λ p. absurd p)
yes_events s t m c (event.Deliver (message.Vote u k d b)) = (voteless t m c true s (event.Deliver (message.Vote u k d b)) tt, λ p. absurd p)
yes_events s t m c (event.Deliver (message.Ask u k d)) = (voteless t m c true s (event.Deliver (message.Ask u k d)) tt, λ p. absurd p)
yes_events s t m c (event.Deliver (message.Ack u k d)) = (voteless t m c true s (event.Deliver (message.Ack u k d)) tt, λ p. absurd p)
yes_events s t m c (event.Begin u d) = (voteless t m c true s (event.Begin u d) tt, λ p. absurd p)
yes_events s t m c (event.Local u k) = (voteless t m c true s (event.Local u k) tt, λ p. absurd p)
yes_events s t m c (event.Read u k key) = (voteless t m c true s (event.Read u k key) refl, λ p. absurd p)
yes_events s t m c (event.Write u k key value) = (voteless t m c true s (event.Write u k key value) refl, λ p. absurd p)
yes_events s t m c (event.Erase u k key) = (voteless t m c true s (event.Erase u k key) refl, λ p. absurd p)
yes_events s t m c (event.Scan u k span) = (voteless t m c true s (event.Scan u k span) refl, λ p. absurd p)
yes_events s t m c (event.Commit u) = (voteless t m c true s (event.Commit u) refl, λ p. absurd p)
yes_events s t m c (event.Abort u) = (voteless t m c true s (event.Abort u) tt, λ p. absurd p)
yes_events s t m c (event.Timer u at) = (voteless t m c true s (event.Timer u at) tt, λ p. absurd p)
yes_events s t m c (event.Ask u k) = (voteless t m c true s (event.Ask u k) tt, λ p. absurd p)
yes_events s t m c (event.Resend u d) = (voteless t m c true s (event.Resend u d) tt, λ p. absurd p)
yes_events s t m c (event.Crash at) = (voteless t m c true s (event.Crash at) tt, λ p. absurd p)
yes_events s t m c (event.Restart at) = (voteless t m c true s (event.Restart at) tt, λ p. absurd p)
yes_events s t m c (event.Arm at call leaves) = (voteless t m c true s (event.Arm at call leaves) tt, λ p. absurd p)
yes_events s t m c (event.Checkpoint at) = (voteless t m c true s (event.Checkpoint at) tt, λ p. absurd p)

pub no_events : (s : Federation) (t m c : ℕ) (e : Event) → Exactly (SendsMessage (step_line s e) (message.Vote t m c false)) (SendsNo s t m c e)
no_events s t m c (event.Deliver (message.Prepare u d k n)) = prepare_event t m c false s u d k n _ (no_sent_exact k (s.member k) u d n c)
no_events s t m c (event.Vote u k) = again_event t m c false s u k _ ((no_exact k (s.member k)).sent_again u c)
no_events s t m c (event.Deliver (message.Decide u d k b)) = (voteless t m c false s (event.Deliver (message.Decide u d k b)) tt, λ p. absurd p)
no_events s t m c (event.Deliver (message.Vote u k d b)) = (voteless t m c false s (event.Deliver (message.Vote u k d b)) tt, λ p. absurd p)
no_events s t m c (event.Deliver (message.Ask u k d)) = (voteless t m c false s (event.Deliver (message.Ask u k d)) tt, λ p. absurd p)
no_events s t m c (event.Deliver (message.Ack u k d)) = (voteless t m c false s (event.Deliver (message.Ack u k d)) tt, λ p. absurd p)
no_events s t m c (event.Begin u d) = (voteless t m c false s (event.Begin u d) tt, λ p. absurd p)
no_events s t m c (event.Local u k) = (voteless t m c false s (event.Local u k) tt, λ p. absurd p)
no_events s t m c (event.Read u k key) = (voteless t m c false s (event.Read u k key) refl, λ p. absurd p)
no_events s t m c (event.Write u k key value) = (voteless t m c false s (event.Write u k key value) refl, λ p. absurd p)
no_events s t m c (event.Erase u k key) = (voteless t m c false s (event.Erase u k key) refl, λ p. absurd p)
no_events s t m c (event.Scan u k span) = (voteless t m c false s (event.Scan u k span) refl, λ p. absurd p)
no_events s t m c (event.Commit u) = (voteless t m c false s (event.Commit u) refl, λ p. absurd p)
no_events s t m c (event.Abort u) = (voteless t m c false s (event.Abort u) tt, λ p. absurd p)
no_events s t m c (event.Timer u at) = (voteless t m c false s (event.Timer u at) tt, λ p. absurd p)
no_events s t m c (event.Ask u k) = (voteless t m c false s (event.Ask u k) tt, λ p. absurd p)
no_events s t m c (event.Resend u d) = (voteless t m c false s (event.Resend u d) tt, λ p. absurd p)
no_events s t m c (event.Crash at) = (voteless t m c false s (event.Crash at) tt, λ p. absurd p)
no_events s t m c (event.Restart at) = (voteless t m c false s (event.Restart at) tt, λ p. absurd p)
no_events s t m c (event.Arm at call leaves) = (voteless t m c false s (event.Arm at call leaves) tt, λ p. absurd p)
no_events s t m c (event.Checkpoint at) = (voteless t m c false s (event.Checkpoint at) tt, λ p. absurd p)
