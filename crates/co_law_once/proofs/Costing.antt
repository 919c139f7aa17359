-- Of each kind at most one message of a transaction to or from a member, where nothing of it is mended.
use Rattle.std.proofs.Common.{◌≡◌, ℕ, Bool, true, false, not, ◌&&◌, ◌==◌, if◌then◌else◌, List, [], ◌∷◌, ◌++◌, Option, None, Some, refl, sym, ap, ◌∙◌, subst}
use Rattle.std.specs.List.{list_any}
use Rattle.std.proofs.lemmas.Bool.{and_parts, or_left, or_parts, or_from, false_from_ne_true}
use Rattle.std.proofs.lemmas.List.Folds.{list_any-append}
use Rattle.co_base.specs.declared.head.Kind.{Kind}
use Rattle.co_base.specs.declared.node.Node.{Node}
use Rattle.co_base.specs.declared.node.Node.TheVariants as node
use Rattle.co_base.specs.declared.part.Part.{Part}
use Rattle.co_frame.specs.Gate.{batch_is_stable}
use Rattle.co_message.specs.declared.event.Event.TheVariants as event
use Rattle.co_message.specs.declared.item.ItemKind.{ItemKind}
use Rattle.co_message.specs.declared.item.ItemKind.TheVariants as item
use Rattle.co_message.specs.declared.message.Message.{Message}
use Rattle.co_message.specs.declared.message.Message.TheVariants as message
use Rattle.co_state.specs.declared.verdict.Verdict.{Verdict}
use Rattle.co_state.specs.declared.verdict.Verdict.TheVariants.{LostOperations, StaleRead, HeldBy, VoteYes}
use Rattle.co_state.specs.Table.{look, holds}
use Rattle.co_state.specs.VotingRule.{vote_of}
use Rattle.co_plain.specs.declared.coord_state.Entry.{Entry}
use Rattle.co_plain.specs.declared.coord_state.Entry.TheVariants as entry
use Rattle.co_plain.specs.declared.happening.Happening.{Happening}
use Rattle.co_plain.specs.declared.happening.Happening.TheVariants as happening
use Rattle.co_plain.specs.declared.member_state.MemberState.{MemberState}
use Rattle.co_plain.specs.declared.outcome.Outcome.{Outcome}
use Rattle.co_plain.specs.declared.outcome.Outcome.TheVariants.{Completes, StopsAt}
use Rattle.co_plain.specs.declared.session.Session.{Session}
use Rattle.co_plain.specs.declared.standing.Standing.{Standing}
use Rattle.co_plain.specs.declared.standing.Standing.TheVariants.{IsActive, IsVoted, IsInstalled, IsAbsent}
use Rattle.co_plain.specs.Coordinator.{prepares_to, decisions_to}
use Rattle.co_plain.specs.CoordStep.{has_part, members_of}
use Rattle.co_plain.specs.Federation.{Federation}
use Rattle.co_plain.specs.LogWrite.{outcome_of}
use Rattle.co_plain.specs.MemberStep.{standing_of}
use Rattle.co_plain.specs.Moves.{Move, Cast, Install, Decide, CrashMember, CrashCoord, Send}
use Rattle.co_plain.specs.Numbers.{first_lacking, has_number}
use Rattle.co_plain.specs.Opening.{Found, opened}
use Rattle.co_plain.specs.Premises.{AreOpenable, AreTrueVerdicts}
use Rattle.co_plain.specs.Sessions.{Leave, Refuses, Grants, leave_to_end, parts_of, count_at}
use Rattle.co_plain.specs.Step.{step}
use Rattle.co_plain.specs.Wire.{was_sent}
use Rattle.co_law_base.proofs.Facts.{Facts, rest_of, told}
use Rattle.co_law_moves.specs.EventMoves.{sends, where_up, written_moves, stopped_moves, drop_moves, vote_moves, prepare_moves, commit_moves, abort_moves, decision_moves, decided_at_once, commit_entry_moves, local_commit_moves, yes_counted_moves, yes_moves, commit_at_moves, commit_with_moves, arrival_moves, moves_of}
use Rattle.co_law_moves.specs.MoveTraces.{items_along, messages_in, sent_by, sent_by_move, told_with}
use Rattle.co_law_moves.proofs.Start.{start_facts}
use Rattle.co_law_moves.proofs.Steps.{step_keeps}
use Rattle.co_law_moves.proofs.StepsTold.{step_sends}
use Rattle.co_law_once.specs.Costs.{mends, asks_commit, delivers_prepare, delivers_decision, is_prepare, is_vote, is_decision, is_acknowledgement, is_question, IsWithoutLoss, AreFour}
use Rattle.co_law_once.specs.Once.{AtMostOnce, moves_along, forces_decision}
use Rattle.co_law_once.proofs.Counting.{once_split, once_behind, members_once}
use Rattle.co_law_once.proofs.Forced.{decisions_once}
use Rattle.co_law_once.proofs.Origins.{delivers_yes, fits, from_commit, from_prepare, from_yes, from_decision, from_nowhere, one_tells}
use Rattle.co_law_once.proofs.Sending.{event_fits, where_up_passes, local_commit_passes}
use Rattle.co_law_once.proofs.Walking.{once_append, none_once}

clash : {A : Type 0} → false ≡ true → A
clash h = absurd (let z : false ≡ true = h in cc)

-- the messages of a run
abbrev sent_along : List Happening → Federation → List Message
sent_along [] s = []
sent_along (h ∷ hs) s = sent_by (moves_of s h) ++ sent_along hs (step s h).state

messages_more : (xs ys : List ItemKind) → messages_in (xs ++ ys) ≡ messages_in xs ++ messages_in ys
messages_more [] ys = refl
messages_more (item.Sent note ∷ xs) ys = ap (λ k. note ∷ k) (messages_more xs ys)
messages_more (item.Head head ∷ xs) ys = messages_more xs ys
messages_more (item.Event e ∷ xs) ys = messages_more xs ys
messages_more (item.Log mark ∷ xs) ys = messages_more xs ys
messages_more (item.Answered a ∷ xs) ys = messages_more xs ys

items_send : (hs : List Happening) (s : Federation) → Facts s → AreTrueVerdicts hs s → messages_in (items_along hs s) ≡ sent_along hs s
items_send [] s f v = refl
items_send (h ∷ hs) s f v =
    messages_more (told_with h (step s h).items) (items_along hs (step s h).state)
    ∙ (λ i. step_sends s f h i ++ items_send hs (step s h).state (step_keeps s f h v.0) v.1 i)

-- What passes comes of a cause, and once of each; and there is one cause at most.
module _ (t : ℕ) (p : Message → Bool) (cause : Federation → Happening → Bool) where
  record IsCaused (s : Federation) (h : Happening) : Type 0 where
    tells : list_any p (sent_by (moves_of s h)) ≡ true → cause s h ≡ true
    once : AtMostOnce p (sent_by (moves_of s h))

  abbrev causes_along : List Happening → Federation → List Bool
  causes_along [] s = []
  causes_along (h ∷ hs) s = cause s h ∷ causes_along hs (step s h).state

  abbrev AllCaused : Type 0
  AllCaused = (s : Federation) → Facts s → (h : Happening) → mends t h ≡ false → IsCaused s h

  uncaused : AllCaused → (hs : List Happening) (s : Federation) → Facts s → AreTrueVerdicts hs s → list_any (mends t) hs ≡ false →
      list_any (λ b. b) (causes_along hs s) ≡ false → list_any p (sent_along hs s) ≡ false
  uncaused all [] s f v n c = refl
  uncaused all (h ∷ hs) s f v n c =
      let m = or_parts (mends t h) (list_any (mends t) hs) n in
      let d = or_parts (cause s h) (list_any (λ b. b) (causes_along hs (step s h).state)) c in
      list_any-append p (sent_by (moves_of s h)) (sent_along hs (step s h).state)
      ∙ or_from (list_any p (sent_by (moves_of s h))) (list_any p (sent_along hs (step s h).state))
      (false_from_ne_true (list_any p (sent_by (moves_of s h))) (λ e. let z : true ≡ false = sym ((all s f h m.0).tells e) ∙ d.0 in cc))
      (uncaused all hs (step s h).state (step_keeps s f h v.0) v.1 m.1 d.1)

  caused_once : AllCaused → (hs : List Happening) (s : Federation) → Facts s → AreTrueVerdicts hs s → list_any (mends t) hs ≡ false →
      AtMostOnce (λ b. b) (causes_along hs s) → AtMostOnce p (sent_along hs s)
  caused_once all [] s f v n c = tt
  caused_once all (h ∷ hs) s f v n c =
      let m = or_parts (mends t h) (list_any (mends t) hs) n in
      once_append p (sent_by (moves_of s h)) (sent_along hs (step s h).state) (all s f h m.0).once
      (λ e. uncaused all hs (step s h).state (step_keeps s f h v.0) v.1 m.1 (c.0 ((all s f h m.0).tells e)))
      (caused_once all hs (step s h).state (step_keeps s f h v.0) v.1 m.1 c.1)

-- causes that are read off the events
causes_none : (q : Happening → Bool) (t : ℕ) (p : Message → Bool) (hs : List Happening) (s : Federation) → list_any q hs ≡ false → list_any (λ b. b) (causes_along t p (λ s h. q h) hs s) ≡ false
causes_none q t p [] s a = refl
causes_none q t p (h ∷ hs) s a =
    let c = or_parts (q h) (list_any q hs) a in or_from (q h) (list_any (λ b. b) (causes_along t p (λ s h. q h) hs (step s h).state)) c.0 (causes_none q t p hs (step s h).state c.1)

causes_once : (q : Happening → Bool) (t : ℕ) (p : Message → Bool) (hs : List Happening) (s : Federation) → AtMostOnce q hs → AtMostOnce (λ b. b) (causes_along t p (λ s h. q h) hs s)
causes_once q t p [] s a = tt
causes_once q t p (h ∷ hs) s a = (λ e. causes_none q t p hs (step s h).state (a.0 e), causes_once q t p hs (step s h).state a.1)

-- and off the moves
abbrev decides_here : ℕ → Federation → Happening → Bool
decides_here t s h = list_any (forces_decision t) (moves_of s h)

decided_none : (t : ℕ) (p : Message → Bool) (hs : List Happening) (s : Federation) → list_any (forces_decision t) (moves_along hs s) ≡ false → list_any (λ b. b) (causes_along t p (decides_here t) hs s) ≡ false
decided_none t p [] s a = refl
decided_none t p (h ∷ hs) s a =
    let c = or_parts (decides_here t s h) (list_any (forces_decision t) (moves_along hs (step s h).state)) (sym (list_any-append (forces_decision t) (moves_of s h) (moves_along hs (step s h).state)) ∙ a) in
    or_from (decides_here t s h) (list_any (λ b. b) (causes_along t p (decides_here t) hs (step s h).state)) c.0 (decided_none t p hs (step s h).state c.1)

decided_once_along : (t : ℕ) (p : Message → Bool) (hs : List Happening) (s : Federation) → AtMostOnce (forces_decision t) (moves_along hs s) → AtMostOnce (λ b. b) (causes_along t p (decides_here t) hs s)
decided_once_along t p [] s a = tt
decided_once_along t p (h ∷ hs) s a = (
  λ e. decided_none t p hs (step s h).state (once_split (forces_decision t) (moves_of s h) (moves_along hs (step s h).state) a e),
  decided_once_along t p hs (step s h).state (once_behind (forces_decision t) (moves_of s h) (moves_along hs (step s h).state) a),
)

-- one message at the most passes once
module _ (p : Message → Bool) where
  abbrev Once : List Move → Type 0
  Once moves = AtMostOnce p (sent_by moves)

  up_once : (up : Bool) (moves : List Move) → Once moves → Once (where_up up moves)
  up_once true moves a = a
  up_once false moves a = tt

  single_once : (done crash : Move) (note : Message) → sent_by_move done ≡ [] → sent_by_move crash ≡ [] → (o : Outcome) → Once (written_moves done crash (Send note ∷ []) o)
  single_once done crash note d c Completes = rw d (λ h. refl, tt)
  single_once done crash note d c (StopsAt call leaves) = by (batch_is_stable call leaves)
    where
      by : (b : Bool) → Once (stopped_moves done crash b)
      by true = rw d (rw c tt)
      by false = rw c tt

  vote_once : (x : MemberState) (u m c n : ℕ) (v : Verdict) → Once (vote_moves x u m c n v)
  vote_once x u m c n v = by v
    where
      dropped : (b : Bool) → Once (drop_moves b u m ++ Send (message.Vote u m c false) ∷ [])
      dropped true = (λ h. refl, tt)
      dropped false = (λ h. refl, tt)

      by : (v : Verdict) → Once (vote_moves x u m c n v)
      by LostOperations = dropped (holds x.engine.active u)
      by (StaleRead key) = dropped (holds x.engine.active u)
      by (HeldBy w) = tt
      by VoteYes = single_once (Cast u m c n) (CrashMember m) (message.Vote u m c true) refl refl (outcome_of x.log.armed 4)

  prepare_once : (x : MemberState) (u m c n : ℕ) (st : Standing) → Once (prepare_moves x u m c n st)
  prepare_once x u m c n IsActive = vote_once x u m c n (vote_of x.engine u n)
  prepare_once x u m c n IsVoted = (λ h. refl, tt)
  prepare_once x u m c n IsInstalled = tt
  prepare_once x u m c n IsAbsent = vote_once x u m c n (vote_of x.engine u n)

  decision_once : (x : MemberState) (u m c : ℕ) (b : Bool) → Once (decision_moves x u m c b)
  decision_once x u m c true = by (standing_of x u)
    where
      by : (st : Standing) → Once (commit_moves x u m c st)
      by IsActive = tt
      by IsVoted = single_once (Install u m) (CrashMember m) (message.Ack u m c) refl refl (outcome_of x.log.armed 4)
      by IsInstalled = (λ h. refl, tt)
      by IsAbsent = tt
  decision_once x u m c false = by (standing_of x u)
    where
      by : (st : Standing) → Once (abort_moves u m st)
      by IsActive = tt
      by IsVoted = tt
      by IsInstalled = tt
      by IsAbsent = tt

  delivered_once : (s : Federation) (note : Message) → Once (arrival_moves s note) → Once (moves_of s (happening.Line (event.Deliver note)))
  delivered_once s note a = by (was_sent s.sent note)
    where
      by : (b : Bool) → Once (if b then arrival_moves s note else [])
      by true = a
      by false = tt

-- a local commit sends nothing
local_silent : (t m : ℕ) (s : Federation) (u k : ℕ) (session : Session) (up : Bool) → list_any (is_prepare t m) (sent_by (where_up up (local_commit_moves (s.member k) u k (count_at session.told k)))) ≡ false
local_silent t m s u k session up =
    false_from_ne_true _ (λ h. clash (one_tells (λ note. false) (is_prepare t m) false (λ note a b. a) _
    (where_up_passes (λ note. false) up _ (local_commit_passes (λ note. false) u k (s.member k) (count_at session.told k))) h))

-- where there is no cause nothing passes
unless_caused : (p : Message → Bool) (moves : List Move) (cause : Bool) → (list_any p (sent_by moves) ≡ true → cause ≡ true) → cause ≡ false → AtMostOnce p (sent_by moves)
unless_caused p moves cause tells e = none_once p (sent_by moves) (false_from_ne_true (list_any p (sent_by moves)) (λ h. let z : true ≡ false = sym (tells h) ∙ e in cc))

module _ (t m : ℕ) where
  vote_caused : AllCaused t (is_vote t m) (λ s h. delivers_prepare t m h)
  vote_caused s f h n = record { tells = tells; once = by h refl (delivers_prepare t m h) refl }
    where
      tells : list_any (is_vote t m) (sent_by (moves_of s h)) ≡ true → delivers_prepare t m h ≡ true
      tells = one_tells (fits t h) (is_vote t m) (delivers_prepare t m h) (from_prepare t m h) (sent_by (moves_of s h)) (event_fits t s h n)

      by : (k : Happening) → h ≡ k → (b : Bool) → delivers_prepare t m h ≡ b → AtMostOnce (is_vote t m) (sent_by (moves_of s h))
      by k q false e = unless_caused (is_vote t m) (moves_of s h) (delivers_prepare t m h) tells e
      by (happening.Line (event.Deliver (message.Prepare u c k n))) q true e =
          subst (λ j. AtMostOnce (is_vote t m) (sent_by (moves_of s j))) (sym q)
          (delivered_once (is_vote t m) s (message.Prepare u c k n) (up_once (is_vote t m) (s.member k).up _ (prepare_once (is_vote t m) (s.member k) u k c n (standing_of (s.member k) u))))
      by _ q true e = clash (sym (ap (delivers_prepare t m) q) ∙ e)

  acknowledgement_caused : AllCaused t (is_acknowledgement t m) (λ s h. delivers_decision t m h)
  acknowledgement_caused s f h n = record { tells = tells; once = by h refl (delivers_decision t m h) refl }
    where
      tells : list_any (is_acknowledgement t m) (sent_by (moves_of s h)) ≡ true → delivers_decision t m h ≡ true
      tells = one_tells (fits t h) (is_acknowledgement t m) (delivers_decision t m h) (from_decision t m h) (sent_by (moves_of s h)) (event_fits t s h n)

      by : (k : Happening) → h ≡ k → (b : Bool) → delivers_decision t m h ≡ b → AtMostOnce (is_acknowledgement t m) (sent_by (moves_of s h))
      by k q false e = unless_caused (is_acknowledgement t m) (moves_of s h) (delivers_decision t m h) tells e
      by (happening.Line (event.Deliver (message.Decide u c k b))) q true e =
          subst (λ j. AtMostOnce (is_acknowledgement t m) (sent_by (moves_of s j))) (sym q)
          (delivered_once (is_acknowledgement t m) s (message.Decide u c k b) (up_once (is_acknowledgement t m) (s.member k).up _ (decision_once (is_acknowledgement t m) (s.member k) u k c b)))
      by _ q true e = clash (sym (ap (delivers_decision t m) q) ∙ e)

  -- messages to distinct members
  none_there : (u c : ℕ) (ps : List Part) → list_any (λ j. j == m) (members_of ps) ≡ false → list_any (is_prepare t m) (sent_by (sends (prepares_to c u ps))) ≡ false
  none_there u c [] a = refl
  none_there u c (q ∷ ps) a =
      let k = or_parts (q.member == m) (list_any (λ j. j == m) (members_of ps)) a in
      or_from ((q.member == m) && (u == t)) (list_any (is_prepare t m) (sent_by (sends (prepares_to c u ps)))) (ap (λ b. b && (u == t)) k.0) (none_there u c ps k.1)

  prepares_once : (u c : ℕ) (ps : List Part) → AtMostOnce (λ j. j == m) (members_of ps) → AtMostOnce (is_prepare t m) (sent_by (sends (prepares_to c u ps)))
  prepares_once u c [] a = tt
  prepares_once u c (q ∷ ps) a = (λ e. none_there u c ps (a.0 (and_parts (q.member == m) (u == t) e).0), prepares_once u c ps a.1)

  none_decided : (u c : ℕ) (b : Bool) (ms : List ℕ) → list_any (λ j. j == m) ms ≡ false → list_any (is_decision t m) (sent_by (sends (decisions_to c u b ms))) ≡ false
  none_decided u c b [] a = refl
  none_decided u c b (j ∷ ms) a =
      let k = or_parts (j == m) (list_any (λ j. j == m) ms) a in
      or_from ((j == m) && (u == t)) (list_any (is_decision t m) (sent_by (sends (decisions_to c u b ms)))) (ap (λ z. z && (u == t)) k.0) (none_decided u c b ms k.1)

  decisions_apart : (u c : ℕ) (b : Bool) (ms : List ℕ) → AtMostOnce (λ j. j == m) ms → AtMostOnce (is_decision t m) (sent_by (sends (decisions_to c u b ms)))
  decisions_apart u c b [] a = tt
  decisions_apart u c b (j ∷ ms) a = (λ e. none_decided u c b ms (a.0 (and_parts (j == m) (u == t) e).0), decisions_apart u c b ms a.1)

  prepare_caused : AllCaused t (is_prepare t m) (λ s h. asks_commit t h)
  prepare_caused s f h n = record { tells = tells; once = by h refl (asks_commit t h) refl }
    where
      tells : list_any (is_prepare t m) (sent_by (moves_of s h)) ≡ true → asks_commit t h ≡ true
      tells = one_tells (fits t h) (is_prepare t m) (asks_commit t h) (from_commit t m h) (sent_by (moves_of s h)) (event_fits t s h n)

      at_coord : (u c : ℕ) (session : Session) (o : Option Entry) → AtMostOnce (is_prepare t m) (sent_by (commit_entry_moves (s.coord c) u c (parts_of session.told) o))
      at_coord u c session None = tt
      at_coord u c session (Some (entry.Collecting ps yeses)) = tt
      at_coord u c session (Some (entry.Committed ms acks)) = tt
      at_coord u c session (Some entry.Idle) = idle (parts_of session.told) (members_once m session.told)
        where
          stopped : (b : Bool) → AtMostOnce (is_prepare t m) (sent_by (stopped_moves (Decide u c) (CrashCoord c) b))
          stopped true = tt
          stopped false = tt

          at_once : (o : Outcome) → AtMostOnce (is_prepare t m) (sent_by (decided_at_once u c o))
          at_once Completes = tt
          at_once (StopsAt call leaves) = stopped (batch_is_stable call leaves)

          idle : (ps : List Part) → AtMostOnce (λ j. j == m) (members_of ps) → AtMostOnce (is_prepare t m) (sent_by (commit_entry_moves (s.coord c) u c ps (Some entry.Idle)))
          idle [] a = at_once (outcome_of (s.coord c).log.armed 4)
          idle (q ∷ ps) a = prepares_once u c (q ∷ ps) a

      commits : (u : ℕ) (l : Leave) → AtMostOnce (is_prepare t m) (sent_by (commit_with_moves s u l))
      commits u (Refuses a) = tt
      commits u (Grants session) = at session.by
        where
          at : (n : Node) → AtMostOnce (is_prepare t m) (sent_by (commit_at_moves s u session n))
          at (node.Coord c) = up_once (is_prepare t m) (s.coord c).up _ (at_coord u c session (look (s.coord c).table u))
          at (node.Member k) = none_once (is_prepare t m) _ (silent (s.member k).up)
            where
              silent : (up : Bool) → list_any (is_prepare t m) (sent_by (where_up up (local_commit_moves (s.member k) u k (count_at session.told k)))) ≡ false
              silent up = local_silent t m s u k session up

      by : (k : Happening) → h ≡ k → (b : Bool) → asks_commit t h ≡ b → AtMostOnce (is_prepare t m) (sent_by (moves_of s h))
      by k q false e = unless_caused (is_prepare t m) (moves_of s h) (asks_commit t h) tells e
      by (happening.Line (event.Commit u)) q true e = subst (λ j. AtMostOnce (is_prepare t m) (sent_by (moves_of s j))) (sym q) (commits u (leave_to_end (look s.sessions u)))
      by _ q true e = clash (sym (ap (asks_commit t) q) ∙ e)

  -- a yes that decides tells each participant once
  record IsDeciding (moves : List Move) : Type 0 where
    tells : list_any (is_decision t m) (sent_by moves) ≡ true → list_any (forces_decision t) moves ≡ true
    once : AtMostOnce (is_decision t m) (sent_by moves)

  nothing_decided : IsDeciding []
  nothing_decided = record { tells = λ h. clash h; once = tt }

  yes_decides : (s : Federation) → Facts s → (u k c : ℕ) → (u == t) ≡ true → (o : Option Entry) → look (s.coord c).table u ≡ o → IsDeciding (yes_moves (s.coord c) u c k o)
  yes_decides s f u k c same None e = nothing_decided
  yes_decides s f u k c same (Some entry.Idle) e = nothing_decided
  yes_decides s f u k c same (Some (entry.Committed ms acks)) e = nothing_decided
  yes_decides s f u k c same (Some (entry.Collecting parts yeses)) e = by (has_part parts k && not (has_number yeses k))
    where
      apart : AtMostOnce (λ j. j == m) (members_of parts)
      apart = subst (λ ps. AtMostOnce (λ j. j == m) (members_of ps)) (sym ((f.coords c).collecting u parts yeses e).parts_told) (members_once m (told (rest_of s) u))

      stopped : (b : Bool) → IsDeciding (stopped_moves (Decide u c) (CrashCoord c) b)
      stopped true = record { tells = λ h. clash h; once = tt }
      stopped false = record { tells = λ h. clash h; once = tt }

      written : (o : Outcome) → IsDeciding (written_moves (Decide u c) (CrashCoord c) (sends (decisions_to c u true (members_of parts))) o)
      written Completes =
          record {
            tells = λ h. or_left (u == t) (list_any (forces_decision t) (sends (decisions_to c u true (members_of parts)))) same;
            once = decisions_apart u c true (members_of parts) apart;
          }
      written (StopsAt call leaves) = stopped (batch_is_stable call leaves)

      counted : (o : Option ℕ) → IsDeciding (yes_counted_moves (s.coord c) u c k parts o)
      counted (Some j) = record { tells = λ h. clash h; once = tt }
      counted None = written (outcome_of (s.coord c).log.armed 4)

      by : (b : Bool) → IsDeciding (if b then yes_counted_moves (s.coord c) u c k parts (first_lacking (members_of parts) (k ∷ yeses)) else [])
      by true = counted (first_lacking (members_of parts) (k ∷ yeses))
      by false = nothing_decided

  yes_arrives : (s : Federation) → Facts s → (u k c : ℕ) → (u == t) ≡ true → IsDeciding (moves_of s (happening.Line (event.Deliver (message.Vote u k c true))))
  yes_arrives s f u k c same = by (was_sent s.sent (message.Vote u k c true)) (s.coord c).up
    where
      by : (b up : Bool) → IsDeciding (if b then where_up up (yes_moves (s.coord c) u c k (look (s.coord c).table u)) else [])
      by true true = yes_decides s f u k c same (look (s.coord c).table u) refl
      by true false = nothing_decided
      by false up = nothing_decided

  decision_caused : AllCaused t (is_decision t m) (decides_here t)
  decision_caused s f h n = by h refl (delivers_yes t h) refl
    where
      none : delivers_yes t h ≡ false → list_any (is_decision t m) (sent_by (moves_of s h)) ≡ false
      none e =
          false_from_ne_true (list_any (is_decision t m) (sent_by (moves_of s h)))
          (λ a. let z : true ≡ false = sym (one_tells (fits t h) (is_decision t m) (delivers_yes t h) (from_yes t m h) (sent_by (moves_of s h)) (event_fits t s h n) a) ∙ e in cc)

      by : (k : Happening) → h ≡ k → (b : Bool) → delivers_yes t h ≡ b → IsCaused t (is_decision t m) (decides_here t) s h
      by k q false e = record { tells = λ a. clash (sym (none e) ∙ a); once = none_once (is_decision t m) (sent_by (moves_of s h)) (none e) }
      by (happening.Line (event.Deliver (message.Vote u k c true))) q true e =
          let d = yes_arrives s f u k c (sym (ap (delivers_yes t) q) ∙ e) in
          subst (IsCaused t (is_decision t m) (decides_here t) s) (sym q) (record { tells = d.tells; once = d.once })
      by _ q true e = clash (sym (ap (delivers_yes t) q) ∙ e)

  no_questions : (hs : List Happening) (s : Federation) → Facts s → AreTrueVerdicts hs s → list_any (mends t) hs ≡ false → list_any (is_question t m) (sent_along hs s) ≡ false
  no_questions [] s f v n = refl
  no_questions (h ∷ hs) s f v n =
      let k = or_parts (mends t h) (list_any (mends t) hs) n in
      list_any-append (is_question t m) (sent_by (moves_of s h)) (sent_along hs (step s h).state)
      ∙ or_from (list_any (is_question t m) (sent_by (moves_of s h))) (list_any (is_question t m) (sent_along hs (step s h).state))
      (false_from_ne_true (list_any (is_question t m) (sent_by (moves_of s h)))
      (λ a. clash (one_tells (fits t h) (is_question t m) false (from_nowhere t m h) (sent_by (moves_of s h)) (event_fits t s h k.0) a)))
      (no_questions hs (step s h).state (step_keeps s f h v.0) v.1 k.1)

  four : (hs : List Happening) (s : Federation) → Facts s → AreTrueVerdicts hs s → IsWithoutLoss t hs → AreFour t m (sent_along hs s)
  four hs s f v w =
      record {
        prepares = caused_once t (is_prepare t m) (λ s h. asks_commit t h) prepare_caused hs s f v w.unmended (causes_once (asks_commit t) t (is_prepare t m) hs s w.asked);
        votes = caused_once t (is_vote t m) (λ s h. delivers_prepare t m h) vote_caused hs s f v w.unmended (causes_once (delivers_prepare t m) t (is_vote t m) hs s (w.prepares m));
        decisions = caused_once t (is_decision t m) (decides_here t) decision_caused hs s f v w.unmended (decided_once_along t (is_decision t m) hs s (decisions_once t hs s f v));
        acknowledgements =
            caused_once t (is_acknowledgement t m) (λ s h. delivers_decision t m h) acknowledgement_caused hs s f v w.unmended
            (causes_once (delivers_decision t m) t (is_acknowledgement t m) hs s (w.decisions m));
        questions = no_questions hs s f v w.unmended;
      }

pub four_messages : (kinds : List Kind) (coords : ℕ) (fm fc : ℕ → Found) (hs : List Happening) (t m : ℕ) → AreOpenable kinds coords fm fc →
    AreTrueVerdicts hs (opened kinds coords fm fc) → IsWithoutLoss t hs → AreFour t m (messages_in (items_along hs (opened kinds coords fm fc)))
four_messages kinds coords fm fc hs t m g v w =
    let s = opened kinds coords fm fc in
    let f = start_facts kinds coords fm fc g in
    subst (AreFour t m) (sym (items_send hs s f v)) (four t m hs s f v w)
