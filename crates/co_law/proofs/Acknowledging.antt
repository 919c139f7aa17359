-- An event that answers `committed` decides its transaction.
use Rattle.std.proofs.Common.{◌≡◌, ◌⊎◌, inl, inr, ℕ, Bool, true, false, not, ◌&&◌, ◌==◌, if◌then◌else◌, List, [], ◌∷◌, ◌++◌, map, Option, None, Some, refl, sym, ap, ◌∙◌, subst}
use Rattle.std.proofs.lemmas.Bool.{or_cases, or_left, and_parts, eqb-true, eq-eqb}
use Rattle.co_base.specs.declared.mark.Mark.{Mark}
use Rattle.co_base.specs.declared.node.Node.{Node}
use Rattle.co_base.specs.declared.node.Node.TheVariants as node
use Rattle.co_base.specs.declared.part.Part.{Part}
use Rattle.co_message.specs.declared.answer.Answer.{Answer}
use Rattle.co_message.specs.declared.answer.Answer.TheVariants as answer
use Rattle.co_message.specs.declared.answer.Cause.TheVariants as cause
use Rattle.co_message.specs.declared.event.Event.{Event}
use Rattle.co_message.specs.declared.event.Event.TheVariants as event
use Rattle.co_message.specs.declared.item.ItemKind.TheVariants as item
use Rattle.co_message.specs.declared.message.Message.{Message}
use Rattle.co_message.specs.declared.message.Message.TheVariants as message
use Rattle.co_record.specs.declared.record.Record.TheVariants as log
use Rattle.co_state.specs.declared.verdict.Verdict.{Verdict}
use Rattle.co_state.specs.declared.verdict.Verdict.TheVariants.{LostOperations, StaleRead, HeldBy, VoteYes}
use Rattle.co_state.specs.Table.{Table, look, put, without}
use Rattle.co_state.specs.VotingRule.{vote_of}
use Rattle.co_plain.specs.declared.coord_state.Entry.{Entry}
use Rattle.co_plain.specs.declared.coord_state.Entry.TheVariants as entry
use Rattle.co_plain.specs.declared.happening.Happening.{Happening}
use Rattle.co_plain.specs.declared.happening.Happening.TheVariants as happening
use Rattle.co_plain.specs.declared.outcome.Outcome.{Outcome}
use Rattle.co_plain.specs.declared.outcome.Outcome.TheVariants.{Completes, StopsAt}
use Rattle.co_plain.specs.declared.session.Session.{Session}
use Rattle.co_plain.specs.Numbers.{first_lacking, has_number}
use Rattle.co_plain.specs.LogWrite.{marks_of, outcome_of}
use Rattle.co_frame.specs.Gate.{batch_is_stable}
use Rattle.co_plain.specs.MemberStep.{says, stopped_member, forced_by}
use Rattle.co_plain.specs.LocalCommit.{local_commit_by, member_local_commit}
use Rattle.co_plain.specs.CoordStep.{with_table, has_part, members_of, stopped_coord, coord_forced_by}
use Rattle.co_plain.specs.Coordinator.{decisions_to, ask_commit, commit_entry, coord_commit, decided_by, yes_entry, waits, no_entry, aborts, coord_vote}
use Rattle.co_plain.specs.Sessions.{Refuses, Grants, leave_to_end, parts_of, count_at, asked_to_end}
use Rattle.co_plain.specs.Wire.{was_sent}
use Rattle.co_plain.specs.Federation.{Federation, Stepped, items_of, answers, at_coord, at_member, decide_all}
use Rattle.co_plain.specs.Step.{coord_answers, local_answers, marked_asked, is_stopped, is_held, commit_at, commit_with, arrives, deliver, up_coord, step}
use Rattle.co_plain.specs.Runs.{run}
use Rattle.co_plain.specs.Decisions.{is_decided}
use Rattle.co_plain.specs.Promises.{says_committed, is_about, asks_for, is_acknowledged}
use Rattle.co_law_base.proofs.Facts.{rest_of, by_coord, Facts}
use Rattle.co_plain.specs.Premises.{AreTrueVerdicts}
use Rattle.co_law_moves.proofs.Marks.{aborts_quiet, ends_quiet, commit_marks}
use Rattle.co_law_moves.proofs.CoordMade.{decides_there}
use Rattle.co_law_moves.proofs.ClientMade.{by_there}
use Rattle.co_law_moves.proofs.LocalMade.{decided_alone, batch_alone, decides_alone}
use Rattle.co_law_moves.proofs.Steps.{step_keeps}
use Rattle.co_law_moves.proofs.Growing.{run_grows}

-- the answer alone says it
says_sent : (messages : List Message) (a : Answer) → says_committed (map item.Sent messages ++ item.Answered a ∷ []) ≡ says_committed (item.Answered a ∷ [])
says_sent [] a = refl
says_sent (m ∷ ms) a = says_sent ms a

says_all : (marks : List Mark) (messages : List Message) (a : Answer) → says_committed (items_of marks messages a) ≡ says_committed (item.Answered a ∷ [])
says_all [] messages a = says_sent messages a
says_all (m ∷ ms) messages a = says_all ms messages a

unsaid : {A : Type 0} → false ≡ true → A
unsaid h = absurd (let z : false ≡ true = h in cc)

abbrev Acknowledges : ℕ → Stepped → Type 0
Acknowledges t did = says_committed did.items ≡ true → is_decided did.state.decided t ≡ true

-- a coordinator's commit record decides
coord_decides : (s : Federation) → Facts s → (sessions : Table Session) (c t : ℕ) (members : List ℕ) → by_coord (look sessions t) c ≡ true →
    is_decided (decide_all sessions s.decided (marks_of (node.Coord c) (log.Commit t members ∷ (s.coord c).log.waiting))) t ≡ true
coord_decides s f sessions c t members mine =
    ap (λ ds. is_decided ds t)
    (commit_marks sessions (node.Coord c) s.decided t members (s.coord c).log.waiting (ends_quiet sessions (node.Coord c) (s.coord c).log.waiting (f.coords c).ends)
    ∙ decides_there (look sessions t) c t s.decided mine)
    ∙ or_left (t == t) (is_decided s.decided t) (eq-eqb t t refl)

module _ (s : Federation) (f : Facts s) (t c : ℕ) (session : Session) (e : look s.sessions t ≡ Some session) (mine : session.by ≡ node.Coord c) where
  nothing_done : (o : Outcome) →
      Acknowledges t (at_coord (marked_asked s t session (not (is_stopped (coord_forced_by c (with_table (s.coord c) (without (s.coord c).table t)) (log.Commit t [] ∷ []) answer.Committed [] o).answer))) c
      (coord_forced_by c (with_table (s.coord c) (without (s.coord c).table t)) (log.Commit t [] ∷ []) answer.Committed [] o))
  nothing_done Completes h = coord_decides s f (put s.sessions t (asked_to_end session)) c t [] (by_there s t c session mine)
  nothing_done (StopsAt call leaves) h = by (batch_is_stable call leaves) h
    where
      by : (b : Bool) → Acknowledges t (at_coord (marked_asked s t session (not (is_stopped (stopped_coord c (with_table (s.coord c) (without (s.coord c).table t)) call b (log.Commit t [] ∷ [])).answer))) c
          (stopped_coord c (with_table (s.coord c) (without (s.coord c).table t)) call b (log.Commit t [] ∷ [])))
      by true h = unsaid (sym (says_all (marks_of (node.Coord c) (log.Commit t [] ∷ (s.coord c).log.waiting)) [] (answer.Stopped call)) ∙ h)
      by false h = unsaid h

  asks : (ps : List Part) → Acknowledges t (at_coord (marked_asked s t session (not (is_stopped (ask_commit c (s.coord c) t ps).answer))) c (ask_commit c (s.coord c) t ps))
  asks [] h = nothing_done (outcome_of (s.coord c).log.armed 4) h
  asks (p ∷ ps) h = unsaid (sym (says_sent (ask_commit c (s.coord c) t (p ∷ ps)).sent (answer.Waiting p.member)) ∙ h)

  at_coordinator : (o : Option Entry) → Acknowledges t (at_coord (marked_asked s t session (not (is_stopped (commit_entry c (s.coord c) t (parts_of session.told) o).answer))) c (commit_entry c (s.coord c) t (parts_of session.told) o))
  at_coordinator None h = unsaid h
  at_coordinator (Some entry.Idle) h = asks (parts_of session.told) h
  at_coordinator (Some (entry.Collecting parts yeses)) h = unsaid h
  at_coordinator (Some (entry.Committed members acks)) h = unsaid h

module _ (s : Federation) (f : Facts s) (t m : ℕ) (session : Session) (e : look s.sessions t ≡ Some session) (mine : session.by ≡ node.Member m) (unasked : session.asked ≡ false) where
  forced_local : (o : Outcome) → Acknowledges t (at_member (marked_asked s t session (not (is_held (forced_by m (decided_alone (s.member m) t (count_at session.told m)) (batch_alone (s.member m) t (count_at session.told m)) answer.Committed None o).answer))) m
      (forced_by m (decided_alone (s.member m) t (count_at session.told m)) (batch_alone (s.member m) t (count_at session.told m)) answer.Committed None o))
  forced_local Completes h = ap (λ ds. is_decided ds t) (decides_alone s t m session mine (aborts_quiet (rest_of s) (put s.sessions t (asked_to_end session)) (node.Member m) (s.member m).log.waiting (f.members m).waiting)) ∙ or_left (t == t) (is_decided s.decided t) (eq-eqb t t refl)
  forced_local (StopsAt call leaves) h = by (batch_is_stable call leaves) h
    where
      by : (b : Bool) → Acknowledges t (at_member (marked_asked s t session (not (is_held (stopped_member m (decided_alone (s.member m) t (count_at session.told m)) call b (batch_alone (s.member m) t (count_at session.told m))).answer))) m
          (stopped_member m (decided_alone (s.member m) t (count_at session.told m)) call b (batch_alone (s.member m) t (count_at session.told m))))
      by true h = unsaid (sym (says_all (marks_of (node.Member m) (batch_alone (s.member m) t (count_at session.told m) ++ (s.member m).log.waiting)) [] (answer.Stopped call)) ∙ h)
      by false h = unsaid h

  by_verdict : (v : Verdict) → Acknowledges t (at_member (marked_asked s t session (not (is_held (local_commit_by m (s.member m) t (count_at session.told m) v).answer))) m (local_commit_by m (s.member m) t (count_at session.told m) v))
  by_verdict LostOperations h = unsaid h
  by_verdict (StaleRead key) h = unsaid h
  by_verdict (HeldBy u) h = unsaid h
  by_verdict VoteYes h = forced_local (outcome_of (s.member m).log.armed 4) h

  at_member' : (b : Bool) → Acknowledges t (at_member (marked_asked s t session (not (is_held (if b then says (s.member m) answer.Absent else local_commit_by m (s.member m) t (count_at session.told m) (vote_of (s.member m).engine t (count_at session.told m))).answer))) m
      (if b then says (s.member m) answer.Absent else local_commit_by m (s.member m) t (count_at session.told m) (vote_of (s.member m).engine t (count_at session.told m))))
  at_member' true h = unsaid h
  at_member' false h = by_verdict (vote_of (s.member m).engine t (count_at session.told m)) h

module _ (s : Federation) (f : Facts s) where
  commits_at : (t : ℕ) (session : Session) → look s.sessions t ≡ Some session → session.asked ≡ false → (at : Node) → session.by ≡ at → Acknowledges t (commit_at s t session at)
  commits_at t session e a (node.Coord c) b = by (s.coord c).up
    where
      by : (up : Bool) → Acknowledges t (coord_answers s t session c up (coord_commit c (s.coord c) t (parts_of session.told)))
      by true h = at_coordinator s f t c session e b (look (s.coord c).table t) h
      by false h = unsaid h
  commits_at t session e a (node.Member m) b = by (s.member m).up
    where
      by : (up : Bool) → Acknowledges t (local_answers s t session m up (member_local_commit m (s.member m) t (count_at session.told m)))
      by true h = at_member' s f t m session e b a (count_at session.told m == 0) h
      by false h = unsaid h

  commits : (t : ℕ) → Acknowledges t (commit_with s t (leave_to_end (look s.sessions t)))
  commits t = by (look s.sessions t) refl
    where
      asked : (session : Session) → look s.sessions t ≡ Some session → (b : Bool) → session.asked ≡ b → Acknowledges t (commit_with s t (if b then Refuses answer.Asked else Grants session))
      asked session e true a h = unsaid h
      asked session e false a h = commits_at t session e a session.by refl h

      by : (z : Option Session) → look s.sessions t ≡ z → Acknowledges t (commit_with s t (leave_to_end z))
      by None e h = unsaid h
      by (Some session) e h = asked session e session.asked refl h

  module _ (t m c : ℕ) where
    forced_yes : (parts : List Part) → by_coord (look s.sessions t) c ≡ true → (o : Outcome) →
        Acknowledges t (at_coord s c (coord_forced_by c (with_table (s.coord c) (put (s.coord c).table t (entry.Committed (members_of parts) []))) (log.Commit t (members_of parts) ∷ []) answer.Committed (decisions_to c t true (members_of parts)) o))
    forced_yes parts mine Completes h = coord_decides s f s.sessions c t (members_of parts) mine
    forced_yes parts mine (StopsAt call leaves) h = by (batch_is_stable call leaves) h
      where
        by : (b : Bool) → Acknowledges t (at_coord s c (stopped_coord c (with_table (s.coord c) (put (s.coord c).table t (entry.Committed (members_of parts) []))) call b (log.Commit t (members_of parts) ∷ [])))
        by true h = unsaid (sym (says_all (marks_of (node.Coord c) (log.Commit t (members_of parts) ∷ (s.coord c).log.waiting)) [] (answer.Stopped call)) ∙ h)
        by false h = unsaid h

    lacking : (parts : List Part) (yeses : List ℕ) → by_coord (look s.sessions t) c ≡ true → (o : Option ℕ) → Acknowledges t (at_coord s c (decided_by c (s.coord c) t parts yeses o))
    lacking parts yeses mine (Some k) h = unsaid h
    lacking parts yeses mine None h = forced_yes parts mine (outcome_of (s.coord c).log.armed 4) h

    counted' : (parts : List Part) (yeses : List ℕ) → by_coord (look s.sessions t) c ≡ true → (b : Bool) →
        Acknowledges t (at_coord s c (if b then decided_by c (s.coord c) t parts (m ∷ yeses) (first_lacking (members_of parts) (m ∷ yeses)) else waits (s.coord c) parts yeses))
    counted' parts yeses mine true h = lacking parts (m ∷ yeses) mine (first_lacking (members_of parts) (m ∷ yeses)) h
    counted' parts yeses mine false h = unsaid h

    yes' : (o : Option Entry) → look (s.coord c).table t ≡ o → Acknowledges t (at_coord s c (yes_entry c (s.coord c) t m o))
    yes' None e h = unsaid h
    yes' (Some entry.Idle) e h = unsaid h
    yes' (Some (entry.Committed members acks)) e h = unsaid h
    yes' (Some (entry.Collecting parts yeses)) e h = counted' parts yeses ((f.coords c).collecting t parts yeses e).still.begun_there (has_part parts m && not (has_number yeses m)) h

    no' : (o : Option Entry) → Acknowledges t (at_coord s c (no_entry c (s.coord c) t m o))
    no' None h = unsaid h
    no' (Some entry.Idle) h = unsaid h
    no' (Some (entry.Committed members acks)) h = unsaid h
    no' (Some (entry.Collecting parts yeses)) h = by (has_part parts m) h
      where
        by : (b : Bool) → Acknowledges t (at_coord s c (if b then aborts c (s.coord c) t cause.Vote parts else waits (s.coord c) parts yeses))
        by true h = unsaid (sym (says_sent (decisions_to c t false (members_of parts)) (answer.Aborted cause.Vote)) ∙ h)
        by false h = unsaid h

    vote' : (granted : Bool) → Acknowledges t (at_coord s c (coord_vote c (s.coord c) t m granted))
    vote' true h = yes' (look (s.coord c).table t) refl h
    vote' false h = no' (look (s.coord c).table t) h

    up' : (granted up : Bool) → Acknowledges t (up_coord s c up (coord_vote c (s.coord c) t m granted))
    up' granted true h = vote' granted h
    up' granted false h = unsaid h

  delivered : (t m c : ℕ) (granted b : Bool) → Acknowledges t (if b then arrives s (message.Vote t m c granted) else answers s answer.Unsent)
  delivered t m c granted true h = up' t m c granted (s.coord c).up h
  delivered t m c granted false h = unsaid h

  noted_ack : (note : Message) (t : ℕ) → asks_for (event.Deliver note) t ≡ true → Acknowledges t (deliver s note)
  noted_ack (message.Vote u m c granted) t a h =
      subst (λ k. is_decided (deliver s (message.Vote u m c granted)).state.decided k ≡ true) (eqb-true u t a)
      (delivered u m c granted (was_sent s.sent (message.Vote u m c granted)) h)
  noted_ack _ t a h = unsaid a

  line_ack : (e : Event) (t : ℕ) → asks_for e t ≡ true → Acknowledges t (step s (happening.Line e))
  line_ack (event.Commit u) t a h = subst (λ k. is_decided (step s (happening.Line (event.Commit u))).state.decided k ≡ true) (eqb-true u t a) (commits u h)
  line_ack (event.Deliver note) t a h = noted_ack note t a h
  line_ack _ t a h = unsaid a

  pub step_ack : (h : Happening) (t : ℕ) → is_about h t ≡ true → Acknowledges t (step s h)
  step_ack (happening.Line e) t a h = line_ack e t a h
  step_ack _ t a h = unsaid a

-- every acknowledged transaction is decided
pub run_ack : (hs : List Happening) (s : Federation) → Facts s → AreTrueVerdicts hs s → (t : ℕ) → is_acknowledged s hs t ≡ true → is_decided (run hs s).decided t ≡ true
run_ack [] s f v t a = unsaid a
run_ack (h ∷ hs) s f v t a =
    by (run_ack hs (step s h).state (step_keeps s f h v.0) v.1 t) (or_cases (is_about h t && says_committed (step s h).items) (is_acknowledged (step s h).state hs t) a)
  where
    by : (is_acknowledged (step s h).state hs t ≡ true → is_decided (run hs (step s h).state).decided t ≡ true) →
        ((is_about h t && says_committed (step s h).items) ≡ true) ⊎ (is_acknowledged (step s h).state hs t ≡ true) → is_decided (run hs (step s h).state).decided t ≡ true
    by rest (inr k) = rest k
    by rest (inl k) =
        let p = and_parts (is_about h t) (says_committed (step s h).items) k in
        (run_grows hs (step s h).state).decided t (step_ack s f h t p.0 p.1)
