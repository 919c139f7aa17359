-- Every message of a run of lines over fresh logs is for nodes of the head.
use Rattle.std.proofs.Common.{◌≡◌, ◌⊎◌, inl, inr, ℕ, Bool, true, false, not, ◌==◌, if◌then◌else◌, List, [], ◌∷◌, Option, None, Some, refl, sym, ap, ◌∙◌, subst}
use Rattle.std.proofs.lemmas.Bool.{or_left, or_right, eq-eqb}
use Rattle.std.specs.List.{AllByRecursion}
use Rattle.co_base.specs.declared.leaves.Leaves.{Leaves}
use Rattle.co_base.specs.declared.node.Node.{Node}
use Rattle.co_base.specs.declared.node.Node.TheVariants as node
use Rattle.co_base.specs.declared.op.Op.{Op}
use Rattle.co_base.specs.declared.part.Part.{Part}
use Rattle.co_base.specs.declared.op.Op.TheVariants as op
use Rattle.co_base.specs.declared.reply.Reply.{Reply}
use Rattle.co_message.specs.declared.answer.Answer.{Answer}
use Rattle.co_message.specs.declared.answer.Answer.TheVariants as answer
use Rattle.co_message.specs.declared.event.Event.{Event}
use Rattle.co_message.specs.declared.event.Event.TheVariants as event
use Rattle.co_message.specs.declared.message.Message.{Message}
use Rattle.co_message.specs.declared.message.Message.TheVariants as message
use Rattle.co_state.specs.Table.{look}
use Rattle.co_plain.specs.declared.coord_state.Entry.{Entry}
use Rattle.co_plain.specs.declared.coord_state.Entry.TheVariants as entry
use Rattle.co_plain.specs.declared.coord_step.CoordStep.{CoordStep}
use Rattle.co_plain.specs.declared.member_step.MemberStep.{MemberStep}
use Rattle.co_plain.specs.declared.session.Session.{Session}
use Rattle.co_plain.specs.CoordStep.{has_part, members_of}
use Rattle.co_plain.specs.Member.{member_op, member_deliver, member_vote, member_timer, member_ask}
use Rattle.co_plain.specs.MemberLog.{member_checkpoint, member_crash, member_restart, member_arm}
use Rattle.co_plain.specs.LocalCommit.{member_local_commit, member_local_abort}
use Rattle.co_plain.specs.Coordinator.{coord_begin, coord_commit, coord_abort, coord_deliver, coord_timer, coord_resend}
use Rattle.co_plain.specs.CoordLog.{coord_checkpoint, coord_crash, coord_restart, coord_arm}
use Rattle.co_plain.specs.Invariants.{Memory}
use Rattle.co_plain.specs.Sessions.{Leave, Refuses, Grants, leave_to_visit, leave_to_end, parts_of, count_at, begun_by}
use Rattle.co_plain.specs.Wire.{was_sent, send_one, send_all}
use Rattle.co_plain.specs.Federation.{Federation, Stepped, answers, at_member, at_coord, with_session, message_list}
use Rattle.co_plain.specs.Step.{up_member, up_coord, is_used, begin_where, local_where, entered, operated, operate_with, marked_asked, coord_answers, local_answers, commit_at, commit_with, abort_at, abort_with, arrives, timer_at, crash_at, restart_at, arm_at, checkpoint_at, reply_in, is_stopped, is_held, step_line}
use Rattle.co_schedule.specs.View.{IsEventFor}
use Rattle.co_law_base.proofs.Sending.{send_cases, parts_told}
use Rattle.co_law_node.proofs.AllowedCommits.{commits_from, unended_up}
use Rattle.co_law_node.specs.WholeCoords.{IsWholeCoord, FitsRecords, commits_of}
use Rattle.co_plain.specs.Numbers.{IsAmong}
use Rattle.co_law_runs.proofs.Fitting.{FitSessions}
use Rattle.co_law.proofs.NodeRuns.{MayAct, end_acts}
use Rattle.co_trial.proofs.InHead.{InHead}
use Rattle.co_trial.proofs.MemberSends.{MemberSends, quiet, sends_prepare, sends_decision, sends_vote, sends_question, quiet_timer, quiet_operation, quiet_commit, quiet_abort, quiet_restart, quiet_checkpoint}
use Rattle.co_trial.proofs.CoordSends.{CoordSends, AreMembers, members_up, EntryFits, sends_commit, sends_abort, sends_counted, sends_answer, sends_acknowledged, sends_timer, sends_again, sends_restart, sends_checkpoint}

-- participants are members where each of them is
each_member : (n : ℕ) (ps : List Part) → ((m : ℕ) → has_part ps m ≡ true → IsAmong m n) → AreMembers n (members_of ps)
each_member n [] h = tt
each_member n (p ∷ ps) h =
    (h p.member (or_left (p.member == p.member) (has_part ps p.member) (eq-eqb p.member p.member refl)), each_member n ps (λ m q. h m (or_right (p.member == m) (has_part ps m) q)))

-- Every message that was sent is for nodes of the head.
abbrev pub AreInHead : ℕ → ℕ → Federation → Type 0
AreInHead n k s = (note : Message) → was_sent s.sent note ≡ true → InHead n k note

-- What a state is, that its steps send to nodes of the head alone.
pub record IsHeaded (n k : ℕ) (s : Federation) : Type 0 where
  pub sent : AreInHead n k s
  pub decisions : (t c m : ℕ) (commit : Bool) → was_sent s.sent (message.Decide t c m commit) ≡ true → IsAmong c k
  pub sessions : FitSessions n k s.sessions
  pub coord : (c : ℕ) → IsWholeCoord n (s.coord c)

-- what is sent was sent before, or is among what is sent now
all_cases : (P : Message → Type 0) (notes sent : List Message) → AllByRecursion P notes → (note : Message) → was_sent (send_all sent notes) note ≡ true → (was_sent sent note ≡ true) ⊎ P note
all_cases P [] sent h note e = inl e
all_cases P (n ∷ ns) sent h note e = by (all_cases P ns (send_one sent n) h.1 note e)
  where
    now : (n ≡ note) ⊎ (was_sent sent note ≡ true) → (was_sent sent note ≡ true) ⊎ P note
    now (inl same) = inr (subst P same h.0)
    now (inr k) = inl k

    by : (was_sent (send_one sent n) note ≡ true) ⊎ P note → (was_sent sent note ≡ true) ⊎ P note
    by (inl k) = now (send_cases sent n note k)
    by (inr p) = inr p

module _ (n k : ℕ) (s : Federation) (head : IsHeaded n k s) where
  -- the tables name members
  tabled : (c t : ℕ) (e : Entry) → look (s.coord c).table t ≡ Some e → EntryFits n e
  tabled c t e is = by e ((head.coord c).fits t e is)
    where
      by : (e : Entry) → FitsRecords n (commits_of Memory (s.coord c)) t e → EntryFits n e
      by entry.Idle h = tt
      by (entry.Collecting parts yeses) h = members_up n (members_of parts) h.1.1
      by (entry.Committed ms acks) h = members_up n ms (unended_up n (commits_of Memory (s.coord c)) (commits_from n (commits_of Memory (s.coord c)) ((head.coord c).readable Memory)) t ms h)

  -- and so do the participants of a session
  taking : (t : ℕ) (session : Session) → MayAct (look s.sessions t) session → AreMembers n (members_of (parts_of session.told))
  taking t session a = each_member n (parts_of session.told) (λ m h. (head.sessions t session a.begun).sites m (parts_told session.told m h))

  -- what a step leaves sent is for nodes of the head
  abbrev Named : Stepped → Type 0
  Named d = (note : Message) → was_sent d.state.sent note ≡ true → InHead n k note

  still : (z : Federation) → z.sent ≡ s.sent → (a : Answer) → Named (answers z a)
  still z e a note h = head.sent note (ap (λ sent. was_sent sent note) (sym e) ∙ h)

  of_notes : (notes sent : List Message) → sent ≡ s.sent → AllByRecursion (InHead n k) notes → (note : Message) → was_sent (send_all sent notes) note ≡ true → InHead n k note
  of_notes notes sent e h note went = by (all_cases (InHead n k) notes sent h note went)
    where
      by : (was_sent sent note ≡ true) ⊎ InHead n k note → InHead n k note
      by (inl q) = head.sent note (ap (λ l. was_sent l note) (sym e) ∙ q)
      by (inr p) = p

  listed : (o : Option Message) → ((note : Message) → o ≡ Some note → InHead n k note) → AllByRecursion (InHead n k) (message_list o)
  listed None h = tt
  listed (Some note) h = (h note refl, tt)

  at_m : (z : Federation) → z.sent ≡ s.sent → (m : ℕ) (did : MemberStep) → MemberSends n k did → Named (at_member z m did)
  at_m z e m did h note went = of_notes (message_list did.sent) z.sent e (listed did.sent h) note went

  at_c : (z : Federation) → z.sent ≡ s.sent → (c : ℕ) (did : CoordStep) → CoordSends n k did → Named (at_coord z c did)
  at_c z e c did h note went = of_notes did.sent z.sent e h note went

  of_member : (m : ℕ) (up : Bool) (did : MemberStep) → MemberSends n k did → Named (up_member s m up did)
  of_member m true did h = at_m s refl m did h
  of_member m false did h = still s refl (answer.Down (node.Member m))

  of_coord : (c : ℕ) (up : Bool) (did : CoordStep) → CoordSends n k did → Named (up_coord s c up did)
  of_coord c true did h = at_c s refl c did h
  of_coord c false did h = still s refl (answer.Down (node.Coord c))

  begins : (t c : ℕ) (used up : Bool) → Named (begin_where s t c used up)
  begins t c true up = still s refl answer.Used
  begins t c false true = at_c (with_session s t (begun_by (node.Coord c))) refl c (coord_begin (s.coord c) t) tt
  begins t c false false = still s refl (answer.Down (node.Coord c))

  begins_local : (t m : ℕ) (used up : Bool) → Named (local_where s t m used up)
  begins_local t m true up = still s refl answer.Used
  begins_local t m false true = still (with_session s t (begun_by (node.Member m))) refl answer.Begun
  begins_local t m false false = still s refl (answer.Down (node.Member m))

  entered_sent : (t : ℕ) (session : Session) (m : ℕ) (o : Op) (reply : Option Reply) → (entered s t session m o reply).sent ≡ s.sent
  entered_sent t session m o None = refl
  entered_sent t session m o (Some reply) = refl

  asked_sent : (t : ℕ) (session : Session) (b : Bool) → (marked_asked s t session b).sent ≡ s.sent
  asked_sent t session true = refl
  asked_sent t session false = refl

  operation : (t m : ℕ) (o : Op) (leave : Leave) → Named (operate_with s t m o leave)
  operation t m o (Refuses a) = still s refl a
  operation t m o (Grants session) = by (s.member m).up
    where
      did : MemberStep
      did = member_op (s.member m) t (count_at session.told m) o

      by : (up : Bool) → Named (operated s t session m o up did)
      by true = at_m (entered s t session m o (reply_in did.answer)) (entered_sent t session m o (reply_in did.answer)) m did (quiet_operation n k (s.member m) t (count_at session.told m) o)
      by false = still s refl (answer.Down (node.Member m))

  answers_c : (t : ℕ) (session : Session) (c : ℕ) (up : Bool) (did : CoordStep) → CoordSends n k did → Named (coord_answers s t session c up did)
  answers_c t session c true did h = at_c (marked_asked s t session (not (is_stopped did.answer))) (asked_sent t session (not (is_stopped did.answer))) c did h
  answers_c t session c false did h = still s refl (answer.Down (node.Coord c))

  answers_m : (t : ℕ) (session : Session) (m : ℕ) (up : Bool) (did : MemberStep) → MemberSends n k did → Named (local_answers s t session m up did)
  answers_m t session m true did h = at_m (marked_asked s t session (not (is_held did.answer))) (asked_sent t session (not (is_held did.answer))) m did h
  answers_m t session m false did h = still s refl (answer.Down (node.Member m))

  commits : (t : ℕ) (leave : Leave) → leave_to_end (look s.sessions t) ≡ leave → Named (commit_with s t leave)
  commits t (Refuses a) e = still s refl a
  commits t (Grants session) e = by session.by
    where
      by : (at : Node) → Named (commit_at s t session at)
      by (node.Coord c) = answers_c t session c (s.coord c).up (coord_commit c (s.coord c) t (parts_of session.told)) (sends_commit n k c (s.coord c) (tabled c) t (parts_of session.told) (taking t session (end_acts (look s.sessions t) session e)))
      by (node.Member m) = answers_m t session m (s.member m).up (member_local_commit m (s.member m) t (count_at session.told m)) (quiet_commit n k (s.member m) m t (count_at session.told m))

  ends : (t : ℕ) (leave : Leave) → leave_to_end (look s.sessions t) ≡ leave → Named (abort_with s t leave)
  ends t (Refuses a) e = still s refl a
  ends t (Grants session) e = by session.by
    where
      by : (at : Node) → Named (abort_at s t session at)
      by (node.Coord c) = answers_c t session c (s.coord c).up (coord_abort c (s.coord c) t (parts_of session.told)) (sends_abort n k c (s.coord c) (tabled c) t (parts_of session.told) (taking t session (end_acts (look s.sessions t) session e)))
      by (node.Member m) = answers_m t session m (s.member m).up (member_local_abort (s.member m) t) (quiet_abort n k (s.member m) t)

  arrival : (note : Message) → was_sent s.sent note ≡ true → Named (arrives s note)
  arrival (message.Prepare t c m count) h = of_member m (s.member m).up (member_deliver m (s.member m) (message.Prepare t c m count)) (sends_prepare n k m (head.sent (message.Prepare t c m count) h) (s.member m) t c count)
  arrival (message.Decide t c m commit) h =
      of_member m (s.member m).up (member_deliver m (s.member m) (message.Decide t c m commit)) (sends_decision n k m (head.sent (message.Decide t c m commit) h) (s.member m) t c commit (head.sent (message.Decide t c m commit) h, head.decisions t c m commit h))
  arrival (message.Vote t m c granted) h = of_coord c (s.coord c).up (coord_deliver c (s.coord c) (message.Vote t m c granted)) (sends_counted n k c (s.coord c) (tabled c) t m granted)
  arrival (message.Ask t m c) h = of_coord c (s.coord c).up (coord_deliver c (s.coord c) (message.Ask t m c)) (sends_answer n k c (s.coord c) (tabled c) t m (head.sent (message.Ask t m c) h))
  arrival (message.Ack t m c) h = of_coord c (s.coord c).up (coord_deliver c (s.coord c) (message.Ack t m c)) (sends_acknowledged n k c (s.coord c) (tabled c) t m)

  delivers : (note : Message) (b : Bool) → was_sent s.sent note ≡ b → Named (if b then arrives s note else answers s answer.Unsent)
  delivers note true h = arrival note h
  delivers note false h = still s refl answer.Unsent

  timer : (t : ℕ) (at : Node) → Named (timer_at s t at)
  timer t (node.Member m) = of_member m (s.member m).up (member_timer (s.member m) t) (quiet_timer n k (s.member m) t)
  timer t (node.Coord c) = of_coord c (s.coord c).up (coord_timer c (s.coord c) t) (sends_timer n k c (s.coord c) (tabled c) t)

  crash : (at : Node) → Named (crash_at s at)
  crash (node.Member m) = of_member m (s.member m).up (member_crash (s.member m)) (quiet n k (member_crash (s.member m)) refl)
  crash (node.Coord c) = of_coord c (s.coord c).up (coord_crash (s.coord c)) tt

  restart : (at : Node) → Named (restart_at s at)
  restart (node.Member m) = at_m s refl m (member_restart (s.member m)) (quiet_restart n k (s.member m))
  restart (node.Coord c) = at_c s refl c (coord_restart (s.coord c)) (sends_restart n k c (s.coord c) (tabled c))

  arm : (call : ℕ) (leaves : Leaves) (at : Node) → Named (arm_at s call leaves at)
  arm call leaves (node.Member m) = of_member m (s.member m).up (member_arm (s.member m) call leaves) (quiet n k (member_arm (s.member m) call leaves) refl)
  arm call leaves (node.Coord c) = of_coord c (s.coord c).up (coord_arm (s.coord c) call leaves) tt

  checkpoint : (at : Node) → Named (checkpoint_at s at)
  checkpoint (node.Member m) = of_member m (s.member m).up (member_checkpoint m (s.member m)) (quiet_checkpoint n k (s.member m) m)
  checkpoint (node.Coord c) = of_coord c (s.coord c).up (coord_checkpoint c (s.coord c)) (sends_checkpoint n k c (s.coord c) (tabled c))

  pub line : (e : Event) → IsEventFor n k e → Named (step_line s e)
  line (event.Begin t c) h = begins t c (is_used s t) (s.coord c).up
  line (event.Local t m) h = begins_local t m (is_used s t) (s.member m).up
  line (event.Read t m key) h = operation t m (op.Read key) (leave_to_visit (look s.sessions t) m)
  line (event.Write t m key value) h = operation t m (op.Write key value) (leave_to_visit (look s.sessions t) m)
  line (event.Erase t m key) h = operation t m (op.Erase key) (leave_to_visit (look s.sessions t) m)
  line (event.Scan t m span) h = operation t m (op.Scan span) (leave_to_visit (look s.sessions t) m)
  line (event.Commit t) h = commits t (leave_to_end (look s.sessions t)) refl
  line (event.Abort t) h = ends t (leave_to_end (look s.sessions t)) refl
  line (event.Deliver note) h = delivers note (was_sent s.sent note) refl
  line (event.Vote t m) h = of_member m (s.member m).up (member_vote m (s.member m) t) (sends_vote n k m h.1 (s.member m) t)
  line (event.Timer t at) h = timer t at
  line (event.Ask t m) h = of_member m (s.member m).up (member_ask m (s.member m) t) (sends_question n k m h.1 (s.member m) t)
  line (event.Resend t c) h = of_coord c (s.coord c).up (coord_resend c (s.coord c) t) (sends_again n k c (s.coord c) (tabled c) t)
  line (event.Crash at) h = crash at
  line (event.Restart at) h = restart at
  line (event.Arm at call leaves) h = arm call leaves at
  line (event.Checkpoint at) h = checkpoint at
