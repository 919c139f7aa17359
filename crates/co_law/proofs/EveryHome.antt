-- Each message of a run names the coordinator of its transaction.
use Rattle.std.proofs.Common.{◌≡◌, ◌⊎◌, inl, inr, ℕ, Bool, true, false, not, if◌then◌else◌, List, [], ◌∷◌, Option, None, Some, refl, sym, ap, ◌∙◌, subst}
use Rattle.std.specs.List.{AllByRecursion}
use Rattle.co_base.specs.declared.head.Kind.{Kind}
use Rattle.co_base.specs.declared.leaves.Leaves.{Leaves}
use Rattle.co_base.specs.declared.node.Node.{Node}
use Rattle.co_base.specs.declared.node.Node.TheVariants as node
use Rattle.co_base.specs.declared.op.Op.{Op}
use Rattle.co_base.specs.declared.op.Op.TheVariants as op
use Rattle.co_base.specs.declared.reply.Reply.{Reply}
use Rattle.co_message.specs.declared.answer.Answer.{Answer}
use Rattle.co_message.specs.declared.answer.Answer.TheVariants as answer
use Rattle.co_message.specs.declared.event.Event.{Event}
use Rattle.co_message.specs.declared.event.Event.TheVariants as event
use Rattle.co_message.specs.declared.message.Message.{Message}
use Rattle.co_message.specs.declared.message.Message.TheVariants as message
use Rattle.co_state.specs.Table.{look}
use Rattle.co_plain.specs.declared.coord_step.CoordStep.{CoordStep}
use Rattle.co_plain.specs.declared.happening.Happening.{Happening}
use Rattle.co_plain.specs.declared.happening.Happening.TheVariants as happening
use Rattle.co_plain.specs.declared.member_state.AskedMark.{AskedMark}
use Rattle.co_plain.specs.declared.member_step.MemberStep.{MemberStep}
use Rattle.co_plain.specs.declared.session.Session.{Session}
use Rattle.co_plain.specs.Member.{coord_of, member_op, member_deliver, member_vote, member_timer, member_ask, member_decide}
use Rattle.co_plain.specs.MemberLog.{member_checkpoint, member_crash, member_restart, member_arm}
use Rattle.co_plain.specs.LocalCommit.{member_local_commit, member_local_abort}
use Rattle.co_plain.specs.Coordinator.{coord_begin, coord_commit, coord_abort, coord_deliver, coord_timer, coord_resend}
use Rattle.co_plain.specs.CoordLog.{coord_checkpoint, coord_crash, coord_restart, coord_arm}
use Rattle.co_plain.specs.Opening.{Found, opened}
use Rattle.co_plain.specs.Runs.{run}
use Rattle.co_plain.specs.Sessions.{Leave, Refuses, Grants, leave_to_visit, leave_to_end, parts_of, count_at, begun_by}
use Rattle.co_plain.specs.Wire.{was_sent, send_one, send_all}
use Rattle.co_plain.specs.Federation.{Federation, Stepped, answers, at_member, at_coord, with_session, message_list}
use Rattle.co_plain.specs.Step.{up_member, up_coord, is_used, begin_where, local_where, entered, operated, operate_with, marked_asked, coord_answers, local_answers, commit_at, commit_with, abort_at, abort_with, arrives, timer_at, crash_at, restart_at, arm_at, checkpoint_at, reply_in, is_stopped, is_held, step_line, step}
use Rattle.co_plain.specs.SoundLogs.{unended_in}
use Rattle.co_law_base.proofs.Facts.{Facts}
use Rattle.co_law_base.proofs.LogMoves.{as_belongs}
use Rattle.co_law_base.proofs.Sending.{send_cases}
use Rattle.co_plain.specs.Premises.{AreTrueVerdicts, IsTrueVerdict, AreOpenable}
use Rattle.co_law_moves.proofs.Steps.{step_keeps}
use Rattle.co_law_moves.proofs.Growing.{step_grows}
use Rattle.co_law_moves.proofs.KeptFrom.{belongs_is}
use Rattle.co_law_runs.proofs.Hopeless.{step_onward}
use Rattle.co_law_moves.proofs.Start.{start_facts}
use Rattle.co_law.specs.MessageHomes.{IsHome, Belongs, CommittedBefore, NamesHome, MessagesNameHomes}
use Rattle.co_law.proofs.MemberNames.{MemberNames, quiet, names_prepare, names_decision, handed_home, names_vote, names_question, quiet_timer, quiet_operation, quiet_commit, quiet_abort, quiet_restart, quiet_checkpoint}
use Rattle.co_law.proofs.CoordNames.{CoordNames, names_commit, names_abort, names_counted, names_answer, names_acknowledged, names_timer, names_resent, names_restart, names_checkpoint}

-- what is sent was sent before, or is among what is sent now
all_cases : (P : Message → Type 0) (notes sent : List Message) → AllByRecursion P notes → (note : Message) → was_sent (send_all sent notes) note ≡ true → (was_sent sent note ≡ true) ⊎ P note
all_cases P [] sent h note e = inl e
all_cases P (n ∷ ns) sent h note e = by (all_cases P ns (send_one sent n) h.1 note e)
  where
    now : (n ≡ note) ⊎ (was_sent sent note ≡ true) → (was_sent sent note ≡ true) ⊎ P note
    now (inl same) = inr (subst P same h.0)
    now (inr k) = inl k

    by : (was_sent (send_one sent n) note ≡ true) ⊎ P note → (was_sent sent note ≡ true) ⊎ P note
    by (inl k) = now (send_cases sent n note k)
    by (inr p) = inr p

module _ (s : Federation) (f : Facts s) (named : MessagesNameHomes s) where
  -- what a step leaves sent names homes in the state before it
  abbrev Named : Stepped → Type 0
  Named d = (note : Message) → was_sent d.state.sent note ≡ true → NamesHome s note

  still : (z : Federation) → z.sent ≡ s.sent → (a : Answer) → Named (answers z a)
  still z e a note h = named note (ap (λ sent. was_sent sent note) (sym e) ∙ h)

  of_notes : (notes sent : List Message) → sent ≡ s.sent → AllByRecursion (NamesHome s) notes → (note : Message) → was_sent (send_all sent notes) note ≡ true → NamesHome s note
  of_notes notes sent e h note k = by (all_cases (NamesHome s) notes sent h note k)
    where
      by : (was_sent sent note ≡ true) ⊎ NamesHome s note → NamesHome s note
      by (inl q) = named note (ap (λ l. was_sent l note) (sym e) ∙ q)
      by (inr p) = p

  listed : (o : Option Message) → ((note : Message) → o ≡ Some note → NamesHome s note) → AllByRecursion (NamesHome s) (message_list o)
  listed None h = tt
  listed (Some note) h = (h note refl, tt)

  at_m : (z : Federation) → z.sent ≡ s.sent → (m : ℕ) (did : MemberStep) → MemberNames s did → Named (at_member z m did)
  at_m z e m did h note k = of_notes (message_list did.sent) z.sent e (listed did.sent h) note k

  at_c : (z : Federation) → z.sent ≡ s.sent → (c : ℕ) (did : CoordStep) → CoordNames s did → Named (at_coord z c did)
  at_c z e c did h note k = of_notes did.sent z.sent e h note k

  of_member : (m : ℕ) (up : Bool) (did : MemberStep) → MemberNames s did → Named (up_member s m up did)
  of_member m true did h = at_m s refl m did h
  of_member m false did h = still s refl (answer.Down (node.Member m))

  of_coord : (c : ℕ) (up : Bool) (did : CoordStep) → CoordNames s did → Named (up_coord s c up did)
  of_coord c true did h = at_c s refl c did h
  of_coord c false did h = still s refl (answer.Down (node.Coord c))

  begins : (t c : ℕ) (used up : Bool) → Named (begin_where s t c used up)
  begins t c true up = still s refl answer.Used
  begins t c false true = at_c (with_session s t (begun_by (node.Coord c))) refl c (coord_begin (s.coord c) t) tt
  begins t c false false = still s refl (answer.Down (node.Coord c))

  begins_local : (t m : ℕ) (used up : Bool) → Named (local_where s t m used up)
  begins_local t m true up = still s refl answer.Used
  begins_local t m false true = still (with_session s t (begun_by (node.Member m))) refl answer.Begun
  begins_local t m false false = still s refl (answer.Down (node.Member m))

  entered_sent : (t : ℕ) (session : Session) (m : ℕ) (o : Op) (reply : Option Reply) → (entered s t session m o reply).sent ≡ s.sent
  entered_sent t session m o None = refl
  entered_sent t session m o (Some reply) = refl

  asked_sent : (t : ℕ) (session : Session) (b : Bool) → (marked_asked s t session b).sent ≡ s.sent
  asked_sent t session true = refl
  asked_sent t session false = refl

  operation : (t m : ℕ) (o : Op) (leave : Leave) → Named (operate_with s t m o leave)
  operation t m o (Refuses a) = still s refl a
  operation t m o (Grants session) = by (s.member m).up
    where
      did : MemberStep
      did = member_op (s.member m) t (count_at session.told m) o

      by : (up : Bool) → Named (operated s t session m o up did)
      by true = at_m (entered s t session m o (reply_in did.answer)) (entered_sent t session m o (reply_in did.answer)) m did (quiet_operation s (s.member m) t (count_at session.told m) o)
      by false = still s refl (answer.Down (node.Member m))

  answers_c : (t : ℕ) (session : Session) (c : ℕ) (up : Bool) (did : CoordStep) → CoordNames s did → Named (coord_answers s t session c up did)
  answers_c t session c true did h = at_c (marked_asked s t session (not (is_stopped did.answer))) (asked_sent t session (not (is_stopped did.answer))) c did h
  answers_c t session c false did h = still s refl (answer.Down (node.Coord c))

  answers_m : (t : ℕ) (session : Session) (m : ℕ) (up : Bool) (did : MemberStep) → MemberNames s did → Named (local_answers s t session m up did)
  answers_m t session m true did h = at_m (marked_asked s t session (not (is_held did.answer))) (asked_sent t session (not (is_held did.answer))) m did h
  answers_m t session m false did h = still s refl (answer.Down (node.Member m))

  commits : (t : ℕ) (leave : Leave) → Named (commit_with s t leave)
  commits t (Refuses a) = still s refl a
  commits t (Grants session) = by session.by
    where
      by : (at : Node) → Named (commit_at s t session at)
      by (node.Coord c) = answers_c t session c (s.coord c).up (coord_commit c (s.coord c) t (parts_of session.told)) (names_commit s f c t (parts_of session.told))
      by (node.Member m) = answers_m t session m (s.member m).up (member_local_commit m (s.member m) t (count_at session.told m)) (quiet_commit s (s.member m) m t (count_at session.told m))

  ends : (t : ℕ) (leave : Leave) → Named (abort_with s t leave)
  ends t (Refuses a) = still s refl a
  ends t (Grants session) = by session.by
    where
      by : (at : Node) → Named (abort_at s t session at)
      by (node.Coord c) = answers_c t session c (s.coord c).up (coord_abort c (s.coord c) t (parts_of session.told)) (names_abort s f c t (parts_of session.told))
      by (node.Member m) = answers_m t session m (s.member m).up (member_local_abort (s.member m) t) (quiet_abort s (s.member m) t)

  arrival : (note : Message) → was_sent s.sent note ≡ true → Named (arrives s note)
  arrival (message.Prepare t c m n) h = of_member m (s.member m).up (member_deliver m (s.member m) (message.Prepare t c m n)) (names_prepare s f m t c n (named (message.Prepare t c m n) h))
  arrival (message.Decide t c m commit) h =
      of_member m (s.member m).up (member_deliver m (s.member m) (message.Decide t c m commit)) (names_decision s f m t c commit (inl (named (message.Decide t c m commit) h)))
  arrival (message.Vote t m c granted) h = of_coord c (s.coord c).up (coord_deliver c (s.coord c) (message.Vote t m c granted)) (names_counted s f c t m granted)
  arrival (message.Ask t m c) h = of_coord c (s.coord c).up (coord_deliver c (s.coord c) (message.Ask t m c)) (names_answer s f c t m (named (message.Ask t m c) h))
  arrival (message.Ack t m c) h = of_coord c (s.coord c).up (coord_deliver c (s.coord c) (message.Ack t m c)) (names_acknowledged s f c t m)

  delivers : (note : Message) (b : Bool) → was_sent s.sent note ≡ b → Named (if b then arrives s note else answers s answer.Unsent)
  delivers note true h = arrival note h
  delivers note false h = still s refl answer.Unsent

  timer : (t : ℕ) (at : Node) → Named (timer_at s t at)
  timer t (node.Member m) = of_member m (s.member m).up (member_timer (s.member m) t) (quiet_timer s (s.member m) t)
  timer t (node.Coord c) = of_coord c (s.coord c).up (coord_timer c (s.coord c) t) (names_timer s f c t)

  crash : (at : Node) → Named (crash_at s at)
  crash (node.Member m) = of_member m (s.member m).up (member_crash (s.member m)) (quiet s (member_crash (s.member m)) refl)
  crash (node.Coord c) = of_coord c (s.coord c).up (coord_crash (s.coord c)) tt

  restart : (at : Node) → Named (restart_at s at)
  restart (node.Member m) = at_m s refl m (member_restart (s.member m)) (quiet_restart s (s.member m))
  restart (node.Coord c) = at_c s refl c (coord_restart (s.coord c)) (names_restart s f c)

  arm : (call : ℕ) (leaves : Leaves) (at : Node) → Named (arm_at s call leaves at)
  arm call leaves (node.Member m) = of_member m (s.member m).up (member_arm (s.member m) call leaves) (quiet s (member_arm (s.member m) call leaves) refl)
  arm call leaves (node.Coord c) = of_coord c (s.coord c).up (coord_arm (s.coord c) call leaves) tt

  checkpoint : (at : Node) → Named (checkpoint_at s at)
  checkpoint (node.Member m) = of_member m (s.member m).up (member_checkpoint m (s.member m)) (quiet_checkpoint s (s.member m) m)
  checkpoint (node.Coord c) = of_coord c (s.coord c).up (coord_checkpoint c (s.coord c)) (names_checkpoint s f c)

  -- the prepare that was marked was sent
  marked_home : (t m : ℕ) (mark : AskedMark) → look (s.member m).asked t ≡ Some mark → IsHome s t mark.coord
  marked_home t m mark e = named (message.Prepare t mark.coord m mark.count) ((f.members m).marked t mark e).1

  line : (e : Event) → Named (step_line s e)
  line (event.Begin t c) = begins t c (is_used s t) (s.coord c).up
  line (event.Local t m) = begins_local t m (is_used s t) (s.member m).up
  line (event.Read t m key) = operation t m (op.Read key) (leave_to_visit (look s.sessions t) m)
  line (event.Write t m key value) = operation t m (op.Write key value) (leave_to_visit (look s.sessions t) m)
  line (event.Erase t m key) = operation t m (op.Erase key) (leave_to_visit (look s.sessions t) m)
  line (event.Scan t m span) = operation t m (op.Scan span) (leave_to_visit (look s.sessions t) m)
  line (event.Commit t) = commits t (leave_to_end (look s.sessions t))
  line (event.Abort t) = ends t (leave_to_end (look s.sessions t))
  line (event.Deliver note) = delivers note (was_sent s.sent note) refl
  line (event.Vote t m) = of_member m (s.member m).up (member_vote m (s.member m) t) (names_vote s f m t (λ mark e. marked_home t m mark e))
  line (event.Timer t at) = timer t at
  line (event.Ask t m) = of_member m (s.member m).up (member_ask m (s.member m) t) (names_question s f m t)
  line (event.Resend t c) = of_coord c (s.coord c).up (coord_resend c (s.coord c) t) (names_resent s f c t)
  line (event.Crash at) = crash at
  line (event.Restart at) = restart at
  line (event.Arm at call leaves) = arm call leaves at
  line (event.Checkpoint at) = checkpoint at

  step_named : (h : Happening) → Named (step s h)
  step_named (happening.Line e) = line e
  step_named (happening.Hand t m commit) =
      of_member m (s.member m).up (member_decide m (s.member m) t (coord_of (s.member m) t) commit) (names_decision s f m t (coord_of (s.member m) t) commit (handed_home s f m t))
  step_named happening.Disarm = λ note h. named note h

-- a home stays a home
home_on : (s z : Federation) → ((t c : ℕ) → IsHome s t c → IsHome z t c) → (note : Message) → NamesHome s note → NamesHome z note
home_on s z on (message.Prepare t c m n) h = on t c h
home_on s z on (message.Vote t m c granted) h = on t c h
home_on s z on (message.Decide t c m commit) h = on t c h
home_on s z on (message.Ask t m c) h = on t c h
home_on s z on (message.Ack t m c) (inl h) = inl (on t c h)
home_on s z on (message.Ack t m c) (inr h) = inr h

pub step_names : (s : Federation) → Facts s → (h : Happening) → IsTrueVerdict s h → MessagesNameHomes s → MessagesNameHomes (step s h).state
step_names s f h v named note e = home_on s (step s h).state on note (step_named s f named h note e)
  where
    on : (t c : ℕ) → IsHome s t c → IsHome (step s h).state t c
    on t c (Belongs b) = Belongs (belongs_is (step s h).state t c ((step_onward s f h v).belongs_on t c (as_belongs s t c b)))
    on t c (CommittedBefore members e) = CommittedBefore members (ap (λ logs. unended_in (logs c) t) (step_grows s h).coords ∙ e)

run_named : (hs : List Happening) (s : Federation) → Facts s → AreTrueVerdicts hs s → MessagesNameHomes s → MessagesNameHomes (run hs s)
run_named [] s f v named = named
run_named (h ∷ hs) s f v named = run_named hs (step s h).state (step_keeps s f h v.0) v.1 (step_names s f h v.0 named)

pub every_home : (kinds : List Kind) (coords : ℕ) (fm fc : ℕ → Found) (hs : List Happening) → AreOpenable kinds coords fm fc → AreTrueVerdicts hs (opened kinds coords fm fc) →
    MessagesNameHomes (run hs (opened kinds coords fm fc))
every_home kinds coords fm fc hs g v =
    run_named hs (opened kinds coords fm fc) (start_facts kinds coords fm fc g) v (λ note h. absurd (let z : false ≡ true = h in cc))
