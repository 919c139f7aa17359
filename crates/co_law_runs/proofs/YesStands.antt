-- A yes is told of a transaction that the member has voted then.
use Rattle.std.proofs.Common.{◌≡◌, ℕ, Bool, true, false, not, ◌&&◌, ◌==◌, if◌then◌else◌, List, [], ◌∷◌, ◌++◌, map, Option, None, Some, refl, sym, ap, ◌∙◌}
use Rattle.std.proofs.lemmas.Bool.{or_from, or_left, and_parts, eqb-true, false_from_ne_true}
use Rattle.co_base.specs.declared.leaves.Leaves.{Leaves}
use Rattle.co_base.specs.declared.mark.Mark.{Mark}
use Rattle.co_base.specs.declared.node.Node.{Node}
use Rattle.co_base.specs.declared.node.Node.TheVariants as node
use Rattle.co_base.specs.declared.op.Op.{Op}
use Rattle.co_base.specs.declared.op.Op.TheVariants as op
use Rattle.co_message.specs.declared.answer.Answer.{Answer}
use Rattle.co_message.specs.declared.answer.Answer.TheVariants as answer
use Rattle.co_message.specs.declared.event.Event.{Event}
use Rattle.co_message.specs.declared.event.Event.TheVariants as event
use Rattle.co_message.specs.declared.item.ItemKind.{ItemKind}
use Rattle.co_message.specs.declared.item.ItemKind.TheVariants as item
use Rattle.co_message.specs.declared.message.Message.{Message}
use Rattle.co_message.specs.declared.message.Message.TheVariants as message
use Rattle.co_state.specs.Table.{look}
use Rattle.co_plain.specs.declared.coord_step.CoordStep.{CoordStep}
use Rattle.co_plain.specs.declared.happening.Happening.{Happening}
use Rattle.co_plain.specs.declared.happening.Happening.TheVariants as happening
use Rattle.co_plain.specs.declared.member_step.MemberStep.{MemberStep}
use Rattle.co_plain.specs.declared.session.Session.{Session}
use Rattle.co_plain.specs.Member.{member_op, member_vote, member_decide, member_timer, member_ask, member_deliver, coord_of}
use Rattle.co_plain.specs.MemberLog.{member_checkpoint, member_restart, member_crash, member_arm}
use Rattle.co_plain.specs.LocalCommit.{member_local_commit, member_local_abort}
use Rattle.co_plain.specs.Coordinator.{coord_begin, coord_commit, coord_abort, coord_timer, coord_resend, coord_deliver}
use Rattle.co_plain.specs.CoordLog.{coord_checkpoint, coord_crash, coord_restart, coord_arm}
use Rattle.co_plain.specs.Sessions.{Leave, Refuses, Grants, leave_to_visit, leave_to_end, parts_of, count_at, begun_by}
use Rattle.co_plain.specs.Wire.{was_sent}
use Rattle.co_plain.specs.Federation.{Federation, Stepped, answers, at_member, at_coord, with_session, message_list}
use Rattle.co_plain.specs.Step.{up_member, up_coord, is_used, begin_where, local_where, entered, operated, operate_with, marked_asked, coord_answers, local_answers, commit_at, commit_with, abort_at, abort_with, arrives, timer_at, crash_at, restart_at, arm_at, checkpoint_at, reply_in, is_stopped, is_held, step_line, step}
use Rattle.co_plain.specs.Invariants.{Memory, view, stands}
use Rattle.co_law_base.proofs.Carrying.{at_here}
use Rattle.co_law_runs.specs.Finality.{tells_yes}
use Rattle.co_law_runs.proofs.MemberYes.{YesStands, silent, prepares, decides, tries, times, questions, operates, commits_alone, aborts_alone, restarts, checks}
use Rattle.co_law_runs.proofs.CoordSends.{NoVotes, asks, coord_aborts, coord_votes, coord_questions, coord_acks, coord_times, coord_resends, coord_restarts, coord_checks}

abbrev pub AnswersNo : List Message → Answer → ℕ → ℕ → Type 0
AnswersNo notes a t m = tells_yes (map item.Sent notes ++ item.Answered a ∷ []) t m ≡ false

marks_no : (marks : List Mark) (rest : List ItemKind) (t m : ℕ) → tells_yes (map item.Log marks ++ rest) t m ≡ tells_yes rest t m
marks_no [] rest t m = refl
marks_no (k ∷ ks) rest t m = marks_no ks rest t m

no_votes_no : (notes : List Message) (a : Answer) (t m : ℕ) → NoVotes notes → AnswersNo notes a t m
no_votes_no [] a t m h = refl
no_votes_no (message.Vote u k c granted ∷ notes) a t m h = absurd h
no_votes_no (message.Prepare u c k n ∷ notes) a t m h = no_votes_no notes a t m h
no_votes_no (message.Decide u c k commit ∷ notes) a t m h = no_votes_no notes a t m h
no_votes_no (message.Ask u k c ∷ notes) a t m h = no_votes_no notes a t m h
no_votes_no (message.Ack u k c ∷ notes) a t m h = no_votes_no notes a t m h

-- what is told of a step: no yes of a member that does not have the transaction voted after it
abbrev pub IsSilent : Stepped → Type 0
IsSilent d = (t m : ℕ) → stands (view Memory (d.state.member m)) t ≡ false → tells_yes d.items t m ≡ false

of_answer : (s : Federation) (a : Answer) → IsSilent (answers s a)
of_answer s a t m h = refl

of_coord : (s : Federation) (c : ℕ) (did : CoordStep) → NoVotes did.sent → IsSilent (at_coord s c did)
of_coord s c did none t m h = marks_no did.marks (map item.Sent did.sent ++ item.Answered did.answer ∷ []) t m ∙ no_votes_no did.sent did.answer t m none

of_member : (s : Federation) (k : ℕ) (did : MemberStep) → YesStands k did → IsSilent (at_member s k did)
of_member s k did standing t m h = marks_no did.marks (map item.Sent (message_list did.sent) ++ item.Answered did.answer ∷ []) t m ∙ by did.sent refl
  where
    apart : (j c : ℕ) → did.sent ≡ Some (message.Vote t j c true) → j ≡ m → ⊥
    apart j c e same =
        let p = standing t j c e in
        let here : stands (view Memory ((at_member s k did).state.member k)) t ≡ false =
        ap (λ i. stands (view Memory ((at_member s k did).state.member i)) t) (sym p.0 ∙ same) ∙ h in
        let z : true ≡ false = sym (or_left _ _ p.1) ∙ ap (λ x. stands (view Memory x) t) (sym (at_here s.member k did.state)) ∙ here in cc

    by : (o : Option Message) → did.sent ≡ o → AnswersNo (message_list o) did.answer t m
    by None e = refl
    by (Some (message.Prepare u c j n)) e = refl
    by (Some (message.Decide u c j commit)) e = refl
    by (Some (message.Ask u j c)) e = refl
    by (Some (message.Ack u j c)) e = refl
    by (Some (message.Vote u j c false)) e = refl
    by (Some (message.Vote u j c true)) e =
        or_from ((u == t) && (j == m)) false
        (false_from_ne_true _ (λ q. let p = and_parts (u == t) (j == m) q in apart j c (e ∙ ap (λ i. Some (message.Vote i j c true)) (eqb-true u t p.0)) (eqb-true j m p.1)))
        refl

module _ (s : Federation) where
  member_up : (k : ℕ) (up : Bool) (did : MemberStep) → YesStands k did → IsSilent (up_member s k up did)
  member_up k true did h = of_member s k did h
  member_up k false did h = of_answer s (answer.Down (node.Member k))

  coord_up : (c : ℕ) (up : Bool) (did : CoordStep) → NoVotes did.sent → IsSilent (up_coord s c up did)
  coord_up c true did h = of_coord s c did h
  coord_up c false did h = of_answer s (answer.Down (node.Coord c))

  begins : (t c : ℕ) (used up : Bool) → IsSilent (begin_where s t c used up)
  begins t c true up = of_answer s answer.Used
  begins t c false true = of_coord (with_session s t (begun_by (node.Coord c))) c (coord_begin (s.coord c) t) tt
  begins t c false false = of_answer s (answer.Down (node.Coord c))

  begins_local : (t k : ℕ) (used up : Bool) → IsSilent (local_where s t k used up)
  begins_local t k true up = of_answer s answer.Used
  begins_local t k false true = of_answer (with_session s t (begun_by (node.Member k))) answer.Begun
  begins_local t k false false = of_answer s (answer.Down (node.Member k))

  operation : (t k : ℕ) (o : Op) (leave : Leave) → IsSilent (operate_with s t k o leave)
  operation t k o (Refuses a) = of_answer s a
  operation t k o (Grants session) = by (s.member k).up
    where
      did : MemberStep
      did = member_op (s.member k) t (count_at session.told k) o

      by : (up : Bool) → IsSilent (operated s t session k o up did)
      by true = of_member (entered s t session k o (reply_in did.answer)) k did (operates k (s.member k) t (count_at session.told k) o)
      by false = of_answer s (answer.Down (node.Member k))

  answers_c : (t : ℕ) (session : Session) (c : ℕ) (up : Bool) (did : CoordStep) → NoVotes did.sent → IsSilent (coord_answers s t session c up did)
  answers_c t session c true did h = of_coord (marked_asked s t session (not (is_stopped did.answer))) c did h
  answers_c t session c false did h = of_answer s (answer.Down (node.Coord c))

  answers_m : (t : ℕ) (session : Session) (k : ℕ) (up : Bool) (did : MemberStep) → YesStands k did → IsSilent (local_answers s t session k up did)
  answers_m t session k true did h = of_member (marked_asked s t session (not (is_held did.answer))) k did h
  answers_m t session k false did h = of_answer s (answer.Down (node.Member k))

  commits : (t : ℕ) (leave : Leave) → IsSilent (commit_with s t leave)
  commits t (Refuses a) = of_answer s a
  commits t (Grants session) = by session.by
    where
      by : (at : Node) → IsSilent (commit_at s t session at)
      by (node.Coord c) = answers_c t session c (s.coord c).up (coord_commit c (s.coord c) t (parts_of session.told)) (asks c (s.coord c) t (parts_of session.told))
      by (node.Member k) = answers_m t session k (s.member k).up (member_local_commit k (s.member k) t (count_at session.told k)) (commits_alone k (s.member k) t (count_at session.told k))

  ends : (t : ℕ) (leave : Leave) → IsSilent (abort_with s t leave)
  ends t (Refuses a) = of_answer s a
  ends t (Grants session) = by session.by
    where
      by : (at : Node) → IsSilent (abort_at s t session at)
      by (node.Coord c) = answers_c t session c (s.coord c).up (coord_abort c (s.coord c) t (parts_of session.told)) (coord_aborts c (s.coord c) t (parts_of session.told))
      by (node.Member k) = answers_m t session k (s.member k).up (member_local_abort (s.member k) t) (aborts_alone k (s.member k) t)

  arrival : (note : Message) → IsSilent (arrives s note)
  arrival (message.Prepare t c k n) = member_up k (s.member k).up (member_deliver k (s.member k) (message.Prepare t c k n)) (prepares k (s.member k) t c n)
  arrival (message.Decide t c k commit) = member_up k (s.member k).up (member_deliver k (s.member k) (message.Decide t c k commit)) (decides k (s.member k) t c commit)
  arrival (message.Vote t k c granted) = coord_up c (s.coord c).up (coord_deliver c (s.coord c) (message.Vote t k c granted)) (coord_votes c (s.coord c) t k granted)
  arrival (message.Ask t k c) = coord_up c (s.coord c).up (coord_deliver c (s.coord c) (message.Ask t k c)) (coord_questions c (s.coord c) t k)
  arrival (message.Ack t k c) = coord_up c (s.coord c).up (coord_deliver c (s.coord c) (message.Ack t k c)) (coord_acks c (s.coord c) t k)

  delivers : (note : Message) (b : Bool) → IsSilent (if b then arrives s note else answers s answer.Unsent)
  delivers note true = arrival note
  delivers note false = of_answer s answer.Unsent

  timer : (t : ℕ) (at : Node) → IsSilent (timer_at s t at)
  timer t (node.Member k) = member_up k (s.member k).up (member_timer (s.member k) t) (times k (s.member k) t)
  timer t (node.Coord c) = coord_up c (s.coord c).up (coord_timer c (s.coord c) t) (coord_times c (s.coord c) t)

  crash : (at : Node) → IsSilent (crash_at s at)
  crash (node.Member k) = member_up k (s.member k).up (member_crash (s.member k)) (silent k (member_crash (s.member k)) refl)
  crash (node.Coord c) = coord_up c (s.coord c).up (coord_crash (s.coord c)) tt

  restart : (at : Node) → IsSilent (restart_at s at)
  restart (node.Member k) = of_member s k (member_restart (s.member k)) (restarts k (s.member k))
  restart (node.Coord c) = of_coord s c (coord_restart (s.coord c)) (coord_restarts c (s.coord c))

  arm : (call : ℕ) (leaves : Leaves) (at : Node) → IsSilent (arm_at s call leaves at)
  arm call leaves (node.Member k) = member_up k (s.member k).up (member_arm (s.member k) call leaves) (silent k (member_arm (s.member k) call leaves) refl)
  arm call leaves (node.Coord c) = coord_up c (s.coord c).up (coord_arm (s.coord c) call leaves) tt

  checkpoint : (at : Node) → IsSilent (checkpoint_at s at)
  checkpoint (node.Member k) = member_up k (s.member k).up (member_checkpoint k (s.member k)) (checks k (s.member k))
  checkpoint (node.Coord c) = coord_up c (s.coord c).up (coord_checkpoint c (s.coord c)) (coord_checks c (s.coord c))

  line : (e : Event) → IsSilent (step_line s e)
  line (event.Begin t c) = begins t c (is_used s t) (s.coord c).up
  line (event.Local t k) = begins_local t k (is_used s t) (s.member k).up
  line (event.Read t k key) = operation t k (op.Read key) (leave_to_visit (look s.sessions t) k)
  line (event.Write t k key value) = operation t k (op.Write key value) (leave_to_visit (look s.sessions t) k)
  line (event.Erase t k key) = operation t k (op.Erase key) (leave_to_visit (look s.sessions t) k)
  line (event.Scan t k span) = operation t k (op.Scan span) (leave_to_visit (look s.sessions t) k)
  line (event.Commit t) = commits t (leave_to_end (look s.sessions t))
  line (event.Abort t) = ends t (leave_to_end (look s.sessions t))
  line (event.Deliver note) = delivers note (was_sent s.sent note)
  line (event.Vote t k) = member_up k (s.member k).up (member_vote k (s.member k) t) (tries k (s.member k) t)
  line (event.Timer t at) = timer t at
  line (event.Ask t k) = member_up k (s.member k).up (member_ask k (s.member k) t) (questions k (s.member k) t)
  line (event.Resend t c) = coord_up c (s.coord c).up (coord_resend c (s.coord c) t) (coord_resends c (s.coord c) t)
  line (event.Crash at) = crash at
  line (event.Restart at) = restart at
  line (event.Arm at call leaves) = arm call leaves at
  line (event.Checkpoint at) = checkpoint at

  pub step_silent : (h : Happening) → IsSilent (step s h)
  step_silent (happening.Line e) = line e
  step_silent (happening.Hand t k commit) =
      member_up k (s.member k).up (member_decide k (s.member k) t (coord_of (s.member k) t) commit) (decides k (s.member k) t (coord_of (s.member k) t) commit)
  step_silent happening.Disarm = λ t m h. refl
