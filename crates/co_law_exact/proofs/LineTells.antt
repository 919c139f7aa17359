-- What each event tells: no event but those of its own sends a vote, gives an answer of the voting rule, or one to an operation.
use Rattle.std.proofs.Common.{◌≡◌, ℕ, Bool, true, false, not, if◌then◌else◌, List, [], ◌∷◌, Option, None, Some, refl, sym, ap, ◌∙◌, subst}
use Rattle.std.specs.List.{list_any}
use Rattle.co_base.specs.declared.leaves.Leaves.{Leaves}
use Rattle.co_base.specs.declared.mark.Mark.{Mark}
use Rattle.co_base.specs.declared.node.Node.{Node}
use Rattle.co_base.specs.declared.node.Node.TheVariants as node
use Rattle.co_base.specs.declared.op.Op.{Op}
use Rattle.co_base.specs.declared.op.Op.TheVariants as op
use Rattle.co_message.specs.declared.answer.Answer.{Answer}
use Rattle.co_message.specs.declared.answer.Answer.TheVariants as answer
use Rattle.co_message.specs.declared.event.Event.{Event}
use Rattle.co_message.specs.declared.event.Event.TheVariants as event
use Rattle.co_message.specs.declared.message.Message.{Message}
use Rattle.co_message.specs.declared.message.Message.TheVariants as message
use Rattle.co_state.specs.Table.{look}
use Rattle.co_plain.specs.declared.coord_step.CoordStep.{CoordStep}
use Rattle.co_plain.specs.declared.member_step.MemberStep.{MemberStep}
use Rattle.co_plain.specs.declared.session.Session.{Session}
use Rattle.co_plain.specs.Member.{member_op, member_deliver, member_vote, member_timer, member_ask}
use Rattle.co_plain.specs.MemberLog.{member_checkpoint, member_crash, member_restart, member_arm}
use Rattle.co_plain.specs.LocalCommit.{member_local_commit, member_local_abort}
use Rattle.co_plain.specs.Coordinator.{coord_begin, coord_commit, coord_abort, coord_deliver, coord_timer, coord_resend}
use Rattle.co_plain.specs.CoordLog.{coord_checkpoint, coord_crash, coord_restart, coord_arm}
use Rattle.co_plain.specs.Federation.{Federation, Stepped, answers, at_member, at_coord, items_of, message_list, with_session}
use Rattle.co_plain.specs.Sessions.{Leave, Refuses, Grants, leave_to_visit, leave_to_end, unless_asked, may_visit, parts_of, count_at, begun_by}
use Rattle.co_plain.specs.Step.{up_member, up_coord, is_used, begin_where, local_where, reply_in, entered, operated, operate_with, is_stopped, is_held, marked_asked, coord_answers, local_answers, commit_at, commit_with, abort_at, abort_with, arrives, timer_at, crash_at, restart_at, arm_at, checkpoint_at, step_line}
use Rattle.co_plain.specs.Wire.{was_sent}
use Rattle.co_law_moves.specs.MoveTraces.{messages_in}
use Rattle.co_law_moves.proofs.ItemsTold.{items_messages}
use Rattle.co_law_exact.specs.Events.{answer_in}
use Rattle.co_law_exact.proofs.MemberTells.{is_vote, is_told}
use Rattle.co_law_exact.proofs.MemberTells as members
use Rattle.co_law_exact.proofs.CoordTells as coords

-- the answer among the items of an event
pub items_answer : (marks : List Mark) (notes : List Message) (a : Answer) → answer_in (items_of marks notes a) ≡ Some a
items_answer (mark ∷ marks) notes a = items_answer marks notes a
items_answer [] (note ∷ notes) a = items_answer [] notes a
items_answer [] [] a = refl

abbrev pub told_in : Bool → Bool → Option Answer → Bool
told_in h b None = false
told_in h b (Some a) = is_told h b a

-- a step tells none of what is looked for
abbrev pub Lacks : Bool → Bool → Bool → Stepped → Type 0
Lacks v h b z = (list_any (is_vote v) (messages_in z.items) ≡ false) × (told_in h b (answer_in z.items) ≡ false)

at_m : (v h b : Bool) (s : Federation) (m : ℕ) (did : MemberStep) → members.Lacks v h b did → Lacks v h b (at_member s m did)
at_m v h b s m did n = (
  ap (list_any (is_vote v)) (items_messages did.marks (message_list did.sent) did.answer) ∙ n.0,
  ap (told_in h b) (items_answer did.marks (message_list did.sent) did.answer) ∙ n.1,
)

at_c : (v h b : Bool) (s : Federation) (c : ℕ) (did : CoordStep) → coords.Lacks v h b did → Lacks v h b (at_coord s c did)
at_c v h b s c did n = (
  ap (list_any (is_vote v)) (items_messages did.marks did.sent did.answer) ∙ n.0,
  ap (told_in h b) (items_answer did.marks did.sent did.answer) ∙ n.1,
)

-- an event of a node that is up
of_member : (v h b : Bool) (s : Federation) (m : ℕ) (up : Bool) (did : MemberStep) → members.Lacks v h b did → Lacks v h b (up_member s m up did)
of_member v h b s m true did n = at_m v h b s m did n
of_member v h b s m false did n = (refl, refl)

of_coord : (v h b : Bool) (s : Federation) (c : ℕ) (up : Bool) (did : CoordStep) → coords.Lacks v h b did → Lacks v h b (up_coord s c up did)
of_coord v h b s c true did n = at_c v h b s c did n
of_coord v h b s c false did n = (refl, refl)

-- a session refuses in two ways
asked_cases : (P : Leave → Type 0) → P (Refuses answer.Asked) → ((session : Session) → P (Grants session)) → (session : Session) → P (unless_asked session)
asked_cases P asked grants session = by session.asked
  where
    by : (b : Bool) → P (if b then Refuses answer.Asked else Grants session)
    by true = asked
    by false = grants session

visit_cases : (P : Leave → Type 0) → P (Refuses answer.NotBegun) → P (Refuses answer.Asked) → ((session : Session) → P (Grants session)) → (m : ℕ) (o : Option Session) → P (leave_to_visit o m)
visit_cases P none asked grants m None = none
visit_cases P none asked grants m (Some session) = by (may_visit session.by m)
  where
    by : (b : Bool) → P (if b then unless_asked session else Refuses answer.NotBegun)
    by true = asked_cases P asked grants session
    by false = none

end_cases : (P : Leave → Type 0) → P (Refuses answer.NotBegun) → P (Refuses answer.Asked) → ((session : Session) → P (Grants session)) → (o : Option Session) → P (leave_to_end o)
end_cases P none asked grants None = none
end_cases P none asked grants (Some session) = asked_cases P asked grants session

-- an operation gets no answer of the rule
operates : (v h : Bool) (s : Federation) (t m : ℕ) (o : Op) → Lacks v h false (operate_with s t m o (leave_to_visit (look s.sessions t) m))
operates v h s t m o = visit_cases (λ leave. Lacks v h false (operate_with s t m o leave)) (refl, refl) (refl, refl) granted m (look s.sessions t)
  where
    granted : (session : Session) → Lacks v h false (operate_with s t m o (Grants session))
    granted session = by (s.member m).up
      where
        did : MemberStep
        did = member_op (s.member m) t (count_at session.told m) o

        by : (up : Bool) → Lacks v h false (operated s t session m o up did)
        by true = at_m v h false (entered s t session m o (reply_in did.answer)) m did (members.op_lacks v h (s.member m) t (count_at session.told m) o)
        by false = (refl, refl)

-- a commit is no operation
commits : (v b : Bool) (s : Federation) (t : ℕ) → Lacks v false b (commit_with s t (leave_to_end (look s.sessions t)))
commits v b s t = end_cases (λ leave. Lacks v false b (commit_with s t leave)) (refl, refl) (refl, refl) (λ session. granted session session.by) (look s.sessions t)
  where
    granted : (session : Session) (at : Node) → Lacks v false b (commit_at s t session at)
    granted session (node.Coord c) = by (s.coord c).up
      where
        did : CoordStep
        did = coord_commit c (s.coord c) t (parts_of session.told)

        by : (up : Bool) → Lacks v false b (coord_answers s t session c up did)
        by true = at_c v false b (marked_asked s t session (not (is_stopped did.answer))) c did (coords.commit_lacks v false b c (s.coord c) t (parts_of session.told))
        by false = (refl, refl)
    granted session (node.Member m) = by (s.member m).up
      where
        did : MemberStep
        did = member_local_commit m (s.member m) t (count_at session.told m)

        by : (up : Bool) → Lacks v false b (local_answers s t session m up did)
        by true = at_m v false b (marked_asked s t session (not (is_held did.answer))) m did (members.local_commit_lacks v b m (s.member m) t (count_at session.told m))
        by false = (refl, refl)

-- the other events
module _ (v h b : Bool) (s : Federation) where
  aborts : (t : ℕ) → Lacks v h b (abort_with s t (leave_to_end (look s.sessions t)))
  aborts t = end_cases (λ leave. Lacks v h b (abort_with s t leave)) (refl, refl) (refl, refl) (λ session. granted session session.by) (look s.sessions t)
    where
      granted : (session : Session) (at : Node) → Lacks v h b (abort_at s t session at)
      granted session (node.Coord c) = by (s.coord c).up
        where
          did : CoordStep
          did = coord_abort c (s.coord c) t (parts_of session.told)

          by : (up : Bool) → Lacks v h b (coord_answers s t session c up did)
          by true = at_c v h b (marked_asked s t session (not (is_stopped did.answer))) c did (coords.abort_lacks v h b c (s.coord c) t (parts_of session.told))
          by false = (refl, refl)
      granted session (node.Member m) = by (s.member m).up
        where
          did : MemberStep
          did = member_local_abort (s.member m) t

          by : (up : Bool) → Lacks v h b (local_answers s t session m up did)
          by true = at_m v h b (marked_asked s t session (not (is_held did.answer))) m did (members.local_abort_lacks v h b m (s.member m) t)
          by false = (refl, refl)

  begins : (t c : ℕ) (used up : Bool) → Lacks v h b (begin_where s t c used up)
  begins t c true up = (refl, refl)
  begins t c false true = at_c v h b (with_session s t (begun_by (node.Coord c))) c (coord_begin (s.coord c) t) (refl, refl)
  begins t c false false = (refl, refl)

  begins_local : (t m : ℕ) (used up : Bool) → Lacks v h b (local_where s t m used up)
  begins_local t m true up = (refl, refl)
  begins_local t m false true = (refl, refl)
  begins_local t m false false = (refl, refl)

  -- a message arrives
  to_coord : (c : ℕ) (note : Message) → Lacks v h b (up_coord s c (s.coord c).up (coord_deliver c (s.coord c) note))
  to_coord c note = of_coord v h b s c (s.coord c).up (coord_deliver c (s.coord c) note) (coords.deliver_lacks v h b c (s.coord c) note)

  where_sent : (note : Message) → Lacks v h b (arrives s note) → Lacks v h b (if was_sent s.sent note then arrives s note else answers s answer.Unsent)
  where_sent note n = by (was_sent s.sent note)
    where
      by : (k : Bool) → Lacks v h b (if k then arrives s note else answers s answer.Unsent)
      by true = n
      by false = (refl, refl)

  timer : (t : ℕ) (at : Node) → Lacks v h b (timer_at s t at)
  timer t (node.Member m) = of_member v h b s m (s.member m).up (member_timer (s.member m) t) (members.timer_lacks v h b m (s.member m) t)
  timer t (node.Coord c) = of_coord v h b s c (s.coord c).up (coord_timer c (s.coord c) t) (coords.timer_lacks v h b c (s.coord c) t)

  crash : (at : Node) → Lacks v h b (crash_at s at)
  crash (node.Member m) = of_member v h b s m (s.member m).up (member_crash (s.member m)) (refl, refl)
  crash (node.Coord c) = of_coord v h b s c (s.coord c).up (coord_crash (s.coord c)) (refl, refl)

  restart : (at : Node) → Lacks v h b (restart_at s at)
  restart (node.Member m) = at_m v h b s m (member_restart (s.member m)) (members.restart_lacks v h b m (s.member m))
  restart (node.Coord c) = at_c v h b s c (coord_restart (s.coord c)) (coords.restart_lacks v h b c (s.coord c))

  arm : (call : ℕ) (leaves : Leaves) (at : Node) → Lacks v h b (arm_at s call leaves at)
  arm call leaves (node.Member m) = of_member v h b s m (s.member m).up (member_arm (s.member m) call leaves) (refl, refl)
  arm call leaves (node.Coord c) = of_coord v h b s c (s.coord c).up (coord_arm (s.coord c) call leaves) (refl, refl)

  checkpoint : (at : Node) → Lacks v h b (checkpoint_at s at)
  checkpoint (node.Member m) = of_member v h b s m (s.member m).up (member_checkpoint m (s.member m)) (members.checkpoint_lacks v h b m (s.member m))
  checkpoint (node.Coord c) = of_coord v h b s c (s.coord c).up (coord_checkpoint c (s.coord c)) (coords.checkpoint_lacks v h b c (s.coord c))

-- what an event may tell: an operation its own answers, a commit those of the rule, and a prepare and a vote that is tried again a vote too
abbrev pub MayLack : Bool → Bool → Bool → Event → Type 0
MayLack v h b (event.Read t m key) = b ≡ false
MayLack v h b (event.Write t m key value) = b ≡ false
MayLack v h b (event.Erase t m key) = b ≡ false
MayLack v h b (event.Scan t m span) = b ≡ false
MayLack v h b (event.Commit t) = h ≡ false
MayLack v h b (event.Deliver (message.Prepare t c m n)) = (v ≡ false) × (h ≡ false)
MayLack v h b (event.Vote t m) = (v ≡ false) × (h ≡ false)
MayLack v h b _ = Unit {0}

unblocked : (v h b : Bool) (s : Federation) (t m : ℕ) (o : Op) → b ≡ false → Lacks v h b (operate_with s t m o (leave_to_visit (look s.sessions t) m))
unblocked v h b s t m o e = subst (λ k. Lacks v h k (operate_with s t m o (leave_to_visit (look s.sessions t) m))) (sym e) (operates v h s t m o)

voteless : (v h b : Bool) (z : Stepped) → (v ≡ false) × (h ≡ false) → Lacks false false b z → Lacks v h b z
voteless v h b z e n = subst (λ k. Lacks k h b z) (sym e.0) (subst (λ k. Lacks false k b z) (sym e.1) n)

pub line_lacks : (v h b : Bool) (s : Federation) (e : Event) → MayLack v h b e → Lacks v h b (step_line s e)
line_lacks v h b s (event.Begin t c) k = begins v h b s t c (is_used s t) (s.coord c).up
line_lacks v h b s (event.Local t m) k = begins_local v h b s t m (is_used s t) (s.member m).up
line_lacks v h b s (event.Read t m key) k = unblocked v h b s t m (op.Read key) k
line_lacks v h b s (event.Write t m key value) k = unblocked v h b s t m (op.Write key value) k
line_lacks v h b s (event.Erase t m key) k = unblocked v h b s t m (op.Erase key) k
line_lacks v h b s (event.Scan t m span) k = unblocked v h b s t m (op.Scan span) k
line_lacks v h b s (event.Commit t) k = subst (λ j. Lacks v j b (commit_with s t (leave_to_end (look s.sessions t)))) (sym k) (commits v b s t)
line_lacks v h b s (event.Abort t) k = aborts v h b s t
line_lacks v h b s (event.Deliver (message.Prepare t c m n)) k =
    where_sent v h b s (message.Prepare t c m n)
    (voteless v h b (arrives s (message.Prepare t c m n)) k (of_member false false b s m (s.member m).up (member_deliver m (s.member m) (message.Prepare t c m n)) (members.prepare_lacks b m (s.member m) t c n)))
line_lacks v h b s (event.Deliver (message.Decide t c m commit)) k =
    where_sent v h b s (message.Decide t c m commit)
    (of_member v h b s m (s.member m).up (member_deliver m (s.member m) (message.Decide t c m commit)) (members.decide_lacks v h b m (s.member m) t c commit))
line_lacks v h b s (event.Deliver (message.Vote t m c granted)) k = where_sent v h b s (message.Vote t m c granted) (to_coord v h b s c (message.Vote t m c granted))
line_lacks v h b s (event.Deliver (message.Ask t m c)) k = where_sent v h b s (message.Ask t m c) (to_coord v h b s c (message.Ask t m c))
line_lacks v h b s (event.Deliver (message.Ack t m c)) k = where_sent v h b s (message.Ack t m c) (to_coord v h b s c (message.Ack t m c))
line_lacks v h b s (event.Vote t m) k =
    voteless v h b (step_line s (event.Vote t m)) k (of_member false false b s m (s.member m).up (member_vote m (s.member m) t) (members.vote_lacks b m (s.member m) t))
line_lacks v h b s (event.Timer t at) k = timer v h b s t at
line_lacks v h b s (event.Ask t m) k = of_member v h b s m (s.member m).up (member_ask m (s.member m) t) (members.ask_lacks v h b m (s.member m) t)
line_lacks v h b s (event.Resend t c) k = of_coord v h b s c (s.coord c).up (coord_resend c (s.coord c) t) (coords.resend_lacks v h b c (s.coord c) t)
line_lacks v h b s (event.Crash at) k = crash v h b s at
line_lacks v h b s (event.Restart at) k = restart v h b s at
line_lacks v h b s (event.Arm at call leaves) k = arm v h b s call leaves at
line_lacks v h b s (event.Checkpoint at) k = checkpoint v h b s at
