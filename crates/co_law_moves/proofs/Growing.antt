-- What every step leaves: the opened logs, and every decision.
use Rattle.std.proofs.Common.{◌≡◌, ℕ, Bool, true, false, not, ◌==◌, if◌then◌else◌, List, [], ◌∷◌, Option, None, Some, refl, ◌∙◌}
use Rattle.std.proofs.lemmas.Bool.{or_right}
use Rattle.co_base.specs.declared.mark.Mark.{Mark}
use Rattle.co_base.specs.declared.mark.MarkKind.{MarkKind}
use Rattle.co_base.specs.declared.mark.MarkKind.TheVariants as kind
use Rattle.co_base.specs.declared.leaves.Leaves.{Leaves}
use Rattle.co_base.specs.declared.node.Node.{Node}
use Rattle.co_base.specs.declared.node.Node.TheVariants as node
use Rattle.co_base.specs.declared.op.Op.{Op}
use Rattle.co_base.specs.declared.op.Op.TheVariants as op
use Rattle.co_base.specs.declared.reply.Reply.{Reply}
use Rattle.co_message.specs.declared.answer.Answer.TheVariants as answer
use Rattle.co_message.specs.declared.event.Event.{Event}
use Rattle.co_message.specs.declared.event.Event.TheVariants as event
use Rattle.co_message.specs.declared.message.Message.{Message}
use Rattle.co_message.specs.declared.message.Message.TheVariants as message
use Rattle.co_state.specs.Table.{Table, look}
use Rattle.co_plain.specs.declared.coord_step.CoordStep.{CoordStep}
use Rattle.co_plain.specs.declared.happening.Happening.{Happening}
use Rattle.co_plain.specs.declared.happening.Happening.TheVariants as happening
use Rattle.co_plain.specs.declared.member_step.MemberStep.{MemberStep}
use Rattle.co_plain.specs.declared.session.Decided.{Decided}
use Rattle.co_plain.specs.declared.session.Session.{Session}
use Rattle.co_plain.specs.Member.{coord_of, member_deliver, member_vote, member_timer, member_ask, member_decide, member_op}
use Rattle.co_plain.specs.MemberLog.{member_checkpoint, member_crash, member_restart, member_arm}
use Rattle.co_plain.specs.LocalCommit.{member_local_commit, member_local_abort}
use Rattle.co_plain.specs.Coordinator.{coord_begin, coord_commit, coord_abort, coord_deliver, coord_timer, coord_resend}
use Rattle.co_plain.specs.CoordLog.{coord_checkpoint, coord_crash, coord_restart, coord_arm}
use Rattle.co_plain.specs.Sessions.{Leave, Refuses, Grants, leave_to_visit, leave_to_end, parts_of, count_at, begun_by}
use Rattle.co_base.specs.Nodes.{same_node}
use Rattle.co_plain.specs.Wire.{was_sent}
use Rattle.co_plain.specs.Federation.{Federation, answers, at_member, at_coord, with_session, decided_where, decided_by_kind, decide_all}
use Rattle.co_plain.specs.Step.{up_member, up_coord, is_used, begin_where, local_where, entered, operated, operate_with, marked_asked, coord_answers, local_answers, commit_at, commit_with, abort_at, abort_with, arrives, timer_at, crash_at, restart_at, arm_at, checkpoint_at, reply_in, is_stopped, is_held, step_line, step}
use Rattle.co_plain.specs.Runs.{run}
use Rattle.co_plain.specs.Decisions.{is_decided}

pub record Grows (s z : Federation) : Type 0 where
  pub members : z.opened_member ≡ s.opened_member
  pub coords : z.opened_coord ≡ s.opened_coord
  pub decided : (t : ℕ) → is_decided s.decided t ≡ true → is_decided z.decided t ≡ true

pub stays : (s : Federation) → Grows s s
stays s = record { members = refl; coords = refl; decided = λ t h. h }

pub grows_on : (s z w : Federation) → Grows s z → Grows z w → Grows s w
grows_on s z w g k = record { members = k.members ∙ g.members; coords = k.coords ∙ g.coords; decided = λ t h. k.decided t (g.decided t h) }

where_more : (o : Option Session) (at : Node) (u : ℕ) (ds : List Decided) (t : ℕ) → is_decided ds t ≡ true → is_decided (decided_where o at u ds) t ≡ true
where_more None at u ds t h = h
where_more (Some session) at u ds t h = by (same_node session.by at)
  where
    by : (b : Bool) → is_decided (if b then record { txn = u; told = session.told } ∷ ds else ds) t ≡ true
    by true = or_right (u == t) (is_decided ds t) h
    by false = h

kind_more : (k : MarkKind) (o : Option Session) (at : Node) (u : ℕ) (ds : List Decided) (t : ℕ) → is_decided ds t ≡ true → is_decided (decided_by_kind k o at u ds) t ≡ true
kind_more kind.Commit o at u ds t h = where_more o at u ds t h
kind_more _ o at u ds t h = h

pub decide_more : (sessions : Table Session) (ds : List Decided) (marks : List Mark) (t : ℕ) → is_decided ds t ≡ true → is_decided (decide_all sessions ds marks) t ≡ true
decide_more sessions ds [] t h = h
decide_more sessions ds (mark ∷ marks) t h =
    decide_more sessions (decided_by_kind mark.kind (look sessions mark.number) mark.node mark.number ds) marks t (kind_more mark.kind (look sessions mark.number) mark.node mark.number ds t h)

module _ (s : Federation) where
  at_m : (z : Federation) → Grows s z → (m : ℕ) (did : MemberStep) → Grows s (at_member z m did).state
  at_m z g m did = record { members = g.members; coords = g.coords; decided = λ t h. decide_more z.sessions z.decided did.marks t (g.decided t h) }

  at_c : (z : Federation) → Grows s z → (c : ℕ) (did : CoordStep) → Grows s (at_coord z c did).state
  at_c z g c did = record { members = g.members; coords = g.coords; decided = λ t h. decide_more z.sessions z.decided did.marks t (g.decided t h) }

  sessions_grow : (t : ℕ) (session : Session) → Grows s (with_session s t session)
  sessions_grow t session = record { members = refl; coords = refl; decided = λ u h. h }

  asked_grows : (t : ℕ) (session : Session) (b : Bool) → Grows s (marked_asked s t session b)
  asked_grows t session true = record { members = refl; coords = refl; decided = λ u h. h }
  asked_grows t session false = stays s

  entered_grows : (t : ℕ) (session : Session) (m : ℕ) (o : Op) (reply : Option Reply) → Grows s (entered s t session m o reply)
  entered_grows t session m o None = stays s
  entered_grows t session m o (Some reply) = record { members = refl; coords = refl; decided = λ u h. h }

  begins : (t c : ℕ) (used up : Bool) → Grows s (begin_where s t c used up).state
  begins t c true up = stays s
  begins t c false true = at_c (with_session s t (begun_by (node.Coord c))) (sessions_grow t (begun_by (node.Coord c))) c (coord_begin (s.coord c) t)
  begins t c false false = stays s

  begins_local : (t m : ℕ) (used up : Bool) → Grows s (local_where s t m used up).state
  begins_local t m true up = stays s
  begins_local t m false true = sessions_grow t (begun_by (node.Member m))
  begins_local t m false false = stays s

  operates_by : (t m : ℕ) (o : Op) (session : Session) (up : Bool) (did : MemberStep) → Grows s (operated s t session m o up did).state
  operates_by t m o session false did = stays s
  operates_by t m o session true did = at_m (entered s t session m o (reply_in did.answer)) (entered_grows t session m o (reply_in did.answer)) m did

  operates : (t m : ℕ) (o : Op) (leave : Leave) → Grows s (operate_with s t m o leave).state
  operates t m o (Refuses a) = stays s
  operates t m o (Grants session) = operates_by t m o session (s.member m).up (member_op (s.member m) t (count_at session.told m) o)

  answers_c : (t : ℕ) (session : Session) (c : ℕ) (up : Bool) (did : CoordStep) → Grows s (coord_answers s t session c up did).state
  answers_c t session c false did = stays s
  answers_c t session c true did = at_c (marked_asked s t session (not (is_stopped did.answer))) (asked_grows t session (not (is_stopped did.answer))) c did

  answers_m : (t : ℕ) (session : Session) (m : ℕ) (up : Bool) (did : MemberStep) → Grows s (local_answers s t session m up did).state
  answers_m t session m false did = stays s
  answers_m t session m true did = at_m (marked_asked s t session (not (is_held did.answer))) (asked_grows t session (not (is_held did.answer))) m did

  commits_at : (t : ℕ) (session : Session) (at : Node) → Grows s (commit_at s t session at).state
  commits_at t session (node.Coord c) = answers_c t session c (s.coord c).up (coord_commit c (s.coord c) t (parts_of session.told))
  commits_at t session (node.Member m) = answers_m t session m (s.member m).up (member_local_commit m (s.member m) t (count_at session.told m))

  commits : (t : ℕ) (leave : Leave) → Grows s (commit_with s t leave).state
  commits t (Refuses a) = stays s
  commits t (Grants session) = commits_at t session session.by

  aborts_at : (t : ℕ) (session : Session) (at : Node) → Grows s (abort_at s t session at).state
  aborts_at t session (node.Coord c) = answers_c t session c (s.coord c).up (coord_abort c (s.coord c) t (parts_of session.told))
  aborts_at t session (node.Member m) = answers_m t session m (s.member m).up (member_local_abort (s.member m) t)

  aborts : (t : ℕ) (leave : Leave) → Grows s (abort_with s t leave).state
  aborts t (Refuses a) = stays s
  aborts t (Grants session) = aborts_at t session session.by

  of_member : (m : ℕ) (up : Bool) (did : MemberStep) → Grows s (up_member s m up did).state
  of_member m true did = at_m s (stays s) m did
  of_member m false did = stays s

  of_coord : (c : ℕ) (up : Bool) (did : CoordStep) → Grows s (up_coord s c up did).state
  of_coord c true did = at_c s (stays s) c did
  of_coord c false did = stays s

  arrival : (note : Message) → Grows s (arrives s note).state
  arrival (message.Prepare t c m n) = of_member m (s.member m).up (member_deliver m (s.member m) (message.Prepare t c m n))
  arrival (message.Decide t c m commit) = of_member m (s.member m).up (member_deliver m (s.member m) (message.Decide t c m commit))
  arrival (message.Vote t m c granted) = of_coord c (s.coord c).up (coord_deliver c (s.coord c) (message.Vote t m c granted))
  arrival (message.Ask t m c) = of_coord c (s.coord c).up (coord_deliver c (s.coord c) (message.Ask t m c))
  arrival (message.Ack t m c) = of_coord c (s.coord c).up (coord_deliver c (s.coord c) (message.Ack t m c))

  delivers : (note : Message) (b : Bool) → Grows s (if b then arrives s note else answers s answer.Unsent).state
  delivers note true = arrival note
  delivers note false = stays s

  timer : (t : ℕ) (at : Node) → Grows s (timer_at s t at).state
  timer t (node.Member m) = of_member m (s.member m).up (member_timer (s.member m) t)
  timer t (node.Coord c) = of_coord c (s.coord c).up (coord_timer c (s.coord c) t)

  crash : (at : Node) → Grows s (crash_at s at).state
  crash (node.Member m) = of_member m (s.member m).up (member_crash (s.member m))
  crash (node.Coord c) = of_coord c (s.coord c).up (coord_crash (s.coord c))

  restart : (at : Node) → Grows s (restart_at s at).state
  restart (node.Member m) = at_m s (stays s) m (member_restart (s.member m))
  restart (node.Coord c) = at_c s (stays s) c (coord_restart (s.coord c))

  arm : (call : ℕ) (leaves : Leaves) (at : Node) → Grows s (arm_at s call leaves at).state
  arm call leaves (node.Member m) = of_member m (s.member m).up (member_arm (s.member m) call leaves)
  arm call leaves (node.Coord c) = of_coord c (s.coord c).up (coord_arm (s.coord c) call leaves)

  checkpoint : (at : Node) → Grows s (checkpoint_at s at).state
  checkpoint (node.Member m) = of_member m (s.member m).up (member_checkpoint m (s.member m))
  checkpoint (node.Coord c) = of_coord c (s.coord c).up (coord_checkpoint c (s.coord c))

  line : (e : Event) → Grows s (step_line s e).state
  line (event.Begin t c) = begins t c (is_used s t) (s.coord c).up
  line (event.Local t m) = begins_local t m (is_used s t) (s.member m).up
  line (event.Read t m key) = operates t m (op.Read key) (leave_to_visit (look s.sessions t) m)
  line (event.Write t m key value) = operates t m (op.Write key value) (leave_to_visit (look s.sessions t) m)
  line (event.Erase t m key) = operates t m (op.Erase key) (leave_to_visit (look s.sessions t) m)
  line (event.Scan t m span) = operates t m (op.Scan span) (leave_to_visit (look s.sessions t) m)
  line (event.Commit t) = commits t (leave_to_end (look s.sessions t))
  line (event.Abort t) = aborts t (leave_to_end (look s.sessions t))
  line (event.Deliver note) = delivers note (was_sent s.sent note)
  line (event.Vote t m) = of_member m (s.member m).up (member_vote m (s.member m) t)
  line (event.Timer t at) = timer t at
  line (event.Ask t m) = of_member m (s.member m).up (member_ask m (s.member m) t)
  line (event.Resend t c) = of_coord c (s.coord c).up (coord_resend c (s.coord c) t)
  line (event.Crash at) = crash at
  line (event.Restart at) = restart at
  line (event.Arm at call leaves) = arm call leaves at
  line (event.Checkpoint at) = checkpoint at

  pub step_grows : (h : Happening) → Grows s (step s h).state
  step_grows (happening.Line e) = line e
  step_grows (happening.Hand t m commit) = of_member m (s.member m).up (member_decide m (s.member m) t (coord_of (s.member m) t) commit)
  step_grows happening.Disarm = record { members = refl; coords = refl; decided = λ t h. h }

pub run_grows : (hs : List Happening) (s : Federation) → Grows s (run hs s)
run_grows [] s = stays s
run_grows (h ∷ hs) s = grows_on s (step s h).state (run hs (step s h).state) (step_grows s h) (run_grows hs (step s h).state)
