-- What a step tells of decisions: the commit records among its items decide, each with what its session holds then.
use Rattle.std.proofs.Common.{◌≡◌, ℕ, Bool, true, false, not, if◌then◌else◌, List, [], ◌∷◌, ◌++◌, map, Option, None, Some, refl, sym, ap, ◌∙◌}
use Rattle.co_base.specs.declared.leaves.Leaves.{Leaves}
use Rattle.co_base.specs.declared.mark.Mark.{Mark}
use Rattle.co_base.specs.declared.node.Node.{Node}
use Rattle.co_base.specs.declared.node.Node.TheVariants as node
use Rattle.co_base.specs.declared.op.Op.{Op}
use Rattle.co_base.specs.declared.op.Op.TheVariants as op
use Rattle.co_base.specs.declared.reply.Reply.{Reply}
use Rattle.co_message.specs.declared.answer.Answer.{Answer}
use Rattle.co_message.specs.declared.answer.Answer.TheVariants as answer
use Rattle.co_message.specs.declared.event.Event.{Event}
use Rattle.co_message.specs.declared.event.Event.TheVariants as event
use Rattle.co_message.specs.declared.item.ItemKind.TheVariants as item
use Rattle.co_message.specs.declared.message.Message.{Message}
use Rattle.co_message.specs.declared.message.Message.TheVariants as message
use Rattle.co_state.specs.Table.{look}
use Rattle.co_plain.specs.declared.coord_step.CoordStep.{CoordStep}
use Rattle.co_plain.specs.declared.member_step.MemberStep.{MemberStep}
use Rattle.co_plain.specs.declared.session.Session.{Session}
use Rattle.co_plain.specs.Coordinator.{coord_begin}
use Rattle.co_plain.specs.CoordLog.{coord_restart}
use Rattle.co_plain.specs.MemberLog.{member_restart}
use Rattle.co_plain.specs.Federation.{Federation, Stepped, answers, at_member, at_coord, with_session, decide_all, items_of}
use Rattle.co_plain.specs.Sessions.{Leave, Refuses, Grants, leave_to_visit, leave_to_end, begun_by}
use Rattle.co_plain.specs.Step.{up_member, up_coord, is_used, begin_where, local_where, entered, operated, operate_with, marked_asked, coord_answers, local_answers, commit_at, commit_with, abort_at, abort_with, arrives, timer_at, crash_at, restart_at, arm_at, checkpoint_at, reply_in, is_stopped, is_held, step_line}
use Rattle.co_plain.specs.Wire.{was_sent}
use Rattle.co_trial.specs.Decisions.{marks_in}

marks_of_sent : (notes : List Message) (a : Answer) → marks_in (map item.Sent notes ++ item.Answered a ∷ []) ≡ []
marks_of_sent [] a = refl
marks_of_sent (n ∷ ns) a = marks_of_sent ns a

marks_of_items : (marks : List Mark) (notes : List Message) (a : Answer) → marks_in (items_of marks notes a) ≡ marks
marks_of_items [] notes a = marks_of_sent notes a
marks_of_items (m ∷ ms) notes a = ap (λ (rest : List Mark). m ∷ rest) (marks_of_items ms notes a)

-- the decisions of a step are those of its marks, by the sessions that it leaves
abbrev pub Decides : Federation → Stepped → Type 0
Decides s z = z.state.decided ≡ decide_all z.state.sessions s.decided (marks_in z.items)

module _ (s : Federation) where
  still : (z : Federation) → z.decided ≡ s.decided → (a : Answer) → Decides s (answers z a)
  still z e a = e

  at_m : (z : Federation) → z.decided ≡ s.decided → (m : ℕ) (did : MemberStep) → Decides s (at_member z m did)
  at_m z e m did = ap (λ ds. decide_all z.sessions ds did.marks) e ∙ ap (decide_all z.sessions s.decided) (sym (marks_of_items did.marks _ did.answer))

  at_c : (z : Federation) → z.decided ≡ s.decided → (c : ℕ) (did : CoordStep) → Decides s (at_coord z c did)
  at_c z e c did = ap (λ ds. decide_all z.sessions ds did.marks) e ∙ ap (decide_all z.sessions s.decided) (sym (marks_of_items did.marks did.sent did.answer))

  of_member : (m : ℕ) (up : Bool) (did : MemberStep) → Decides s (up_member s m up did)
  of_member m true did = at_m s refl m did
  of_member m false did = refl

  of_coord : (c : ℕ) (up : Bool) (did : CoordStep) → Decides s (up_coord s c up did)
  of_coord c true did = at_c s refl c did
  of_coord c false did = refl

  begins : (t c : ℕ) (used up : Bool) → Decides s (begin_where s t c used up)
  begins t c true up = refl
  begins t c false true = at_c (with_session s t (begun_by (node.Coord c))) refl c (coord_begin (s.coord c) t)
  begins t c false false = refl

  begins_local : (t m : ℕ) (used up : Bool) → Decides s (local_where s t m used up)
  begins_local t m true up = refl
  begins_local t m false true = refl
  begins_local t m false false = refl

  entered_same : (t : ℕ) (session : Session) (m : ℕ) (o : Op) (reply : Option Reply) → (entered s t session m o reply).decided ≡ s.decided
  entered_same t session m o None = refl
  entered_same t session m o (Some reply) = refl

  asked_same : (t : ℕ) (session : Session) (b : Bool) → (marked_asked s t session b).decided ≡ s.decided
  asked_same t session true = refl
  asked_same t session false = refl

  operates_by : (t : ℕ) (session : Session) (m : ℕ) (o : Op) (up : Bool) (did : MemberStep) → Decides s (operated s t session m o up did)
  operates_by t session m o true did = at_m (entered s t session m o (reply_in did.answer)) (entered_same t session m o (reply_in did.answer)) m did
  operates_by t session m o false did = refl

  operation : (t m : ℕ) (o : Op) (leave : Leave) → Decides s (operate_with s t m o leave)
  operation t m o (Refuses a) = refl
  operation t m o (Grants session) = operates_by t session m o (s.member m).up _

  answers_c : (t : ℕ) (session : Session) (c : ℕ) (up : Bool) (did : CoordStep) → Decides s (coord_answers s t session c up did)
  answers_c t session c true did = at_c (marked_asked s t session (not (is_stopped did.answer))) (asked_same t session (not (is_stopped did.answer))) c did
  answers_c t session c false did = refl

  answers_m : (t : ℕ) (session : Session) (m : ℕ) (up : Bool) (did : MemberStep) → Decides s (local_answers s t session m up did)
  answers_m t session m true did = at_m (marked_asked s t session (not (is_held did.answer))) (asked_same t session (not (is_held did.answer))) m did
  answers_m t session m false did = refl

  commits_at : (t : ℕ) (session : Session) (at : Node) → Decides s (commit_at s t session at)
  commits_at t session (node.Coord c) = answers_c t session c (s.coord c).up _
  commits_at t session (node.Member m) = answers_m t session m (s.member m).up _

  commits : (t : ℕ) (leave : Leave) → Decides s (commit_with s t leave)
  commits t (Refuses a) = refl
  commits t (Grants session) = commits_at t session session.by

  aborts_at : (t : ℕ) (session : Session) (at : Node) → Decides s (abort_at s t session at)
  aborts_at t session (node.Coord c) = answers_c t session c (s.coord c).up _
  aborts_at t session (node.Member m) = answers_m t session m (s.member m).up _

  ends : (t : ℕ) (leave : Leave) → Decides s (abort_with s t leave)
  ends t (Refuses a) = refl
  ends t (Grants session) = aborts_at t session session.by

  arrival : (note : Message) → Decides s (arrives s note)
  arrival (message.Prepare t c m count) = of_member m (s.member m).up _
  arrival (message.Decide t c m commit) = of_member m (s.member m).up _
  arrival (message.Vote t m c granted) = of_coord c (s.coord c).up _
  arrival (message.Ask t m c) = of_coord c (s.coord c).up _
  arrival (message.Ack t m c) = of_coord c (s.coord c).up _

  delivers : (note : Message) (b : Bool) → Decides s (if b then arrives s note else answers s answer.Unsent)
  delivers note true = arrival note
  delivers note false = refl

  timer : (t : ℕ) (at : Node) → Decides s (timer_at s t at)
  timer t (node.Member m) = of_member m (s.member m).up _
  timer t (node.Coord c) = of_coord c (s.coord c).up _

  crash : (at : Node) → Decides s (crash_at s at)
  crash (node.Member m) = of_member m (s.member m).up _
  crash (node.Coord c) = of_coord c (s.coord c).up _

  restart : (at : Node) → Decides s (restart_at s at)
  restart (node.Member m) = at_m s refl m (member_restart (s.member m))
  restart (node.Coord c) = at_c s refl c (coord_restart (s.coord c))

  arm : (call : ℕ) (leaves : Leaves) (at : Node) → Decides s (arm_at s call leaves at)
  arm call leaves (node.Member m) = of_member m (s.member m).up _
  arm call leaves (node.Coord c) = of_coord c (s.coord c).up _

  checkpoint : (at : Node) → Decides s (checkpoint_at s at)
  checkpoint (node.Member m) = of_member m (s.member m).up _
  checkpoint (node.Coord c) = of_coord c (s.coord c).up _

  pub line_decides : (e : Event) → Decides s (step_line s e)
  line_decides (event.Begin t c) = begins t c (is_used s t) (s.coord c).up
  line_decides (event.Local t m) = begins_local t m (is_used s t) (s.member m).up
  line_decides (event.Read t m key) = operation t m (op.Read key) (leave_to_visit (look s.sessions t) m)
  line_decides (event.Write t m key value) = operation t m (op.Write key value) (leave_to_visit (look s.sessions t) m)
  line_decides (event.Erase t m key) = operation t m (op.Erase key) (leave_to_visit (look s.sessions t) m)
  line_decides (event.Scan t m span) = operation t m (op.Scan span) (leave_to_visit (look s.sessions t) m)
  line_decides (event.Commit t) = commits t (leave_to_end (look s.sessions t))
  line_decides (event.Abort t) = ends t (leave_to_end (look s.sessions t))
  line_decides (event.Deliver note) = delivers note (was_sent s.sent note)
  line_decides (event.Vote t m) = of_member m (s.member m).up _
  line_decides (event.Timer t at) = timer t at
  line_decides (event.Ask t m) = of_member m (s.member m).up _
  line_decides (event.Resend t c) = of_coord c (s.coord c).up _
  line_decides (event.Crash at) = crash at
  line_decides (event.Restart at) = restart at
  line_decides (event.Arm at call leaves) = arm call leaves at
  line_decides (event.Checkpoint at) = checkpoint at
