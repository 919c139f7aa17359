-- What every event of a node keeps, each node has in every state of a run: each event of a run is one of its node's, and
-- meets the conditions of the call.
use Rattle.std.proofs.Common.{◌≡◌, ◌⊎◌, inl, inr, ℕ, Bool, true, false, not, ◌||◌, ◌&&◌, ◌==◌, ◌≤◌, nat_le, if◌then◌else◌, List, [], ◌∷◌, ◌++◌, Option, None, Some, refl, sym, ap, ◌∙◌, subst, arith}
use Rattle.std.proofs.lemmas.Bool.{or_left, or_right, or_from, or_cases, or_parts, and_parts, eqb-true, eq-eqb, false_from_ne_true}
use Rattle.std.proofs.lemmas.Bool.Decides.{nat_tests}
use Rattle.co_base.specs.declared.leaves.Leaves.{Leaves}
use Rattle.co_base.specs.Order.{IsAscending}
use Rattle.co_base.specs.declared.node.Node.{Node}
use Rattle.co_base.specs.declared.node.Node.TheVariants as node
use Rattle.co_base.specs.declared.op.Op.{Op}
use Rattle.co_base.specs.declared.op.Op.TheVariants as op
use Rattle.co_base.specs.declared.part.Part.{Part}
use Rattle.co_base.specs.declared.reply.Reply.{Reply}
use Rattle.co_message.specs.declared.answer.Answer.TheVariants as answer
use Rattle.co_message.specs.declared.event.Event.{Event}
use Rattle.co_message.specs.declared.event.Event.TheVariants as event
use Rattle.co_message.specs.declared.message.Message.{Message}
use Rattle.co_message.specs.declared.message.Message.TheVariants as message
use Rattle.co_record.specs.declared.record.Record.{Record}
use Rattle.co_record.specs.declared.record.Record.TheVariants as log
use Rattle.co_state.specs.Table.{look, holds}
use Rattle.co_plain.specs.declared.coord_state.CoordState.{CoordState}
use Rattle.co_plain.specs.declared.coord_step.CoordStep.{CoordStep}
use Rattle.co_plain.specs.declared.happening.Happening.{Happening}
use Rattle.co_plain.specs.declared.happening.Happening.TheVariants as happening
use Rattle.co_plain.specs.declared.member_state.MemberState.{MemberState}
use Rattle.co_plain.specs.declared.member_step.MemberStep.{MemberStep}
use Rattle.co_plain.specs.declared.session.Session.{Session}
use Rattle.co_plain.specs.CoordView.{has_commit_of, all_up_to}
use Rattle.co_plain.specs.CoordStep.{has_part, members_of}
use Rattle.co_plain.specs.Sessions.{Leave, Refuses, Grants, leave_to_visit, leave_to_end, parts_of, count_at, begun_by, unless_asked, may_visit}
use Rattle.co_base.specs.Nodes.{same_node}
use Rattle.co_plain.specs.Wire.{was_sent}
use Rattle.co_plain.specs.Federation.{Federation, answers, at_member, at_coord, with_session}
use Rattle.co_plain.specs.Decisions.{asked_in, is_decided}
use Rattle.co_plain.specs.Step.{up_member, up_coord, is_used, begin_where, local_where, entered, operated, operate_with, marked_asked, coord_answers, local_answers, commit_at, commit_with, abort_at, abort_with, arrives, timer_at, crash_at, restart_at, arm_at, checkpoint_at, reply_in, is_stopped, is_held, step_line, step}
use Rattle.co_plain.specs.Member.{coord_of, member_op, member_deliver, member_vote, member_timer, member_ask, member_decide}
use Rattle.co_plain.specs.MemberLog.{member_checkpoint, member_crash, member_restart, member_arm}
use Rattle.co_plain.specs.LocalCommit.{member_local_commit, member_local_abort}
use Rattle.co_plain.specs.Coordinator.{coord_begin, coord_commit, coord_abort, coord_deliver, coord_timer, coord_resend}
use Rattle.co_plain.specs.CoordLog.{coord_checkpoint, coord_crash, coord_restart, coord_arm}
use Rattle.co_plain.specs.Runs.{run}
use Rattle.co_plain.specs.Invariants.{Memory, view, stands}
use Rattle.co_law_base.proofs.Lookups.{found_holds}
use Rattle.co_law_base.proofs.Carrying.{at_each}
use Rattle.co_law_base.proofs.Facts.{by_coord}
use Rattle.co_law_base.proofs.Sending.{parts_told, parts_ascend}
use Rattle.co_law_moves.proofs.Own.{OwnFacts, spent}
use Rattle.co_law_moves.proofs.OwnRuns.{own_step}
use Rattle.co_plain.specs.Premises.{AreOwn, IsOwnNode}
use Rattle.co_plain.specs.Numbers.{IsAmong}
use Rattle.co_law_runs.proofs.Fitting.{FitSessions, step_fits}
use Rattle.co_law_node.specs.WholeMembers.{MemberStays}
use Rattle.co_law_node.specs.WholeCoords.{EndsAlone, CoordStays}

-- what each node of a federation has
pub record HaveNodes (P : ℕ → MemberState → Type 0) (Q : ℕ → CoordState → Type 0) (z : Federation) : Type 0 where
  pub members : (m : ℕ) → P m (z.member m)
  pub coords : (c : ℕ) → Q c (z.coord c)

-- participants that a commit may name: members, ascending
abbrev pub MayName : ℕ → List Part → Type 0
MayName n parts = (all_up_to n (members_of parts) ≡ true) × IsAscending (members_of parts)

-- what every event of a node keeps, in a federation with so many members and coordinators
pub record KeepAlways (n k : ℕ) (P : ℕ → MemberState → Type 0) (Q : ℕ → CoordState → Type 0) : Type 0 where
  pub member : (m : ℕ) (x : MemberState) → P m x → MemberStays (P m) k m x
  pub coord : (c : ℕ) (y : CoordState) → Q c y → CoordStays (Q c) (MayName n) c y
  pub ends : (c : ℕ) (y : CoordState) → Q c y → EndsAlone y.log.waiting

-- who may act was begun, and was not asked to end
pub record MayAct (o : Option Session) (session : Session) : Type 0 where
  pub begun : o ≡ Some session
  pub open' : session.asked ≡ false

unless_acts : (o : Option Session) (session granted : Session) → o ≡ Some session → unless_asked session ≡ Grants granted → MayAct o granted
unless_acts o session granted e h = by session.asked refl
  where
    by : (b : Bool) → session.asked ≡ b → MayAct o granted
    by true q = absurd (let z : Refuses answer.Asked ≡ Grants granted = sym (ap (λ b. if b then Refuses answer.Asked else Grants session) q) ∙ h in cc)
    by false q =
        let same : Grants session ≡ Grants granted = sym (ap (λ b. if b then Refuses answer.Asked else Grants session) q) ∙ h in
        let is : session ≡ granted = cc in
        record { begun = e ∙ ap Some is; open' = ap (λ z. z.asked) (sym is) ∙ q }

pub visit_acts : (o : Option Session) (m : ℕ) (granted : Session) → leave_to_visit o m ≡ Grants granted → MayAct o granted
visit_acts None m granted h = absurd (let z : Refuses answer.NotBegun ≡ Grants granted = h in cc)
visit_acts (Some session) m granted h = by (may_visit session.by m) refl
  where
    by : (b : Bool) → may_visit session.by m ≡ b → MayAct (Some session) granted
    by true q = unless_acts (Some session) session granted refl (sym (ap (λ b. if b then unless_asked session else Refuses answer.NotBegun) q) ∙ h)
    by false q = absurd (let z : Refuses answer.NotBegun ≡ Grants granted = sym (ap (λ b. if b then unless_asked session else Refuses answer.NotBegun) q) ∙ h in cc)

pub end_acts : (o : Option Session) (granted : Session) → leave_to_end o ≡ Grants granted → MayAct o granted
end_acts None granted h = absurd (let z : Refuses answer.NotBegun ≡ Grants granted = h in cc)
end_acts (Some session) granted h = unless_acts (Some session) session granted refl h

three : (a b c : Bool) → a ≡ true → b ≡ true → c ≡ true → (a && b && c) ≡ true
three a b c p q r = rw (p, q, r)

-- participants are members where each of them is
each_up : (n : ℕ) (ps : List Part) → ((m : ℕ) → has_part ps m ≡ true → IsAmong m n) → all_up_to n (members_of ps) ≡ true
each_up n [] h = refl
each_up n (p ∷ ps) h =
    let own = h p.member (or_left (p.member == p.member) (has_part ps p.member) (eq-eqb p.member p.member refl)) in
    three (nat_le 1 p.member) (nat_le p.member n) (all_up_to n (members_of ps)) (grind (arith, nat_tests, own.0)) (grind (arith, nat_tests, own.1))
    (each_up n ps (λ m q. h m (or_right (p.member == m) (has_part ps m) q)))

-- waiting ends tell of no commit
ends_seen : (waiting stable : List Record) (t : ℕ) → EndsAlone waiting → has_commit_of (waiting ++ stable) t ≡ has_commit_of stable t
ends_seen [] stable t e = refl
ends_seen (log.End u ∷ rs) stable t e = ends_seen rs stable t e
ends_seen (log.Header a b ∷ rs) stable t e = absurd e
ends_seen (log.Prepare a b c d f ∷ rs) stable t e = absurd e
ends_seen (log.Commit a b ∷ rs) stable t e = absurd e
ends_seen (log.Abort a ∷ rs) stable t e = absurd e
ends_seen (log.Checkpoint a b c ∷ rs) stable t e = absurd e

-- who may act stands nowhere
pub acts_nowhere : (s : Federation) → OwnFacts s → (t m : ℕ) (session : Session) → MayAct (look s.sessions t) session → stands (view Memory (s.member m)) t ≡ false
acts_nowhere s f t m session a =
    false_from_ne_true _ (λ h. let z : true ≡ false = sym (((f.members m).views Memory).over t h) ∙ fresh in cc)
  where
    fresh : spent s.sessions s.used t ≡ false
    fresh = or_from _ _ (ap asked_in a.begun ∙ a.open') (f.numbers.new t (found_holds s.sessions t session a.begun))

module _ (n k : ℕ) (some : 1 ≤ k) (P : ℕ → MemberState → Type 0) (Q : ℕ → CoordState → Type 0) (keep : KeepAlways n k P Q) (s : Federation) (f : OwnFacts s) (q : FitSessions n k s.sessions) (w : HaveNodes P Q s) where
  by_m : (m : ℕ) → MemberStays (P m) k m (s.member m)
  by_m m = keep.member m (s.member m) (w.members m)

  by_c : (c : ℕ) → CoordStays (Q c) (MayName n) c (s.coord c)
  by_c c = keep.coord c (s.coord c) (w.coords c)

  -- of a state with the same nodes
  at_m : (z : Federation) → HaveNodes P Q z → (m : ℕ) (did : MemberStep) → P m did.state → HaveNodes P Q (at_member z m did).state
  at_m z g m did new = record { members = at_each P z.member m did.state new g.members; coords = g.coords }

  at_c : (z : Federation) → HaveNodes P Q z → (c : ℕ) (did : CoordStep) → Q c did.state → HaveNodes P Q (at_coord z c did).state
  at_c z g c did new = record { members = g.members; coords = at_each Q z.coord c did.state new g.coords }

  noted_session : (t : ℕ) (session : Session) → HaveNodes P Q (with_session s t session)
  noted_session t session = record { members = w.members; coords = w.coords }

  entered_nodes : (t : ℕ) (session : Session) (m : ℕ) (o : Op) (reply : Option Reply) → HaveNodes P Q (entered s t session m o reply)
  entered_nodes t session m o None = w
  entered_nodes t session m o (Some reply) = record { members = w.members; coords = w.coords }

  asked_nodes : (t : ℕ) (session : Session) (b : Bool) → HaveNodes P Q (marked_asked s t session b)
  asked_nodes t session true = record { members = w.members; coords = w.coords }
  asked_nodes t session false = w

  -- a number that may be begun has no commit
  new_number : (t c : ℕ) → is_used s t ≡ false → has_commit_of ((s.coord c).log.waiting ++ (s.coord c).log.stable) t ≡ false
  new_number t c h = ends_seen (s.coord c).log.waiting (s.coord c).log.stable t (keep.ends c (s.coord c) (w.coords c)) ∙ false_from_ne_true _ (λ d. known ((f.coords c).known t d))
    where
      parts : (holds s.sessions t ≡ false) × (holds s.used t ≡ false)
      parts = or_parts (holds s.sessions t) (holds s.used t) h

      known : ((by_coord (look s.sessions t) c && is_decided s.decided t) || has_commit_of (s.opened_coord c) t) ≡ true → ⊥
      known d = by (or_cases (by_coord (look s.sessions t) c && is_decided s.decided t) (has_commit_of (s.opened_coord c) t) d)
        where
          by : ((by_coord (look s.sessions t) c && is_decided s.decided t) ≡ true) ⊎ (has_commit_of (s.opened_coord c) t ≡ true) → ⊥
          by (inl p) =
              let e = f.numbers.decided_begun t (and_parts (by_coord (look s.sessions t) c) (is_decided s.decided t) p).1 in
              let z : true ≡ false = sym e ∙ parts.0 in cc
          by (inr p) = let e = f.numbers.commit_used c t p in let z : true ≡ false = sym e ∙ parts.1 in cc

  -- a prepare that was sent is of an own coordinator
  pub asks_own : (t c m count : ℕ) → was_sent s.sent (message.Prepare t c m count) ≡ true → IsAmong c k
  asks_own t c m count h = by (look s.sessions t) refl (f.sent.prepares t c m count h).0
    where
      home : (session : Session) → look s.sessions t ≡ Some session → (at : Node) → session.by ≡ at → same_node at (node.Coord c) ≡ true → IsAmong c k
      home session e (node.Member m') p r = absurd (let z : false ≡ true = r in cc)
      home session e (node.Coord d) p r = subst (λ j. IsAmong j k) (eqb-true d c r) (subst (IsOwnNode n k) p (q t session e).home)

      by : (o : Option Session) → look s.sessions t ≡ o → by_coord o c ≡ true → IsAmong c k
      by None e r = absurd (let z : false ≡ true = r in cc)
      by (Some session) e r = home session e session.by refl r

  begins : (t c : ℕ) (used : Bool) → is_used s t ≡ used → (up : Bool) → (s.coord c).up ≡ up → HaveNodes P Q (begin_where s t c used up).state
  begins t c true e up u = w
  begins t c false e true u =
      at_c (with_session s t (begun_by (node.Coord c))) (noted_session t (begun_by (node.Coord c))) c (coord_begin (s.coord c) t)
      ((by_c c).begin t u (new_number t c e))
  begins t c false e false u = w

  begins_local : (t m : ℕ) (used up : Bool) → HaveNodes P Q (local_where s t m used up).state
  begins_local t m true up = w
  begins_local t m false true = noted_session t (begun_by (node.Member m))
  begins_local t m false false = w

  operates_by : (t m : ℕ) (o : Op) (session : Session) → MayAct (look s.sessions t) session → (up : Bool) → (s.member m).up ≡ up →
      HaveNodes P Q (operated s t session m o up (member_op (s.member m) t (count_at session.told m) o)).state
  operates_by t m o session a false u = w
  operates_by t m o session a true u =
      let did = member_op (s.member m) t (count_at session.told m) o in
      at_m (entered s t session m o (reply_in did.answer)) (entered_nodes t session m o (reply_in did.answer)) m did
      ((by_m m).operation t (count_at session.told m) o u (acts_nowhere s f t m session a))

  operates : (t m : ℕ) (o : Op) (leave : Leave) → leave_to_visit (look s.sessions t) m ≡ leave → HaveNodes P Q (operate_with s t m o leave).state
  operates t m o (Refuses a) e = w
  operates t m o (Grants session) e = operates_by t m o session (visit_acts (look s.sessions t) m session e) (s.member m).up refl

  answers_c : (t : ℕ) (session : Session) (c : ℕ) (up : Bool) (did : CoordStep) → (up ≡ true → Q c did.state) → HaveNodes P Q (coord_answers s t session c up did).state
  answers_c t session c false did new = w
  answers_c t session c true did new = at_c (marked_asked s t session (not (is_stopped did.answer))) (asked_nodes t session (not (is_stopped did.answer))) c did (new refl)

  answers_m : (t : ℕ) (session : Session) (m : ℕ) (up : Bool) (did : MemberStep) → (up ≡ true → P m did.state) → HaveNodes P Q (local_answers s t session m up did).state
  answers_m t session m false did new = w
  answers_m t session m true did new = at_m (marked_asked s t session (not (is_held did.answer))) (asked_nodes t session (not (is_held did.answer))) m did (new refl)

  -- the participants of a session are members, ascending
  parts_up : (t : ℕ) (session : Session) → MayAct (look s.sessions t) session → MayName n (parts_of session.told)
  parts_up t session a = (each_up n (parts_of session.told) (λ m h. (q t session a.begun).sites m (parts_told session.told m h)), parts_ascend session.told)

  commits_at : (t : ℕ) (session : Session) → MayAct (look s.sessions t) session → (at : Node) → HaveNodes P Q (commit_at s t session at).state
  commits_at t session a (node.Coord c) =
      answers_c t session c (s.coord c).up (coord_commit c (s.coord c) t (parts_of session.told))
      (λ u. (by_c c).commit t (parts_of session.told) u (parts_up t session a))
  commits_at t session a (node.Member m) =
      answers_m t session m (s.member m).up (member_local_commit m (s.member m) t (count_at session.told m))
      (λ u. (by_m m).local_commit t (count_at session.told m) some u (acts_nowhere s f t m session a))

  commits : (t : ℕ) (leave : Leave) → leave_to_end (look s.sessions t) ≡ leave → HaveNodes P Q (commit_with s t leave).state
  commits t (Refuses a) e = w
  commits t (Grants session) e = commits_at t session (end_acts (look s.sessions t) session e) session.by

  aborts_at : (t : ℕ) (session : Session) (at : Node) → HaveNodes P Q (abort_at s t session at).state
  aborts_at t session (node.Coord c) =
      answers_c t session c (s.coord c).up (coord_abort c (s.coord c) t (parts_of session.told))
      (λ u. (by_c c).abort t (parts_of session.told) u)
  aborts_at t session (node.Member m) =
      answers_m t session m (s.member m).up (member_local_abort (s.member m) t) (λ u. (by_m m).local_abort t u)

  aborts : (t : ℕ) (leave : Leave) → HaveNodes P Q (abort_with s t leave).state
  aborts t (Refuses a) = w
  aborts t (Grants session) = aborts_at t session session.by

  of_member : (m : ℕ) (up : Bool) (did : MemberStep) → (up ≡ true → P m did.state) → HaveNodes P Q (up_member s m up did).state
  of_member m true did new = at_m s w m did (new refl)
  of_member m false did new = w

  of_coord : (c : ℕ) (up : Bool) (did : CoordStep) → (up ≡ true → Q c did.state) → HaveNodes P Q (up_coord s c up did).state
  of_coord c true did new = at_c s w c did (new refl)
  of_coord c false did new = w

  arrival : (note : Message) → was_sent s.sent note ≡ true → HaveNodes P Q (arrives s note).state
  arrival (message.Prepare t c m count) h =
      of_member m (s.member m).up (member_deliver m (s.member m) (message.Prepare t c m count))
      (λ u. (by_m m).prepare t c count (asks_own t c m count h) (f.sent.prepares t c m count h).2 u)
  arrival (message.Decide t c m commit) h =
      of_member m (s.member m).up (member_deliver m (s.member m) (message.Decide t c m commit)) (λ u. (by_m m).decision t c commit u)
  arrival (message.Vote t m c granted) h =
      of_coord c (s.coord c).up (coord_deliver c (s.coord c) (message.Vote t m c granted)) (λ u. (by_c c).vote t m granted u)
  arrival (message.Ask t m c) h =
      of_coord c (s.coord c).up (coord_deliver c (s.coord c) (message.Ask t m c)) (λ u. (by_c c).question t m)
  arrival (message.Ack t m c) h =
      of_coord c (s.coord c).up (coord_deliver c (s.coord c) (message.Ack t m c)) (λ u. (by_c c).acknowledgement t m u)

  delivers : (note : Message) (b : Bool) → was_sent s.sent note ≡ b → HaveNodes P Q (if b then arrives s note else answers s answer.Unsent).state
  delivers note true h = arrival note h
  delivers note false h = w

  timer : (t : ℕ) (at : Node) → HaveNodes P Q (timer_at s t at).state
  timer t (node.Member m) = of_member m (s.member m).up (member_timer (s.member m) t) (λ u. (by_m m).timer t u)
  timer t (node.Coord c) = of_coord c (s.coord c).up (coord_timer c (s.coord c) t) (λ u. (by_c c).timer t u)

  crash : (at : Node) → HaveNodes P Q (crash_at s at).state
  crash (node.Member m) = of_member m (s.member m).up (member_crash (s.member m)) (λ u. (by_m m).crash)
  crash (node.Coord c) = of_coord c (s.coord c).up (coord_crash (s.coord c)) (λ u. (by_c c).crash)

  restart : (at : Node) → HaveNodes P Q (restart_at s at).state
  restart (node.Member m) = at_m s w m (member_restart (s.member m)) ((by_m m).restart)
  restart (node.Coord c) = at_c s w c (coord_restart (s.coord c)) ((by_c c).restart)

  arm : (call : ℕ) (leaves : Leaves) (at : Node) → HaveNodes P Q (arm_at s call leaves at).state
  arm call leaves (node.Member m) = of_member m (s.member m).up (member_arm (s.member m) call leaves) (λ u. (by_m m).armed call leaves u)
  arm call leaves (node.Coord c) = of_coord c (s.coord c).up (coord_arm (s.coord c) call leaves) (λ u. (by_c c).armed call leaves u)

  checkpoint : (at : Node) → HaveNodes P Q (checkpoint_at s at).state
  checkpoint (node.Member m) = of_member m (s.member m).up (member_checkpoint m (s.member m)) (λ u. (by_m m).checkpoint u)
  checkpoint (node.Coord c) = of_coord c (s.coord c).up (coord_checkpoint c (s.coord c)) (λ u. (by_c c).checkpoint u)

  line : (e : Event) → HaveNodes P Q (step_line s e).state
  line (event.Begin t c) = begins t c (is_used s t) refl (s.coord c).up refl
  line (event.Local t m) = begins_local t m (is_used s t) (s.member m).up
  line (event.Read t m key) = operates t m (op.Read key) (leave_to_visit (look s.sessions t) m) refl
  line (event.Write t m key value) = operates t m (op.Write key value) (leave_to_visit (look s.sessions t) m) refl
  line (event.Erase t m key) = operates t m (op.Erase key) (leave_to_visit (look s.sessions t) m) refl
  line (event.Scan t m span) = operates t m (op.Scan span) (leave_to_visit (look s.sessions t) m) refl
  line (event.Commit t) = commits t (leave_to_end (look s.sessions t)) refl
  line (event.Abort t) = aborts t (leave_to_end (look s.sessions t))
  line (event.Deliver note) = delivers note (was_sent s.sent note) refl
  line (event.Vote t m) = of_member m (s.member m).up (member_vote m (s.member m) t) (λ u. (by_m m).vote t u)
  line (event.Timer t at) = timer t at
  line (event.Ask t m) = of_member m (s.member m).up (member_ask m (s.member m) t) (λ u. (by_m m).question t)
  line (event.Resend t c) = of_coord c (s.coord c).up (coord_resend c (s.coord c) t) (λ u. (by_c c).resending t)
  line (event.Crash at) = crash at
  line (event.Restart at) = restart at
  line (event.Arm at call leaves) = arm call leaves at
  line (event.Checkpoint at) = checkpoint at

  pub step_nodes : (h : Happening) → HaveNodes P Q (step s h).state
  step_nodes (happening.Line e) = line e
  step_nodes (happening.Hand t m commit) =
      of_member m (s.member m).up (member_decide m (s.member m) t (coord_of (s.member m) t) commit)
      (λ u. (by_m m).decision t (coord_of (s.member m) t) commit u)
  step_nodes happening.Disarm =
      record { members = λ m. (by_m m).disarmed; coords = λ c. (by_c c).disarmed }

pub run_nodes : (n k : ℕ) → 1 ≤ k → (P : ℕ → MemberState → Type 0) (Q : ℕ → CoordState → Type 0) → KeepAlways n k P Q →
    (hs : List Happening) (s : Federation) → OwnFacts s → FitSessions n k s.sessions → HaveNodes P Q s → AreOwn n k hs → HaveNodes P Q (run hs s)
run_nodes n k some P Q keep [] s f q w own = w
run_nodes n k some P Q keep (h ∷ hs) s f q w own =
    run_nodes n k some P Q keep hs (step s h).state (own_step s f h) (step_fits n k s q h own.0).sessions (step_nodes n k some P Q keep s f q w h) own.1
