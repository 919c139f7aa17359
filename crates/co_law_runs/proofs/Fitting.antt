-- Sessions of a run over own nodes are at own nodes, and the federation's nodes stay.
use Rattle.std.proofs.Common.{◌≡◌, ◌≢◌, ◌⊎◌, inl, inr, ℕ, Bool, true, false, not, ◌==◌, ◌≤◌, ◌<◌, ◌+◌, if◌then◌else◌, List, [], ◌∷◌, Option, None, Some, refl, sym, ◌∙◌, subst, arith}
use Rattle.std.proofs.lemmas.Bool.{eqb-true}
use Rattle.std.proofs.lemmas.Bool.Decides.{nat_tests}
use Rattle.co_base.specs.declared.leaves.Leaves.{Leaves}
use Rattle.co_base.specs.declared.node.Node.{Node}
use Rattle.co_base.specs.declared.node.Node.TheVariants as node
use Rattle.co_base.specs.declared.op.Op.{Op}
use Rattle.co_base.specs.declared.op.Op.TheVariants as op
use Rattle.co_base.specs.declared.reply.Reply.{Reply}
use Rattle.co_base.specs.Limits.{most_operations}
use Rattle.co_message.specs.declared.answer.Answer.TheVariants as answer
use Rattle.co_message.specs.declared.event.Event.{Event}
use Rattle.co_message.specs.declared.event.Event.TheVariants as event
use Rattle.co_message.specs.declared.message.Message.{Message}
use Rattle.co_message.specs.declared.message.Message.TheVariants as message
use Rattle.co_state.specs.LockRule.{lock_blocker}
use Rattle.co_state.specs.Table.{Table, look, put}
use Rattle.co_state.specs.VotingRule.{kept_count}
use Rattle.co_plain.specs.declared.coord_step.CoordStep.{CoordStep}
use Rattle.co_plain.specs.declared.happening.Happening.{Happening}
use Rattle.co_plain.specs.declared.happening.Happening.TheVariants as happening
use Rattle.co_plain.specs.declared.member_state.MemberState.{MemberState}
use Rattle.co_plain.specs.declared.member_step.MemberStep.{MemberStep}
use Rattle.co_plain.specs.declared.session.Told.{Told}
use Rattle.co_plain.specs.declared.session.Session.{Session}
use Rattle.co_plain.specs.Numbers.{counted, IsAmong}
use Rattle.co_plain.specs.MemberStep.{says}
use Rattle.co_plain.specs.Member.{unless_blocked, coord_of, member_deliver, member_vote, member_timer, member_ask, member_decide, member_op}
use Rattle.co_plain.specs.MemberLog.{member_checkpoint, member_crash, member_restart, member_arm}
use Rattle.co_plain.specs.LocalCommit.{member_local_commit, member_local_abort}
use Rattle.co_plain.specs.Coordinator.{coord_begin, coord_commit, coord_abort, coord_deliver, coord_timer, coord_resend}
use Rattle.co_plain.specs.CoordLog.{coord_checkpoint, coord_crash, coord_restart, coord_arm}
use Rattle.co_plain.specs.Sessions.{Leave, Refuses, Grants, leave_to_visit, leave_to_end, parts_of, count_at, begun_by, with_told, asked_to_end, unless_asked, may_visit}
use Rattle.co_plain.specs.Wire.{was_sent}
use Rattle.co_plain.specs.Federation.{Federation, answers, at_member, at_coord, with_session}
use Rattle.co_plain.specs.Step.{up_member, up_coord, is_used, begin_where, local_where, entered, operated, operate_with, marked_asked, coord_answers, local_answers, commit_at, commit_with, abort_at, abort_with, arrives, timer_at, crash_at, restart_at, arm_at, checkpoint_at, reply_in, is_stopped, is_held, step_line, step}
use Rattle.co_plain.specs.Runs.{run}
use Rattle.co_law_base.proofs.Lookups.{put_cases}
use Rattle.co_plain.specs.Premises.{NamesOwnNode, IsOwn, AreOwn, IsOwnNode, IsOwnSession}

abbrev pub FitSessions : ℕ → ℕ → Table Session → Type 0
FitSessions n k sessions = (t : ℕ) (session : Session) → look sessions t ≡ Some session → IsOwnSession n k session

pub record Fit (n k : ℕ) (s z : Federation) : Type 0 where
  pub sessions : FitSessions n k z.sessions
  pub kinds : z.kinds ≡ s.kinds
  pub coordinators : z.coordinators ≡ s.coordinators

put_fits : (n k : ℕ) (sessions : Table Session) (t : ℕ) (new : Session) → FitSessions n k sessions → IsOwnSession n k new → FitSessions n k (put sessions t new)
put_fits n k sessions t new old fits u session e = by (put_cases sessions t new u session e)
  where
    by : ((t ≡ u) × (new ≡ session)) ⊎ ((t ≢ u) × (look sessions u ≡ Some session)) → IsOwnSession n k session
    by (inl p) = subst (IsOwnSession n k) p.1 fits
    by (inr p) = old u session p.1

told_fits : (n k m : ℕ) (o : Told) (session : Session) → o.site.member ≡ m → IsAmong m n → count_at session.told m < most_operations → IsOwnSession n k session →
    IsOwnSession n k (with_told session o)
told_fits n k m o session e own room f = record { home = f.home; sites = λ j h. by j (o.site.member == j) refl h; few = λ j. short j (o.site.member == j) refl }
  where
    short : (j : ℕ) (b : Bool) → (o.site.member == j) ≡ b → (if o.site.member == j then count_at session.told j + 1 else count_at session.told j) ≤ most_operations
    short j true q =
        let more : count_at session.told j < most_operations = subst (λ i. count_at session.told i < most_operations) (sym e ∙ eqb-true o.site.member j q) room in
        subst (λ b. (if b then count_at session.told j + 1 else count_at session.told j) ≤ most_operations) (sym q) (omega (arith, more))
    short j false q = subst (λ b. (if b then count_at session.told j + 1 else count_at session.told j) ≤ most_operations) (sym q) (f.few j)

    by : (j : ℕ) (b : Bool) → (o.site.member == j) ≡ b → 1 ≤ (if o.site.member == j then count_at session.told j + 1 else count_at session.told j) → IsAmong j n
    by j true q h = subst (λ i. IsAmong i n) (sym e ∙ eqb-true o.site.member j q) own
    by j false q h = f.sites j (subst (λ b. 1 ≤ (if b then count_at session.told j + 1 else count_at session.told j)) q h)

abbrev LeaveFits : ℕ → ℕ → Leave → Type 0
LeaveFits n k (Refuses a) = Unit {0}
LeaveFits n k (Grants session) = IsOwnSession n k session

unless_fits : (n k : ℕ) (session : Session) → IsOwnSession n k session → LeaveFits n k (unless_asked session)
unless_fits n k session f = by session.asked
  where
    by : (b : Bool) → LeaveFits n k (if b then Refuses answer.Asked else Grants session)
    by true = tt
    by false = f

visit_fits : (n k m : ℕ) (o : Option Session) → ((session : Session) → o ≡ Some session → IsOwnSession n k session) → LeaveFits n k (leave_to_visit o m)
visit_fits n k m None f = tt
visit_fits n k m (Some session) f = by (may_visit session.by m)
  where
    by : (b : Bool) → LeaveFits n k (if b then unless_asked session else Refuses answer.NotBegun)
    by true = unless_fits n k session (f session refl)
    by false = tt

end_fits : (n k : ℕ) (o : Option Session) → ((session : Session) → o ≡ Some session → IsOwnSession n k session) → LeaveFits n k (leave_to_end o)
end_fits n k None f = tt
end_fits n k (Some session) f = unless_fits n k session (f session refl)

module _ (n k : ℕ) (s : Federation) (q : FitSessions n k s.sessions) where
  stays : Fit n k s s
  stays = record { sessions = q; kinds = refl; coordinators = refl }

  at_m : (z : Federation) → Fit n k s z → (m : ℕ) (did : MemberStep) → Fit n k s (at_member z m did).state
  at_m z g m did = record { sessions = g.sessions; kinds = g.kinds; coordinators = g.coordinators }

  at_c : (z : Federation) → Fit n k s z → (c : ℕ) (did : CoordStep) → Fit n k s (at_coord z c did).state
  at_c z g c did = record { sessions = g.sessions; kinds = g.kinds; coordinators = g.coordinators }

  sessions_grow : (t : ℕ) (session : Session) → IsOwnSession n k session → Fit n k s (with_session s t session)
  sessions_grow t session fits = record { sessions = put_fits n k s.sessions t session q fits; kinds = refl; coordinators = refl }

  asked_grows : (t : ℕ) (session : Session) → IsOwnSession n k session → (b : Bool) → Fit n k s (marked_asked s t session b)
  asked_grows t session fits true = sessions_grow t (asked_to_end session) (record { home = fits.home; sites = fits.sites; few = fits.few })
  asked_grows t session fits false = stays

  entered_grows : (t : ℕ) (session : Session) (m : ℕ) (o : Op) → IsAmong m n → IsOwnSession n k session → (reply : Option Reply) →
      ((r : Reply) → reply ≡ Some r → count_at session.told m < most_operations) → Fit n k s (entered s t session m o reply)
  entered_grows t session m o own fits None room = stays
  entered_grows t session m o own fits (Some reply) room =
      sessions_grow t _ (told_fits n k m (record { site = record { member = m; op = o }; reply = reply }) session refl own (room reply refl) fits)

  -- who has the most operations gets no further reply
  replied : (x : MemberState) (t carried : ℕ) (o : Op) → carried ≤ most_operations → (r : Reply) → reply_in (member_op x t carried o).answer ≡ Some r → carried < most_operations
  replied x t carried o few r h = by (kept_count x.engine t == carried) (carried == most_operations) refl h
    where
      by : (kept most : Bool) → (carried == most_operations) ≡ most →
          reply_in (if kept then (if most then says x answer.TooMany else unless_blocked x t o (lock_blocker x.engine t o)) else says x (answer.Gone (counted (kept_count x.engine t)) (counted carried))).answer ≡ Some r →
          carried < most_operations
      by false most e q = absurd (let z : None ≡ Some r = q in cc)
      by true true e q = absurd (let z : None ≡ Some r = q in cc)
      by true false e q = grind (arith, nat_tests, few, e)

  new_fits : (at : Node) → IsOwnNode n k at → IsOwnSession n k (begun_by at)
  new_fits at home = record { home = home; sites = λ m h. absurd (omega (arith, h)); few = λ m. omega arith }

  begins : (t c : ℕ) → IsAmong c k → (used up : Bool) → Fit n k s (begin_where s t c used up).state
  begins t c own true up = stays
  begins t c own false true = at_c (with_session s t (begun_by (node.Coord c))) (sessions_grow t (begun_by (node.Coord c)) (new_fits (node.Coord c) own)) c (coord_begin (s.coord c) t)
  begins t c own false false = stays

  begins_local : (t m : ℕ) → IsAmong m n → (used up : Bool) → Fit n k s (local_where s t m used up).state
  begins_local t m own true up = stays
  begins_local t m own false true = sessions_grow t (begun_by (node.Member m)) (new_fits (node.Member m) own)
  begins_local t m own false false = stays

  operates_by : (t m : ℕ) (o : Op) (session : Session) → IsAmong m n → IsOwnSession n k session → (up : Bool) →
      Fit n k s (operated s t session m o up (member_op (s.member m) t (count_at session.told m) o)).state
  operates_by t m o session own fits false = stays
  operates_by t m o session own fits true =
      let did = member_op (s.member m) t (count_at session.told m) o in
      at_m (entered s t session m o (reply_in did.answer))
      (entered_grows t session m o own fits (reply_in did.answer) (λ r h. replied (s.member m) t (count_at session.told m) o (fits.few m) r h)) m did

  operates : (t m : ℕ) (o : Op) → IsAmong m n → (leave : Leave) → LeaveFits n k leave → Fit n k s (operate_with s t m o leave).state
  operates t m o own (Refuses a) fits = stays
  operates t m o own (Grants session) fits = operates_by t m o session own fits (s.member m).up

  answers_c : (t : ℕ) (session : Session) → IsOwnSession n k session → (c : ℕ) (up : Bool) (did : CoordStep) → Fit n k s (coord_answers s t session c up did).state
  answers_c t session fits c false did = stays
  answers_c t session fits c true did = at_c (marked_asked s t session (not (is_stopped did.answer))) (asked_grows t session fits (not (is_stopped did.answer))) c did

  answers_m : (t : ℕ) (session : Session) → IsOwnSession n k session → (m : ℕ) (up : Bool) (did : MemberStep) → Fit n k s (local_answers s t session m up did).state
  answers_m t session fits m false did = stays
  answers_m t session fits m true did = at_m (marked_asked s t session (not (is_held did.answer))) (asked_grows t session fits (not (is_held did.answer))) m did

  commits_at : (t : ℕ) (session : Session) → IsOwnSession n k session → (at : Node) → Fit n k s (commit_at s t session at).state
  commits_at t session fits (node.Coord c) = answers_c t session fits c (s.coord c).up (coord_commit c (s.coord c) t (parts_of session.told))
  commits_at t session fits (node.Member m) = answers_m t session fits m (s.member m).up (member_local_commit m (s.member m) t (count_at session.told m))

  commits : (t : ℕ) (leave : Leave) → LeaveFits n k leave → Fit n k s (commit_with s t leave).state
  commits t (Refuses a) fits = stays
  commits t (Grants session) fits = commits_at t session fits session.by

  aborts_at : (t : ℕ) (session : Session) → IsOwnSession n k session → (at : Node) → Fit n k s (abort_at s t session at).state
  aborts_at t session fits (node.Coord c) = answers_c t session fits c (s.coord c).up (coord_abort c (s.coord c) t (parts_of session.told))
  aborts_at t session fits (node.Member m) = answers_m t session fits m (s.member m).up (member_local_abort (s.member m) t)

  aborts : (t : ℕ) (leave : Leave) → LeaveFits n k leave → Fit n k s (abort_with s t leave).state
  aborts t (Refuses a) fits = stays
  aborts t (Grants session) fits = aborts_at t session fits session.by

  of_member : (m : ℕ) (up : Bool) (did : MemberStep) → Fit n k s (up_member s m up did).state
  of_member m true did = at_m s (stays) m did
  of_member m false did = stays

  of_coord : (c : ℕ) (up : Bool) (did : CoordStep) → Fit n k s (up_coord s c up did).state
  of_coord c true did = at_c s (stays) c did
  of_coord c false did = stays

  arrival : (note : Message) → Fit n k s (arrives s note).state
  arrival (message.Prepare t c m n) = of_member m (s.member m).up (member_deliver m (s.member m) (message.Prepare t c m n))
  arrival (message.Decide t c m commit) = of_member m (s.member m).up (member_deliver m (s.member m) (message.Decide t c m commit))
  arrival (message.Vote t m c granted) = of_coord c (s.coord c).up (coord_deliver c (s.coord c) (message.Vote t m c granted))
  arrival (message.Ask t m c) = of_coord c (s.coord c).up (coord_deliver c (s.coord c) (message.Ask t m c))
  arrival (message.Ack t m c) = of_coord c (s.coord c).up (coord_deliver c (s.coord c) (message.Ack t m c))

  delivers : (note : Message) (b : Bool) → Fit n k s (if b then arrives s note else answers s answer.Unsent).state
  delivers note true = arrival note
  delivers note false = stays

  timer : (t : ℕ) (at : Node) → Fit n k s (timer_at s t at).state
  timer t (node.Member m) = of_member m (s.member m).up (member_timer (s.member m) t)
  timer t (node.Coord c) = of_coord c (s.coord c).up (coord_timer c (s.coord c) t)

  crash : (at : Node) → Fit n k s (crash_at s at).state
  crash (node.Member m) = of_member m (s.member m).up (member_crash (s.member m))
  crash (node.Coord c) = of_coord c (s.coord c).up (coord_crash (s.coord c))

  restart : (at : Node) → Fit n k s (restart_at s at).state
  restart (node.Member m) = at_m s (stays) m (member_restart (s.member m))
  restart (node.Coord c) = at_c s (stays) c (coord_restart (s.coord c))

  arm : (call : ℕ) (leaves : Leaves) (at : Node) → Fit n k s (arm_at s call leaves at).state
  arm call leaves (node.Member m) = of_member m (s.member m).up (member_arm (s.member m) call leaves)
  arm call leaves (node.Coord c) = of_coord c (s.coord c).up (coord_arm (s.coord c) call leaves)

  checkpoint : (at : Node) → Fit n k s (checkpoint_at s at).state
  checkpoint (node.Member m) = of_member m (s.member m).up (member_checkpoint m (s.member m))
  checkpoint (node.Coord c) = of_coord c (s.coord c).up (coord_checkpoint c (s.coord c))

  line : (e : Event) → NamesOwnNode n k e → Fit n k s (step_line s e).state
  line (event.Begin t c) own = begins t c own (is_used s t) (s.coord c).up
  line (event.Local t m) own = begins_local t m own (is_used s t) (s.member m).up
  line (event.Read t m key) own = operates t m (op.Read key) own (leave_to_visit (look s.sessions t) m) (visit_fits n k m (look s.sessions t) (λ session e. q t session e))
  line (event.Write t m key value) own = operates t m (op.Write key value) own (leave_to_visit (look s.sessions t) m) (visit_fits n k m (look s.sessions t) (λ session e. q t session e))
  line (event.Erase t m key) own = operates t m (op.Erase key) own (leave_to_visit (look s.sessions t) m) (visit_fits n k m (look s.sessions t) (λ session e. q t session e))
  line (event.Scan t m span) own = operates t m (op.Scan span) own (leave_to_visit (look s.sessions t) m) (visit_fits n k m (look s.sessions t) (λ session e. q t session e))
  line (event.Commit t) own = commits t (leave_to_end (look s.sessions t)) (end_fits n k (look s.sessions t) (λ session e. q t session e))
  line (event.Abort t) own = aborts t (leave_to_end (look s.sessions t)) (end_fits n k (look s.sessions t) (λ session e. q t session e))
  line (event.Deliver note) own = delivers note (was_sent s.sent note)
  line (event.Vote t m) own = of_member m (s.member m).up (member_vote m (s.member m) t)
  line (event.Timer t at) own = timer t at
  line (event.Ask t m) own = of_member m (s.member m).up (member_ask m (s.member m) t)
  line (event.Resend t c) own = of_coord c (s.coord c).up (coord_resend c (s.coord c) t)
  line (event.Crash at) own = crash at
  line (event.Restart at) own = restart at
  line (event.Arm at call leaves) own = arm call leaves at
  line (event.Checkpoint at) own = checkpoint at

  pub step_fits : (h : Happening) → IsOwn n k h → Fit n k s (step s h).state
  step_fits (happening.Line e) own = line e own
  step_fits (happening.Hand t m commit) own = of_member m (s.member m).up (member_decide m (s.member m) t (coord_of (s.member m) t) commit)
  step_fits happening.Disarm own = record { sessions = q; kinds = refl; coordinators = refl }

pub run_fits : (n k : ℕ) (hs : List Happening) (s : Federation) → FitSessions n k s.sessions → AreOwn n k hs → Fit n k s (run hs s)
run_fits n k [] s q own = record { sessions = q; kinds = refl; coordinators = refl }
run_fits n k (h ∷ hs) s q own =
    let first = step_fits n k s q h own.0 in
    let rest = run_fits n k hs (step s h).state first.sessions own.1 in
    record { sessions = rest.sessions; kinds = rest.kinds ∙ first.kinds; coordinators = rest.coordinators ∙ first.coordinators }
