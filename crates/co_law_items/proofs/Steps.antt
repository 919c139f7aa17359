-- Each event with its line leaves a federation that names such keys, values and numbers alone, and tells of such alone; and beside what waited
-- it tells of at most 18 items.
use Rattle.std.proofs.Common.{◌≡◌, ℕ, Bool, true, false, not, ◌+◌, ◌≤◌, ◌==◌, if◌then◌else◌, List, [], ◌∷◌, ◌++◌, length, map, Option, None, Some, refl, subst, arith, length-append}
use Rattle.std.proofs.lemmas.Bool.{eqb-false}
use Rattle.std.proofs.lemmas.List.{length-map}
use Rattle.std.specs.List.{AllByRecursion}
use Rattle.co_base.specs.declared.leaves.Leaves.{Leaves}
use Rattle.co_base.specs.declared.mark.Mark.{Mark}
use Rattle.co_base.specs.declared.node.Node.{Node}
use Rattle.co_base.specs.declared.node.Node.TheVariants as node
use Rattle.co_base.specs.declared.op.Op.{Op}
use Rattle.co_base.specs.declared.op.Op.TheVariants as op
use Rattle.co_base.specs.declared.reply.Reply.{Reply}
use Rattle.co_base.specs.Limits.{most_coordinators, most_members, most_operations}
use Rattle.co_message.specs.declared.answer.Answer.{Answer}
use Rattle.co_message.specs.declared.answer.Answer.TheVariants as answer
use Rattle.co_message.specs.declared.event.Event.{Event}
use Rattle.co_message.specs.declared.event.Event.TheVariants as event
use Rattle.co_message.specs.declared.item.ItemKind.TheVariants as item
use Rattle.co_message.specs.declared.message.Message.{Message}
use Rattle.co_message.specs.declared.message.Message.TheVariants as message
use Rattle.co_schedule.specs.View.{IsWithin, IsNode, IsTxn, IsMessageFor, IsEventFor}
use Rattle.co_state.specs.LockRule.{lock_blocker}
use Rattle.co_state.specs.ReadRule.{operation_reply}
use Rattle.co_state.specs.Table.{Table, look, put}
use Rattle.co_state.specs.VotingRule.{kept_count}
use Rattle.co_plain.specs.CoordLog.{coord_restart}
use Rattle.co_plain.specs.Coordinator.{coord_begin, coord_commit, coord_abort}
use Rattle.co_plain.specs.Federation.{Federation, Stepped, items_of, answers, with_member, with_coord, with_session, at_member, at_coord, message_list}
use Rattle.co_plain.specs.LocalCommit.{member_local_commit, member_local_abort}
use Rattle.co_plain.specs.Member.{unless_blocked, member_op}
use Rattle.co_plain.specs.MemberLog.{member_restart}
use Rattle.co_plain.specs.MemberStep.{says}
use Rattle.co_plain.specs.Numbers.{counted}
use Rattle.co_plain.specs.Sessions.{Leave, Refuses, Grants, may_visit, leave_to_visit, leave_to_end, count_at, parts_of, begun_by, with_told, asked_to_end}
use Rattle.co_plain.specs.Step.{up_member, up_coord, is_used, begin_where, local_where, reply_in, entered, operated, operate_with, is_stopped, is_held, marked_asked, coord_answers, local_answers, commit_at, commit_with, abort_at, abort_with, arrives, timer_at, crash_at, restart_at, arm_at, checkpoint_at, step_line}
use Rattle.co_plain.specs.Wire.{was_sent}
use Rattle.co_plain.specs.declared.coord_step.CoordStep.{CoordStep}
use Rattle.co_plain.specs.declared.member_step.MemberStep.{MemberStep}
use Rattle.co_plain.specs.declared.session.Session.{Session}
use Rattle.co_law_base.proofs.Carrying.{at_each}
use Rattle.co_law_items.proofs.Named.{Holds, holds_put, IsOpOf}
use Rattle.co_law_items.proofs.Answers.{IsAnswerOf, IsKindOf, items_named}
use Rattle.co_law_items.proofs.Members.{IsMemberOf, MemberDid, did_op, did_vote, did_ask, did_timer, did_local_abort, did_local_commit, did_crash, did_restart, did_arm, did_checkpoint, did_deliver}
use Rattle.co_law_items.proofs.Coords.{IsCoordOf, CoordDid, did_begin, did_commit, did_abort, did_coord_timer, did_resend, did_coord_deliver, did_coord_crash, did_coord_restart, did_coord_arm, did_coord_checkpoint}
use Rattle.co_law_items.proofs.Sessions.{IsSession, session_parts, more_told}
use Rattle.co_law_items.proofs.Weights.{weight, sum_changed, member_waits, coord_waits}

-- the session that a refusal did not come from
visited : (o : Option Session) (m : ℕ) (session : Session) → leave_to_visit o m ≡ Grants session → o ≡ Some session
visited None m session e = absurd (let z : Refuses answer.NotBegun ≡ Grants session = e in cc)
visited (Some old) m session e = by (may_visit old.by m) old.asked e
  where
    by : (may asked : Bool) → (if may then (if asked then Refuses answer.Asked else Grants old) else Refuses answer.NotBegun) ≡ Grants session → Some old ≡ Some session
    by false asked f = absurd (let z : Refuses answer.NotBegun ≡ Grants session = f in cc)
    by true true f = absurd (let z : Refuses answer.Asked ≡ Grants session = f in cc)
    by true false f = let z : Grants old ≡ Grants session = f in cc

ended : (o : Option Session) (session : Session) → leave_to_end o ≡ Grants session → o ≡ Some session
ended None session e = absurd (let z : Refuses answer.NotBegun ≡ Grants session = e in cc)
ended (Some old) session e = by old.asked e
  where
    by : (asked : Bool) → (if asked then Refuses answer.Asked else Grants old) ≡ Grants session → Some old ≡ Some session
    by true f = absurd (let z : Refuses answer.Asked ≡ Grants session = f in cc)
    by false f = let z : Grants old ≡ Grants session = f in cc

-- a refusal names nothing
module _ (P : List ℕ → Type 0) where
  refusal_visit : (o : Option Session) (m : ℕ) (a : Answer) → leave_to_visit o m ≡ Refuses a → IsAnswerOf P a
  refusal_visit None m a e = subst (IsAnswerOf P) (let z : Refuses answer.NotBegun ≡ Refuses a = e in let q : answer.NotBegun ≡ a = cc in q) tt
  refusal_visit (Some old) m a e = by (may_visit old.by m) old.asked e
    where
      by : (may asked : Bool) → (if may then (if asked then Refuses answer.Asked else Grants old) else Refuses answer.NotBegun) ≡ Refuses a → IsAnswerOf P a
      by false asked f = subst (IsAnswerOf P) (let z : Refuses answer.NotBegun ≡ Refuses a = f in let q : answer.NotBegun ≡ a = cc in q) tt
      by true true f = subst (IsAnswerOf P) (let z : Refuses answer.Asked ≡ Refuses a = f in let q : answer.Asked ≡ a = cc in q) tt
      by true false f = absurd (let z : Grants old ≡ Refuses a = f in cc)

  refusal_end : (o : Option Session) (a : Answer) → leave_to_end o ≡ Refuses a → IsAnswerOf P a
  refusal_end None a e = subst (IsAnswerOf P) (let z : Refuses answer.NotBegun ≡ Refuses a = e in let q : answer.NotBegun ≡ a = cc in q) tt
  refusal_end (Some old) a e = by old.asked e
    where
      by : (asked : Bool) → (if asked then Refuses answer.Asked else Grants old) ≡ Refuses a → IsAnswerOf P a
      by true f = subst (IsAnswerOf P) (let z : Refuses answer.Asked ≡ Refuses a = f in let q : answer.Asked ≡ a = cc in q) tt
      by false f = absurd (let z : Grants old ≡ Refuses a = f in cc)

  abbrev pub IsSessionAt : ℕ → Session → Type 0
  IsSessionAt t session = IsSession session

  -- a federation that names such keys, values and numbers alone
  pub record IsFederationOf (s : Federation) : Type 0 where
    pub members : (m : ℕ) → IsMemberOf P (s.member m)
    pub coords : (c : ℕ) → IsCoordOf P (s.coord c)
    pub sessions : Holds IsSessionAt s.sessions

  -- what a step leaves and tells
  pub record Goes (s : Federation) (z : Stepped) : Type 0 where
    pub state : IsFederationOf z.state
    pub items : AllByRecursion (IsKindOf P) z.items
    pub few : length z.items + weight z.state ≤ weight s + 18

  pub counts : (marks : List Mark) (messages : List Message) (a : Answer) → length (items_of marks messages a) ≡ length marks + (length messages + 1)
  counts marks messages a =
      let p = length-append (map item.Log marks) (map item.Sent messages ++ item.Answered a ∷ []) in
      let q = length-append (map item.Sent messages) (item.Answered a ∷ []) in
      let r = length-map marks item.Log in
      let t = length-map messages item.Sent in omega (arith, p, q, r, t)

  module _ (s : Federation) (n : IsFederationOf s) where
    say : (a : Answer) → IsAnswerOf P a → Goes s (answers s a)
    say a h = record { state = n; items = (h, tt); few = omega arith }

    -- other sessions, and a step of a member
    at_m : (sessions : Table Session) → Holds IsSessionAt sessions → (m : ℕ) → IsWithin 1 most_members m → (did : MemberStep) → MemberDid P (member_waits (s.member m)) did →
        Goes s (at_member (record s { sessions = sessions }) m did)
    at_m sessions k m own did d =
        record {
          state = record { members = at_each (λ i x. IsMemberOf P x) s.member m did.state d.state n.members; coords = n.coords; sessions = k };
          items = items_named P did.marks (message_list did.sent) did.answer d.marks d.sent d.answer;
          few = total;
        }
      where
        one : (o : Option Message) → length (message_list o) ≤ 1
        one None = omega arith
        one (Some note) = omega arith

        total : length (items_of did.marks (message_list did.sent) did.answer) + weight (with_member s m did.state) ≤ weight s + 18
        total =
            let i = counts did.marks (message_list did.sent) did.answer in
            let l = one did.sent in
            let f = d.few in
            let c = sum_changed member_waits s.member m did.state 16 own in omega (arith, i, l, f, c)

    at_c : (sessions : Table Session) → Holds IsSessionAt sessions → (c : ℕ) → IsWithin 1 most_coordinators c → (did : CoordStep) → CoordDid P (coord_waits (s.coord c)) did →
        Goes s (at_coord (record s { sessions = sessions }) c did)
    at_c sessions k c own did d =
        record {
          state = record { members = n.members; coords = at_each (λ i y. IsCoordOf P y) s.coord c did.state d.state n.coords; sessions = k };
          items = items_named P did.marks did.sent did.answer d.marks d.sent d.answer;
          few = total;
        }
      where
        total : length (items_of did.marks did.sent did.answer) + weight (with_coord s c did.state) ≤ weight s + 18
        total =
            let i = counts did.marks did.sent did.answer in
            let l = d.sent_few in
            let f = d.few in
            let w = sum_changed coord_waits s.coord c did.state 8 own in omega (arith, i, l, f, w)

    -- where the node is up
    members_go : (m : ℕ) → IsWithin 1 most_members m → (up : Bool) (did : MemberStep) → MemberDid P (member_waits (s.member m)) did → Goes s (up_member s m up did)
    members_go m own true did d = at_m s.sessions n.sessions m own did d
    members_go m own false did d = say (answer.Down (node.Member m)) own

    coords_go : (c : ℕ) → IsWithin 1 most_coordinators c → (up : Bool) (did : CoordStep) → CoordDid P (coord_waits (s.coord c)) did → Goes s (up_coord s c up did)
    coords_go c own true did d = at_c s.sessions n.sessions c own did d
    coords_go c own false did d = say (answer.Down (node.Coord c)) own

    new_session : (t : ℕ) (session : Session) → IsSession session → Holds IsSessionAt (put s.sessions t session)
    new_session t session h = holds_put IsSessionAt s.sessions n.sessions t session h

    begins : (t c : ℕ) → IsTxn t → IsWithin 1 most_coordinators c → (used up : Bool) → Goes s (begin_where s t c used up)
    begins t c small own true up = say answer.Used tt
    begins t c small own false true =
        at_c (put s.sessions t (begun_by (node.Coord c))) (new_session t (begun_by (node.Coord c)) (record { by = own; told = tt; few = λ m. omega arith })) c own
        (coord_begin (s.coord c) t) (did_begin P c own (s.coord c) (n.coords c) t small)
    begins t c small own false false = say (answer.Down (node.Coord c)) own

    begins_local : (t m : ℕ) → IsWithin 1 most_members m → (used up : Bool) → Goes s (local_where s t m used up)
    begins_local t m own true up = say answer.Used tt
    begins_local t m own false true =
        record {
          state = record {
            members = n.members;
            coords = n.coords;
            sessions = new_session t (begun_by (node.Member m)) (record { by = own; told = tt; few = λ k. omega arith });
          };
          items = (tt, tt);
          few = few;
        }
      where
        few : 1 + weight (with_session s t (begun_by (node.Member m))) ≤ weight s + 18
        few = omega arith
    begins_local t m own false false = say (answer.Down (node.Member m)) own

    -- ---- operations

    -- the session with what was told: only where there was room
    enters : (t m : ℕ) (o : Op) (session : Session) → IsSession session → IsWithin 1 most_members m →
        Holds IsSessionAt (entered s t session m o (reply_in (member_op (s.member m) t (count_at session.told m) o).answer)).sessions
    enters t m o session k own = by (kept_count (s.member m).engine t == count_at session.told m) (count_at session.told m == most_operations) refl
      where
        room : (count_at session.told m == most_operations) ≡ false → count_at session.told m + 1 ≤ most_operations
        room e = let f : count_at session.told m ≤ 1024 = k.few m in let d = eqb-false (count_at session.told m) 1024 e in grind (arith, f, d)

        told : (reply : Reply) → (count_at session.told m == most_operations) ≡ false →
            Holds IsSessionAt (put s.sessions t (with_told session (record { site = record { member = m; op = o }; reply = reply })))
        told reply e = new_session t _ (more_told session k (record { site = record { member = m; op = o }; reply = reply }) own (room e))

        free : (u : Option ℕ) → (count_at session.told m == most_operations) ≡ false → Holds IsSessionAt (entered s t session m o (reply_in (unless_blocked (s.member m) t o u).answer)).sessions
        free (Some u) e = n.sessions
        free None e = told (operation_reply (s.member m).engine t o) e

        by : (kept most : Bool) → (count_at session.told m == most_operations) ≡ most →
            Holds IsSessionAt
            (entered s t session m o
            (reply_in
            (if kept then (if most then says (s.member m) answer.TooMany else unless_blocked (s.member m) t o (lock_blocker (s.member m).engine t o))
            else says (s.member m) (answer.Gone (counted (kept_count (s.member m).engine t)) (counted (count_at session.told m)))).answer)).sessions
        by true true e = n.sessions
        by true false e = free (lock_blocker (s.member m).engine t o) e
        by false most e = n.sessions

    entered_goes : (t m : ℕ) (o : Op) (session : Session) (reply : Option Reply) → IsWithin 1 most_members m → (did : MemberStep) → MemberDid P (member_waits (s.member m)) did →
        Holds IsSessionAt (entered s t session m o reply).sessions → Goes s (at_member (entered s t session m o reply) m did)
    entered_goes t m o session None own did d h = at_m s.sessions h m own did d
    entered_goes t m o session (Some reply) own did d h = at_m _ h m own did d

    operates : (t m : ℕ) (o : Op) → IsTxn t → IsWithin 1 most_members m → IsOpOf P o → (leave : Leave) → leave_to_visit (look s.sessions t) m ≡ leave → Goes s (operate_with s t m o leave)
    operates t m o small own p (Refuses a) e = say a (refusal_visit (look s.sessions t) m a e)
    operates t m o small own p (Grants session) e = by (s.member m).up
      where
        known : IsSession session
        known = n.sessions t session (visited (look s.sessions t) m session e)

        did : MemberStep
        did = member_op (s.member m) t (count_at session.told m) o

        by : (up : Bool) → Goes s (operated s t session m o up did)
        by true =
            entered_goes t m o session (reply_in did.answer) own did (did_op P m own (s.member m) (n.members m) t (count_at session.told m) o small p)
            (enters t m o session known own)
        by false = say (answer.Down (node.Member m)) own

    -- ---- the end

    asked_session : (t : ℕ) (session : Session) → IsSession session → (b : Bool) → Holds IsSessionAt (marked_asked s t session b).sessions
    asked_session t session k true = new_session t (asked_to_end session) (record { by = k.by; told = k.told; few = k.few })
    asked_session t session k false = n.sessions

    asked_at_c : (t : ℕ) (session : Session) (b : Bool) → Holds IsSessionAt (marked_asked s t session b).sessions → (c : ℕ) → IsWithin 1 most_coordinators c → (did : CoordStep) →
        CoordDid P (coord_waits (s.coord c)) did → Goes s (at_coord (marked_asked s t session b) c did)
    asked_at_c t session true h c own did d = at_c _ h c own did d
    asked_at_c t session false h c own did d = at_c s.sessions h c own did d

    asked_at_m : (t : ℕ) (session : Session) (b : Bool) → Holds IsSessionAt (marked_asked s t session b).sessions → (m : ℕ) → IsWithin 1 most_members m → (did : MemberStep) →
        MemberDid P (member_waits (s.member m)) did → Goes s (at_member (marked_asked s t session b) m did)
    asked_at_m t session true h m own did d = at_m _ h m own did d
    asked_at_m t session false h m own did d = at_m s.sessions h m own did d

    coords_answer : (t : ℕ) (session : Session) → IsSession session → (c : ℕ) → IsWithin 1 most_coordinators c → (up : Bool) (did : CoordStep) → CoordDid P (coord_waits (s.coord c)) did →
        Goes s (coord_answers s t session c up did)
    coords_answer t session k c own true did d = asked_at_c t session (not (is_stopped did.answer)) (asked_session t session k (not (is_stopped did.answer))) c own did d
    coords_answer t session k c own false did d = say (answer.Down (node.Coord c)) own

    members_answer : (t : ℕ) (session : Session) → IsSession session → (m : ℕ) → IsWithin 1 most_members m → (up : Bool) (did : MemberStep) → MemberDid P (member_waits (s.member m)) did →
        Goes s (local_answers s t session m up did)
    members_answer t session k m own true did d = asked_at_m t session (not (is_held did.answer)) (asked_session t session k (not (is_held did.answer))) m own did d
    members_answer t session k m own false did d = say (answer.Down (node.Member m)) own

    commits_at : (t : ℕ) → IsTxn t → (session : Session) → IsSession session → (at : Node) → IsNode most_members most_coordinators at → Goes s (commit_at s t session at)
    commits_at t small session k (node.Coord c) own =
        coords_answer t session k c own (s.coord c).up (coord_commit c (s.coord c) t (parts_of session.told)) (did_commit P c own (s.coord c) (n.coords c) t (parts_of session.told) small (session_parts session k))
    commits_at t small session k (node.Member m) own =
        members_answer t session k m own (s.member m).up (member_local_commit m (s.member m) t (count_at session.told m))
        (did_local_commit P m own (s.member m) (n.members m) t (count_at session.told m) small)

    commits : (t : ℕ) → IsTxn t → (leave : Leave) → leave_to_end (look s.sessions t) ≡ leave → Goes s (commit_with s t leave)
    commits t small (Refuses a) e = say a (refusal_end (look s.sessions t) a e)
    commits t small (Grants session) e = let k = n.sessions t session (ended (look s.sessions t) session e) in commits_at t small session k session.by k.by

    aborts_at : (t : ℕ) → IsTxn t → (session : Session) → IsSession session → (at : Node) → IsNode most_members most_coordinators at → Goes s (abort_at s t session at)
    aborts_at t small session k (node.Coord c) own =
        coords_answer t session k c own (s.coord c).up (coord_abort c (s.coord c) t (parts_of session.told)) (did_abort P c own (s.coord c) (n.coords c) t (parts_of session.told) small (session_parts session k))
    aborts_at t small session k (node.Member m) own =
        members_answer t session k m own (s.member m).up (member_local_abort (s.member m) t) (did_local_abort P m own (s.member m) (n.members m) t)

    aborts_with : (t : ℕ) → IsTxn t → (leave : Leave) → leave_to_end (look s.sessions t) ≡ leave → Goes s (abort_with s t leave)
    aborts_with t small (Refuses a) e = say a (refusal_end (look s.sessions t) a e)
    aborts_with t small (Grants session) e = let k = n.sessions t session (ended (look s.sessions t) session e) in aborts_at t small session k session.by k.by

    -- ---- messages and nodes

    step_m : (m : ℕ) → IsWithin 1 most_members m → (did : MemberStep) → MemberDid P (member_waits (s.member m)) did → Goes s (up_member s m (s.member m).up did)
    step_m m own did d = members_go m own (s.member m).up did d

    step_c : (c : ℕ) → IsWithin 1 most_coordinators c → (did : CoordStep) → CoordDid P (coord_waits (s.coord c)) did → Goes s (up_coord s c (s.coord c).up did)
    step_c c own did d = coords_go c own (s.coord c).up did d

    delivered : (note : Message) → IsMessageFor most_members most_coordinators note → Goes s (arrives s note)
    delivered (message.Prepare t c m count) h = step_m m h.2 _ (did_deliver P m h.2 (s.member m) (n.members m) (message.Prepare t c m count) h)
    delivered (message.Decide t c m commit) h = step_m m h.2 _ (did_deliver P m h.2 (s.member m) (n.members m) (message.Decide t c m commit) h)
    delivered (message.Vote t m c granted) h = step_c c h.2 _ (did_coord_deliver P c h.2 (s.coord c) (n.coords c) (message.Vote t m c granted) h)
    delivered (message.Ask t m c) h = step_c c h.2 _ (did_coord_deliver P c h.2 (s.coord c) (n.coords c) (message.Ask t m c) h)
    delivered (message.Ack t m c) h = step_c c h.2 _ (did_coord_deliver P c h.2 (s.coord c) (n.coords c) (message.Ack t m c) h)

    delivers : (note : Message) → IsMessageFor most_members most_coordinators note → (b : Bool) → Goes s (if b then arrives s note else answers s answer.Unsent)
    delivers note h true = delivered note h
    delivers note h false = say answer.Unsent tt

    timers : (t : ℕ) → IsTxn t → (at : Node) → IsNode most_members most_coordinators at → Goes s (timer_at s t at)
    timers t small (node.Member m) own = step_m m own _ (did_timer P m own (s.member m) (n.members m) t)
    timers t small (node.Coord c) own = step_c c own _ (did_coord_timer P c own (s.coord c) (n.coords c) t small)

    crashes : (at : Node) → IsNode most_members most_coordinators at → Goes s (crash_at s at)
    crashes (node.Member m) own = step_m m own _ (did_crash P m own (s.member m) (n.members m))
    crashes (node.Coord c) own = step_c c own _ (did_coord_crash P c own (s.coord c) (n.coords c))

    restarts : (at : Node) → IsNode most_members most_coordinators at → Goes s (restart_at s at)
    restarts (node.Member m) own = at_m s.sessions n.sessions m own (member_restart (s.member m)) (did_restart P m own (s.member m) (n.members m))
    restarts (node.Coord c) own = at_c s.sessions n.sessions c own (coord_restart (s.coord c)) (did_coord_restart P c own (s.coord c) (n.coords c))

    arms : (call : ℕ) (leaves : Leaves) → IsWithin 1 4 call → (at : Node) → IsNode most_members most_coordinators at → Goes s (arm_at s call leaves at)
    arms call leaves h (node.Member m) own = step_m m own _ (did_arm P m own (s.member m) (n.members m) call leaves h)
    arms call leaves h (node.Coord c) own = step_c c own _ (did_coord_arm P c own (s.coord c) (n.coords c) call leaves h)

    checkpoints : (at : Node) → IsNode most_members most_coordinators at → Goes s (checkpoint_at s at)
    checkpoints (node.Member m) own = step_m m own _ (did_checkpoint P m own (s.member m) (n.members m))
    checkpoints (node.Coord c) own = step_c c own _ (did_coord_checkpoint P c own (s.coord c) (n.coords c))

  -- the keys that an event writes are such
  abbrev pub WritesOf : Event → Type 0
  WritesOf (event.Write t m key value) = P key
  WritesOf (event.Erase t m key) = P key
  WritesOf _ = Unit {0}

  pub goes : (s : Federation) → IsFederationOf s → (e : Event) → IsEventFor most_members most_coordinators e → WritesOf e → Goes s (step_line s e)
  goes s n (event.Begin t c) h w = begins s n t c h.0 h.1 (is_used s t) (s.coord c).up
  goes s n (event.Local t m) h w = begins_local s n t m h.1 (is_used s t) (s.member m).up
  goes s n (event.Read t m key) h w = operates s n t m (op.Read key) h.0 h.1 tt (leave_to_visit (look s.sessions t) m) refl
  goes s n (event.Write t m key value) h w = operates s n t m (op.Write key value) h.0 h.1 (w, h.3) (leave_to_visit (look s.sessions t) m) refl
  goes s n (event.Erase t m key) h w = operates s n t m (op.Erase key) h.0 h.1 w (leave_to_visit (look s.sessions t) m) refl
  goes s n (event.Scan t m span) h w = operates s n t m (op.Scan span) h.0 h.1 tt (leave_to_visit (look s.sessions t) m) refl
  goes s n (event.Commit t) h w = commits s n t h (leave_to_end (look s.sessions t)) refl
  goes s n (event.Abort t) h w = aborts_with s n t h (leave_to_end (look s.sessions t)) refl
  goes s n (event.Deliver note) h w = delivers s n note h (was_sent s.sent note)
  goes s n (event.Vote t m) h w = step_m s n m h.1 _ (did_vote P m h.1 (s.member m) (n.members m) t h.0)
  goes s n (event.Timer t at) h w = timers s n t h.0 at h.1
  goes s n (event.Ask t m) h w = step_m s n m h.1 _ (did_ask P m h.1 (s.member m) (n.members m) t h.0)
  goes s n (event.Resend t c) h w = step_c s n c h.1 _ (did_resend P c h.1 (s.coord c) (n.coords c) t)
  goes s n (event.Crash at) h w = crashes s n at h
  goes s n (event.Restart at) h w = restarts s n at h
  goes s n (event.Arm at call leaves) h w = arms s n call leaves h.1 at h.0
  goes s n (event.Checkpoint at) h w = checkpoints s n at h
