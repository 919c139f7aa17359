-- What a client may do, and what its session is after it: of the sessions of a federation on its logs as of those of the plain one.
use Rattle.std.proofs.Common.{◌≡◌, ◌≢◌, ◌⊎◌, inl, inr, ℕ, Bool, true, false, ◌||◌, ◌≤◌, ◌+◌, ◌++◌, [], ◌∷◌, cond, nat_le, arith, if◌then◌else◌, length, Option, None, Some, Ok, Err, refl, sym, ap, ◌∙◌, subst}
use Rattle.std.specs.Cmp.{nat_cmp_total}
use Rattle.std.specs.FinMap.{entries, keys, len-entries, len-insert}
use Rattle.std.proofs.lemmas.Bool.Decides.{nat_tests}
use Rattle.std.proofs.lemmas.List.{length-map, length_push}
use Rattle.co_base.specs.declared.head.Kind.{Kind}
use Rattle.co_base.specs.declared.node.Node.{Node}
use Rattle.co_base.specs.declared.node.Node.TheVariants as node
use Rattle.co_message.specs.declared.answer.Answer.{Answer}
use Rattle.co_message.specs.declared.answer.Answer.TheVariants as answer
use Rattle.co_state.specs.declared.engine_state.EngineState.{EngineState}
use Rattle.co_state.specs.Table.{Table, look, put, holds}
use Rattle.co_plain.specs.declared.session.Session.{Session}
use Rattle.co_plain.specs.Federation.{Federation, with_session}
use Rattle.co_plain.specs.Numbers.{has_number}
use Rattle.co_plain.specs.Sessions.{Leave, Refuses, Grants, may_visit, unless_asked, leave_to_visit, leave_to_end, begun_by}
use Rattle.co_plain.specs.Step.{is_used}
use Rattle.co_law_base.proofs.Lookups.{put_cases, found_holds}
use Rattle.co_schedule.specs.View.{IsNode}
use Rattle.co_session.specs.Clients.{Clients, is_used as is_used_in, is_full, changed, with_begun}
use Rattle.co_session.specs.Leaves.{IsLeave, leave_by, leave_in, refusal_of}
use Rattle.co_session.specs.declared.fault.SessionFault.{SessionFault}
use Rattle.co_world.specs.Counting.{AreCounted}
use Rattle.co_world.specs.Standing.{RepresentsWorld}
use Rattle.co_world.specs.declared.world.World.{World}
use Rattle.co_world.proofs.Nodes.{beside_session}

-- ---- leaves

pub record HasGranted (l : Leave) (by : Node) : Type 0 where
  pub session : Session
  pub is : l ≡ Grants session
  pub home : by ≡ session.by

pub record HasRefused (l : Leave) (fault : SessionFault) : Type 0 where
  pub answer : Answer
  pub is : l ≡ Refuses answer
  pub told : refusal_of fault ≡ Some answer

pub granted : (l : Leave) (by : Node) → IsLeave l (Ok by) → HasGranted l by
granted (Grants session) by h = record { session = session; is = refl; home = h }
granted (Refuses a) by h = absurd h

pub refused : (l : Leave) (fault : SessionFault) → IsLeave l (Err fault) → HasRefused l fault
refused (Grants session) fault h = absurd h
refused (Refuses a) fault h = record { answer = a; is = refl; told = h }

same_leave : (a b : Session) → Grants a ≡ Grants b → a ≡ b
same_leave a b e = cc

never_refused : {A : Type 0} (a : Answer) (session : Session) → Refuses a ≡ Grants session → A
never_refused a session e = absurd (cc)

unasked : (home session : Session) → unless_asked home ≡ Grants session → (home ≡ session) × (session.asked ≡ false)
unasked home session e = by home.asked refl e
  where
    by : (b : Bool) → home.asked ≡ b → (if b then Refuses answer.Asked else Grants home) ≡ Grants session → (home ≡ session) × (session.asked ≡ false)
    by true is h = never_refused answer.Asked session h
    by false is h = let same = same_leave home session h in (same, sym (ap (λ (k : Session). k.asked) same) ∙ is)

-- who may visit or end has a session, and was not asked to end
pub visit_granted : (o : Option Session) (m : ℕ) (session : Session) → leave_to_visit o m ≡ Grants session → (o ≡ Some session) × (session.asked ≡ false)
visit_granted None m session e = never_refused answer.NotBegun session e
visit_granted (Some home) m session e = by (may_visit home.by m) e
  where
    by : (b : Bool) → (if b then unless_asked home else Refuses answer.NotBegun) ≡ Grants session → (◌≡◌ {A = Option Session} (Some home) (Some session)) × (session.asked ≡ false)
    by true h = let two = unasked home session h in (ap Some two.0, two.1)
    by false h = never_refused answer.NotBegun session h

pub end_granted : (o : Option Session) (session : Session) → leave_to_end o ≡ Grants session → (o ≡ Some session) × (session.asked ≡ false)
end_granted None session e = never_refused answer.NotBegun session e
end_granted (Some home) session e = let two = unasked home session e in (ap Some two.0, two.1)

-- and who was not may end
pub may_end : (o : Option Session) (session : Session) → o ≡ Some session → session.asked ≡ false → leave_to_end o ≡ Grants session
may_end o session is not_asked = ap leave_to_end is ∙ ap (λ b. if b then Refuses answer.Asked else Grants session) not_asked

pub some_is : {A : Type 0} {a b : A} → Some a ≡ Some b → a ≡ b
some_is e = cc

-- ---- how many sessions there are

count_put : {X : Type 0} (table : Table X) (t : ℕ) (x : X) → length (keys (put table t x)) ≡ cond (holds table t) (length (keys table)) (length (keys table) + 1)
count_put table t x =
    length-map (entries (put table t x)) (λ e. e.0) ∙ sym (len-entries (put table t x)) ∙ len-insert nat_cmp_total table t x
    ∙ ap (λ n. cond (holds table t) n (n + 1)) (len-entries table ∙ sym (length-map (entries table) (λ e. e.0)))

count_new : {X : Type 0} (table : Table X) (t : ℕ) (x : X) → holds table t ≡ false → length (keys (put table t x)) ≡ length (keys table) + 1
count_new table t x none = count_put table t x ∙ ap (λ b. cond b (length (keys table)) (length (keys table) + 1)) none

count_same : {X : Type 0} (table : Table X) (t : ℕ) (x : X) → holds table t ≡ true → length (keys (put table t x)) ≡ length (keys table)
count_same table t x there = count_put table t x ∙ ap (λ b. cond b (length (keys table)) (length (keys table) + 1)) there

neither : (a b : Bool) → (a || b) ≡ false → (a ≡ false) × (b ≡ false)
neither true b e = absurd (let z : true ≡ false = e in cc)
neither false b e = (refl, e)

room_left : (begun used more : ℕ) → nat_le 65536 (begun + used) ≡ false → more ≡ begun + 1 → more + used ≤ 65536
room_left begun used more room is = grind (arith, nat_tests, room, is)

-- ---- one more session, or another one

module _ {E : Type 0} (takes : Kind → Type 0) (stands_for : E → EngineState → Type 0) (w : World E) (s : Federation) (r : RepresentsWorld takes stands_for w s) where
  pub used_alike : (t : ℕ) → is_used_in w.sessions t ≡ is_used s t
  used_alike t = ap (λ table. holds table t || has_number w.sessions.used t) r.sessions ∙ ap (λ b. holds s.sessions t || b) (r.used t)

  -- the leave that a client was given is the plain one
  pub leave_alike : (t : ℕ) (at : Option ℕ) → leave_in w.sessions t at ≡ leave_by (look s.sessions t) at
  leave_alike t at = ap (λ table. leave_by (look table t) at) r.sessions

  homes_put : (t : ℕ) (session : Session) → IsNode (length s.kinds) s.coordinators session.by → (u : ℕ) (other : Session) → look (put s.sessions t session) u ≡ Some other →
      IsNode (length s.kinds) s.coordinators other.by
  homes_put t session home u other is = by (put_cases s.sessions t session u other is)
    where
      by : ((t ≡ u) × (session ≡ other)) ⊎ ((t ≢ u) × (look s.sessions u ≡ Some other)) → IsNode (length s.kinds) s.coordinators other.by
      by (inl two) = subst (λ (k : Session). IsNode (length s.kinds) s.coordinators k.by) two.1 home
      by (inr two) = r.homes u other two.1

  pub session_put : (now : Clients) (t : ℕ) (session : Session) → now.sessions ≡ put w.sessions.sessions t session → now.used ≡ w.sessions.used → AreCounted now (put s.sessions t session) s.used →
      IsNode (length s.kinds) s.coordinators session.by → RepresentsWorld takes stands_for (record w { sessions = now }) (with_session s t session)
  session_put now t session is used counted home =
      record {
        cluster = beside_session takes stands_for w.cluster s t session r.cluster;
        sessions = is ∙ ap (λ table. put table t session) r.sessions;
        used = λ u. ap (λ numbers. has_number numbers u) used ∙ r.used u;
        counted = counted;
        wire = r.wire;
        homes = homes_put t session home;
      }

  -- a transaction is begun at a node
  pub begins : (now : Clients) (t : ℕ) (by : Node) → now ≡ with_begun w.sessions t by → is_used_in w.sessions t ≡ false → is_full w.sessions ≡ false → IsNode (length s.kinds) s.coordinators by →
      RepresentsWorld takes stands_for (record w { sessions = now }) (with_session s t (begun_by by))
  begins now t by is unused room home = session_put now t (begun_by by) (ap (λ (k : Clients). k.sessions) is) (ap (λ (k : Clients). k.used) is) counted home
    where
      new : holds s.sessions t ≡ false
      new = (neither (holds s.sessions t) (holds s.used t) (sym (used_alike t) ∙ unused)).0

      counted : AreCounted now (put s.sessions t (begun_by by)) s.used
      counted =
          subst (λ (k : Clients). AreCounted k (put s.sessions t (begun_by by)) s.used) (sym is)
          (record {
            begun = length_push w.sessions.begun t ∙ ap (λ n. n + 1) r.counted.begun ∙ sym (count_new s.sessions t (begun_by by) new);
            used = r.counted.used;
            few = let more = length_push w.sessions.begun t in room_left (length w.sessions.begun) (length w.sessions.used) (length (w.sessions.begun ++ t ∷ [])) room more;
          })

  -- a session is changed by its client, and stays at its home
  pub changes : (now : Clients) (t : ℕ) (change : Session → Session) (session : Session) → look s.sessions t ≡ Some session → (change session).by ≡ session.by →
      now ≡ changed w.sessions t change (look w.sessions.sessions t) → RepresentsWorld takes stands_for (record w { sessions = now }) (with_session s t (change session))
  changes now t change session is stays e =
      session_put now t (change session) (ap (λ (k : Clients). k.sessions) made) (ap (λ (k : Clients). k.used) made) counted
      (subst (IsNode (length s.kinds) s.coordinators) (sym stays) (r.homes t session is))
    where
      here : look w.sessions.sessions t ≡ Some session
      here = ap (λ table. look table t) r.sessions ∙ is

      made : now ≡ changed w.sessions t change (Some session)
      made = e ∙ ap (changed w.sessions t change) here

      counted : AreCounted now (put s.sessions t (change session)) s.used
      counted =
          subst (λ (k : Clients). AreCounted k (put s.sessions t (change session)) s.used) (sym made)
          (record {
            begun = r.counted.begun ∙ sym (count_same s.sessions t (change session) (found_holds s.sessions t session is));
            used = r.counted.used;
            few = r.counted.few;
          })

  pub begun_here : (t : ℕ) (session : Session) → look s.sessions t ≡ Some session → holds w.sessions.sessions t ≡ true
  begun_here t session is = found_holds w.sessions.sessions t session (ap (λ table. look table t) r.sessions ∙ is)

  -- ---- nodes of the head

  pub own_member : (m : ℕ) → (1 ≤ m) × (m ≤ length w.cluster.members.items) → (1 ≤ m) × (m ≤ length s.kinds)
  own_member m h = (h.0, subst (λ (n : ℕ). m ≤ n) r.cluster.kinds h.1)

  pub own_coord : (c : ℕ) → (1 ≤ c) × (c ≤ length w.cluster.coords.items) → (1 ≤ c) × (c ≤ s.coordinators)
  own_coord c h = (h.0, subst (λ (n : ℕ). c ≤ n) r.cluster.coordinators h.1)

  -- the node that decides a transaction is one of them
  pub home_coord : (t : ℕ) (session : Session) (c : ℕ) → look s.sessions t ≡ Some session → node.Coord c ≡ session.by → (1 ≤ c) × (c ≤ length w.cluster.coords.items)
  home_coord t session c is home =
      let h : (1 ≤ c) × (c ≤ s.coordinators) = subst (IsNode (length s.kinds) s.coordinators) (sym home) (r.homes t session is) in
      (h.0, subst (λ (n : ℕ). c ≤ n) (sym r.cluster.coordinators) h.1)

  pub home_member : (t : ℕ) (session : Session) (m : ℕ) → look s.sessions t ≡ Some session → node.Member m ≡ session.by → (1 ≤ m) × (m ≤ length w.cluster.members.items)
  home_member t session m is home =
      let h : (1 ≤ m) × (m ≤ length s.kinds) = subst (IsNode (length s.kinds) s.coordinators) (sym home) (r.homes t session is) in
      (h.0, subst (λ (n : ℕ). m ≤ n) (sym r.cluster.kinds) h.1)
