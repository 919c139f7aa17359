-- The moves of a member's log, and those of its memory alone.
use Rattle.std.proofs.Common.{◌≡◌, ◌≢◌, ◌⊎◌, inl, inr, ℕ, Bool, true, false, ◌==◌, Option, None, Some, refl, sym, ap, ◌∙◌, subst}
use Rattle.std.specs.Option.{is_some}
use Rattle.std.proofs.lemmas.Bool.{or_cases, or_left, or_right, or_from, eqb-true, eqb-false, eq-eqb}
use Rattle.co_base.specs.declared.node.Node.TheVariants as node
use Rattle.co_message.specs.declared.message.Message.TheVariants as message
use Rattle.co_record.specs.declared.record.Record.TheVariants as log
use Rattle.co_state.specs.Table.{Table, look, holds, without}
use Rattle.co_state.proofs.Tables.{same_table}
use Rattle.co_base.specs.declared.leaves.Stop.{Stop}
use Rattle.co_plain.specs.declared.member_state.AskedMark.{AskedMark}
use Rattle.co_plain.specs.declared.member_state.MemberState.{MemberState}
use Rattle.co_plain.specs.declared.session.Session.{Session}
use Rattle.co_plain.specs.LogWrite.{with_waiting}
use Rattle.co_plain.specs.MemberView.{recovered_view, forget_in}
use Rattle.co_plain.specs.MemberStep.{with_log, dropped, member_down}
use Rattle.co_plain.specs.Member.{with_mark}
use Rattle.co_base.specs.Nodes.{same_node}
use Rattle.co_plain.specs.Wire.{was_sent}
use Rattle.co_plain.specs.Federation.{Federation, with_member}
use Rattle.co_plain.specs.Decisions.{votes_for, BelongsTo, BegunThere, VotedBefore, IsPresumedAborted, AtCoordinator, AtMember}
use Rattle.co_plain.specs.Invariants.{Side, Memory, Stable, view, stands}
use Rattle.co_plain.specs.Moves.{MarkAsked, DropActive, DropVoted, CrashMember, RestartMember, ArmMember, CloseMemberSpare, effect, Guard}
use Rattle.co_law_base.proofs.Lookups.{is_nothing, look_none, put_cases, without_here, without_there, without_cases, holds_found}
use Rattle.co_law_base.proofs.Facts.{rest_of, settled, alive, by_coord, belongs, Begun, Voted, ViewFacts, MemberFacts, NumberFacts, Facts}
use Rattle.co_law_base.proofs.Carrying.{votes_stand, LivesOn, one_belongs, settled_alive}
use Rattle.co_law_base.proofs.TwoViews.{memory_to_stable, committed_both, stands_alike}
use Rattle.co_law_base.proofs.ViewMoves.{neither_stands, view_forget, still_holds, forget_leaves}
use Rattle.co_law_base.proofs.KeptTold.{kept_same}
use Rattle.co_law_base.proofs.MemberFrame.{member_change}

-- the same engine and records
alike : (s : Federation) → Facts s → (m : ℕ) (up : Bool) (armed : Option Stop) (closed : Bool) →
    Facts (with_member s m (record {
      up = up;
      engine = (s.member m).engine;
      committed = (s.member m).committed;
      asked = (s.member m).asked;
      log = record { stable = (s.member m).log.stable; waiting = (s.member m).log.waiting; armed = armed; spare_closed = closed };
    }))
alike s f m up armed closed =
    member_change s f m y
    (record {
      views = views;
      active = λ t os h. let a = x.active t os h in record { kept = a.kept; stamps = a.stamps; begun = a.begun; apart = a.apart };
      marked = x.marked;
      logged = x.logged;
      waiting = x.waiting;
    })
    (stands_alike (rest_of s) (s.member m) y refl refl)
  where
    x : MemberFacts (rest_of s) m (s.member m)
    x = f.members m

    y : MemberState
    y = record {
      up = up;
      engine = (s.member m).engine;
      committed = (s.member m).committed;
      asked = (s.member m).asked;
      log = record { stable = (s.member m).log.stable; waiting = (s.member m).log.waiting; armed = armed; spare_closed = closed };
    }

    views : (side : Side) → ViewFacts (rest_of s) m (view side y)
    views Memory = x.views Memory
    views Stable = x.views Stable

pub keeps_member_restart : (s : Federation) → Facts s → (m : ℕ) → Guard s (RestartMember m) → Facts (effect s (RestartMember m))
keeps_member_restart s f m g = alike s f m true (s.member m).log.armed (s.member m).log.spare_closed

pub keeps_member_arm : (s : Federation) → Facts s → (m : ℕ) (stop : Option Stop) → Guard s (ArmMember m stop) → Facts (effect s (ArmMember m stop))
keeps_member_arm s f m stop g = alike s f m (s.member m).up stop (s.member m).log.spare_closed

pub keeps_member_close : (s : Federation) → Facts s → (m : ℕ) (closed : Bool) → Guard s (CloseMemberSpare m closed) → Facts (effect s (CloseMemberSpare m closed))
keeps_member_close s f m closed g = alike s f m (s.member m).up None closed

-- a prepare is marked
pub keeps_mark : (s : Federation) → Facts s → (t m c n : ℕ) → Guard s (MarkAsked t m c n) → Facts (effect s (MarkAsked t m c n))
keeps_mark s f t m c n g =
    member_change s f m y
    (record {
      views = views;
      active = λ u os h. let a = x.active u os h in record { kept = a.kept; stamps = a.stamps; begun = a.begun; apart = a.apart };
      marked = λ u mark h. marked u mark (put_cases (s.member m).asked t (record { coord = c; count = n }) u mark h);
      logged = x.logged;
      waiting = x.waiting;
    })
    (stands_alike (rest_of s) (s.member m) y refl refl)
  where
    x : MemberFacts (rest_of s) m (s.member m)
    x = f.members m

    y : MemberState
    y = with_mark (s.member m) t c n

    views : (side : Side) → ViewFacts (rest_of s) m (view side y)
    views Memory = x.views Memory
    views Stable = x.views Stable

    marked : (u : ℕ) (mark : AskedMark) → ((t ≡ u) × (◌≡◌ {A = AskedMark} (record { coord = c; count = n }) mark)) ⊎ ((t ≢ u) × (look (s.member m).asked u ≡ Some mark)) →
        (holds (s.member m).engine.active u ≡ true) × (was_sent s.sent (message.Prepare u mark.coord m mark.count) ≡ true)
    marked u mark (inl p) =
        subst (λ z. (holds (s.member m).engine.active u ≡ true) × (was_sent s.sent (message.Prepare u z.coord m z.count) ≡ true)) p.1
        (subst (λ k. (holds (s.member m).engine.active k ≡ true) × (was_sent s.sent (message.Prepare k c m n) ≡ true)) p.0 (g.0, g.1))
    marked u mark (inr p) = x.marked u mark p.1

-- taking out what is not there changes nothing
pub without_absent : {X : Type 0} (table : Table X) (t : ℕ) → look table t ≡ None → without table t ≡ table
without_absent table t n = same_table (without table t) table (λ u. by u (t == u) refl)
  where
    by : (u : ℕ) (b : Bool) → (t == u) ≡ b → look (without table t) u ≡ look table u
    by u true e =
        let same : t ≡ u = eqb-true t u e in
        ap (look (without table t)) (sym same) ∙ without_here table t ∙ sym n ∙ ap (look table) same
    by u false e = without_there table t u (eqb-false t u e)

pub not_held : {X : Type 0} (table : Table X) (t : ℕ) → holds table t ≡ false → look table t ≡ None
not_held {X} table t h = by (look table t) refl
  where
    by : (o : Option X) → look table t ≡ o → look table t ≡ None
    by None e = e
    by (Some y) e = absurd (let z : true ≡ false = sym (ap is_some e) ∙ h in cc)

-- an active transaction is forgotten
pub keeps_drop_active : (s : Federation) → Facts s → (t m : ℕ) → Guard s (DropActive t m) → Facts (effect s (DropActive t m))
keeps_drop_active s f t m g =
    member_change s f m y
    (record {
      views = views;
      active = λ u os h. let a = x.active u os (without_cases (s.member m).engine.active t u os h).1 in
          record { kept = kept_same (s.member m).engine y.engine os _ (λ stamp. refl) a.kept; stamps = a.stamps; begun = a.begun; apart = ap (λ v. stands v u) same ∙ a.apart };
      marked = λ u mark h. let p = without_cases (s.member m).asked t u mark h in let q = x.marked u mark p.1 in (still_holds (s.member m).engine.active t u p.0 q.0, q.1);
      logged = x.logged ∙ sym same;
      waiting = x.waiting;
    })
    (stands_alike (rest_of s) (s.member m) y same refl)
  where
    x : MemberFacts (rest_of s) m (s.member m)
    x = f.members m

    y : MemberState
    y = dropped (s.member m) t

    unvoted : look (s.member m).engine.voted t ≡ None
    unvoted = let p = holds_found (s.member m).engine.active t g in not_held (s.member m).engine.voted t (neither_stands (view Memory (s.member m)) t (x.active t p.0 p.1).apart).0

    same : view Memory y ≡ view Memory (s.member m)
    same = λ i. record { records = (view Memory (s.member m)).records; voted = without_absent (s.member m).engine.voted t unvoted i; committed = (s.member m).committed }

    views : (side : Side) → ViewFacts (rest_of s) m (view side y)
    views Memory = subst (ViewFacts (rest_of s) m) (sym same) (x.views Memory)
    views Stable = x.views Stable

-- Presumed aborted, for a transaction that belongs to a coordinator.
pub as_belongs : (s : Federation) (t c : ℕ) → BelongsTo s t c → belongs (rest_of s) t c
as_belongs s t c (BegunThere session e b) = Begun (ap (λ o. by_coord o c) e ∙ ap (λ k. same_node k (node.Coord c)) b ∙ eq-eqb c c refl)
as_belongs s t c (VotedBefore m h) = Voted m h

pub local_apart : (s : Federation) → NumberFacts (rest_of s) → (t c m : ℕ) (session : Session) → belongs (rest_of s) t c → look s.sessions t ≡ Some session → session.by ≡ node.Member m → ⊥
local_apart s n t c m session (Begun h) e b =
    let z : true ≡ false = sym h ∙ ap (λ o. by_coord o c) e ∙ ap (λ k. same_node k (node.Coord c)) b in cc
local_apart s n t c m session (Voted o h) e b =
    let z : true ≡ false = sym (n.voted_used o t (votes_stand (recovered_view (s.opened_member o)) t c h)) ∙ n.new t (ap is_some e) in cc

pub dead_there : (s : Federation) → NumberFacts (rest_of s) → (t c : ℕ) → belongs (rest_of s) t c → IsPresumedAborted s t → alive (rest_of s) c t ≡ false
dead_there s n t c b (AtCoordinator d k none undecided unopened) =
    subst (λ e. alive (rest_of s) e t ≡ false) (one_belongs (rest_of s) n t d c (as_belongs s t d k) b)
    (or_from _ _ (ap is_some none) (or_from _ _ undecided unopened))
dead_there s n t c b (AtMember session m e by undecided lost) = absurd (local_apart s n t c m session b e by)

-- a voted transaction is presumed aborted, and its abort waits
pub drop_dead : (s : Federation) → Facts s → (t m c : ℕ) → holds (s.member m).engine.voted t ≡ true → belongs (rest_of s) t c → alive (rest_of s) c t ≡ false → Facts (effect s (DropVoted t m))
drop_dead s f t m c g b dead =
    member_change s f m y
    (record {
      views = views;
      active = λ u os h. let a = x.active u os (without_cases (s.member m).engine.active t u os h).1 in
          record {
            kept = kept_same (s.member m).engine y.engine os _ (λ stamp. refl) a.kept;
            stamps = a.stamps;
            begun = a.begun;
            apart = forget_leaves (view Memory (s.member m)) t u a.apart;
          };
      marked = λ u mark h. let p = without_cases (s.member m).asked t u mark h in let q = x.marked u mark p.1 in (still_holds (s.member m).engine.active t u p.0 q.0, q.1);
      logged = ap (λ v. forget_in v t) x.logged;
      waiting = ((c, b, dead), x.waiting);
    })
    (record { standing = standing; committed = committed })
  where
    x : MemberFacts (rest_of s) m (s.member m)
    x = f.members m

    y : MemberState
    y = with_log (dropped (s.member m) t) (with_waiting (s.member m).log (log.Abort t))

    open' : ¬ (settled (rest_of s) t)
    open' d = let z : true ≡ false = sym (settled_alive (rest_of s) f.numbers t c b d) ∙ dead in cc

    views : (side : Side) → ViewFacts (rest_of s) m (view side y)
    views Memory = view_forget (rest_of s) f.numbers m (view Memory (s.member m)) (x.views Memory) t open'
    views Stable = x.views Stable

    standing : (side : Side) (u : ℕ) → LivesOn (rest_of s) u → stands (view side (s.member m)) u ≡ true → stands (view side y) u ≡ true
    standing Stable u l h = h
    standing Memory u l h = by (or_cases _ _ h)
      where
        by : (holds (s.member m).engine.voted u ≡ true) ⊎ (holds (s.member m).committed u ≡ true) → stands (view Memory y) u ≡ true
        by (inr k) = or_right _ _ k
        by (inl k) = or_left _ _ (still_holds (s.member m).engine.voted t u (λ e. let z : true ≡ false = sym (subst (LivesOn (rest_of s)) (sym e) l c b) ∙ dead in cc) k)

    committed : (side : Side) (t : ℕ) → holds (view side (s.member m)).committed t ≡ true → holds (view side y).committed t ≡ true
    committed Memory t h = h
    committed Stable t h = h

pub keeps_drop_voted : (s : Federation) → Facts s → (t m : ℕ) → Guard s (DropVoted t m) → Facts (effect s (DropVoted t m))
keeps_drop_voted s f t m g =
    let p = holds_found (s.member m).engine.voted t g.0 in
    let home : belongs (rest_of s) t p.0.coord = ((f.members m).views Memory).named t p.0.coord (ap (λ o. votes_for o p.0.coord) p.1 ∙ eq-eqb p.0.coord p.0.coord refl) in
    drop_dead s f t m p.0.coord g.0 home (dead_there s f.numbers t p.0.coord home g.1)

-- A crash: memory is what the stable records tell.
pub keeps_member_crash : (s : Federation) → Facts s → (m : ℕ) → Guard s (CrashMember m) → Facts (effect s (CrashMember m))
keeps_member_crash s f m g =
    member_change s f m y
    (record {
      views = views;
      active = λ u os h. is_nothing (sym (look_none u) ∙ h);
      marked = λ u mark h. is_nothing (sym (look_none u) ∙ h);
      logged = refl;
      waiting = tt;
    })
    (record { standing = standing; committed = committed })
  where
    x : MemberFacts (rest_of s) m (s.member m)
    x = f.members m

    y : MemberState
    y = member_down (s.member m) (s.member m).log

    views : (side : Side) → ViewFacts (rest_of s) m (view side y)
    views Memory = x.views Stable
    views Stable = x.views Stable

    standing : (side : Side) (u : ℕ) → LivesOn (rest_of s) u → stands (view side (s.member m)) u ≡ true → stands (view side y) u ≡ true
    standing Memory u l h = memory_to_stable (rest_of s) m (s.member m) x u h
    standing Stable u l h = h

    committed : (side : Side) (t : ℕ) → holds (view side (s.member m)).committed t ≡ true → holds (view side y).committed t ≡ true
    committed Memory t h = sym (ap (λ k. holds k t) (committed_both (rest_of s) m (s.member m) x)) ∙ h
    committed Stable t h = h
