-- A decision keeps what each node keeps by itself.
use Rattle.std.proofs.Common.{◌≡◌, ◌≢◌, ◌⊎◌, inl, inr, ℕ, suc, Bool, true, false, ◌||◌, ◌==◌, ◌≤◌, List, [], length, Option, None, Some, refl, sym, ap, ◌∙◌, subst, arith}
use Rattle.std.specs.Option.{is_some}
use Rattle.std.proofs.lemmas.Bool.{or_cases, or_left, eqb-true, false_from_ne_true}
use Rattle.co_base.specs.declared.node.Node.TheVariants as node
use Rattle.co_state.specs.declared.engine_state.Operation.{Operation}
use Rattle.co_state.specs.declared.engine_state.Vote.{Vote}
use Rattle.co_state.specs.Table.{look, holds, put, without}
use Rattle.co_state.specs.EngineState.{operations_of}
use Rattle.co_plain.specs.declared.member_state.MemberState.{MemberState}
use Rattle.co_plain.specs.declared.member_view.MemberView.{MemberView}
use Rattle.co_plain.specs.declared.session.Session.{Session}
use Rattle.co_plain.specs.MemberView.{cast_in, install_in}
use Rattle.co_plain.specs.CoordStep.{members_of}
use Rattle.co_plain.specs.Sessions.{count_at, asked_to_end}
use Rattle.co_base.specs.Nodes.{same_node}
use Rattle.co_plain.specs.Federation.{Federation, with_session, with_member, with_coord}
use Rattle.co_plain.specs.Decisions.{is_decided, told_of, told_in, asked_in}
use Rattle.co_plain.specs.Invariants.{Memory, Stable, view, stands}
use Rattle.co_plain.specs.Moves.{CommitLocally, Decide, effect, Guard, with_decision, decide_entry, decide_members, marked_over, session_by_member, local_state}
use Rattle.co_law_engine.proofs.YesTells.{SaysYes, yes_apart}
use Rattle.co_law_base.proofs.Lookups.{put_here, put_there, without_cases, found_holds}
use Rattle.co_law_base.proofs.Facts.{rest_of, told, over, by_coord, OpenEntry}
use Rattle.co_law_base.proofs.Carrying.{at_each, by_coord_begun}
use Rattle.co_law_base.proofs.ViewRules.{cast_free, install_free}
use Rattle.co_law_base.proofs.TwoViews.{both_sides}
use Rattle.co_law_base.proofs.ViewMoves.{neither_stands, holds_without, still_holds, cast_stands, install_stands, cast_leaves, install_leaves, cast_apart, install_apart}
use Rattle.co_law_base.proofs.KeptTold.{kept_install, stamps_more}
use Rattle.co_law_base.proofs.VoteMoves.{active_found}
use Rattle.co_law_base.proofs.AtCoord.{coord_each}
use Rattle.co_law_base.proofs.Locally.{MayCommitLocally, local_vote, member_after, coord_still}
use Rattle.co_plain.specs.CoordInvariants.{OwnEnds}
use Rattle.co_law_moves.proofs.Own.{spent, told_there, OwnView, OwnActive, OwnMember, OwnNumbers, OwnFacts}
use Rattle.co_law_moves.proofs.OwnMembers.{own_member}
use Rattle.co_law_moves.proofs.OwnClients.{asks_own}

-- one more decision among the numbers
decided_numbers : (s : Federation) → OwnFacts s → (t : ℕ) → holds s.sessions t ≡ true → is_decided s.decided t ≡ false →
    ((m : ℕ) (session : Session) → look s.sessions t ≡ Some session → session.by ≡ node.Member m → session.asked ≡ true) →
    OwnNumbers s.sessions s.used (with_decision s t).decided s.opened_coord
decided_numbers s f t was_begun undecided asked_there =
    record {
      new = f.numbers.new;
      decided_begun = λ u h. begun_of u (or_cases (t == u) (is_decided s.decided u) h);
      once = (undecided, f.numbers.once);
      local_asked = λ u m session h b d. local_asked u m session h b (t == u) refl d;
      commit_used = f.numbers.commit_used;
    }
  where
    begun_of : (u : ℕ) → ((t == u) ≡ true) ⊎ (is_decided s.decided u ≡ true) → holds s.sessions u ≡ true
    begun_of u (inl e) = ap (holds s.sessions) (sym (eqb-true t u e)) ∙ was_begun
    begun_of u (inr h) = f.numbers.decided_begun u h

    local_asked : (u m : ℕ) (session : Session) → look s.sessions u ≡ Some session → session.by ≡ node.Member m → (b : Bool) → (t == u) ≡ b → is_decided (with_decision s t).decided u ≡ true → session.asked ≡ true
    local_asked u m session h b true e d = asked_there m session (ap (look s.sessions) (eqb-true t u e) ∙ h) b
    local_asked u m session h b false e d = f.numbers.local_asked u m session h b (sym (ap (λ b. b || is_decided s.decided u) e) ∙ d)

-- who was begun at a member was begun at no coordinator
not_by : (s : Federation) (t c m : ℕ) (session : Session) → by_coord (look s.sessions t) c ≡ true → look s.sessions t ≡ Some session → session.by ≡ node.Member m → ⊥
not_by s t c m session h e b = let z : true ≡ false = sym h ∙ ap (λ o. by_coord o c) e ∙ ap (λ k. same_node k (node.Coord c)) b in cc

-- a coordinator decides
decides_own : (s : Federation) → OwnFacts s → (t c : ℕ) (members : List ℕ) → OpenEntry (rest_of s) c (s.coord c).log.stable t → (members ≢ [] → over (rest_of s) t ≡ true) →
    OwnFacts (with_decision (with_coord s c (decide_members (s.coord c) t members)) t)
decides_own s f t c members there over_them =
    record {
      numbers = decided_numbers s f t (by_coord_begun (look s.sessions t) c there.begun_there) there.undecided (λ m session h b. absurd (not_by s t c m session there.begun_there h b));
      members = f.members;
      coords = coord_each s f.coords t c members there over_them;
      ends = at_each (λ d z. OwnEnds z.table z.log.stable z.log.waiting) s.coord c (decide_members (s.coord c) t members) tt f.ends;
      sent = f.sent;
    }

pub own_decide : (s : Federation) → OwnFacts s → (t c : ℕ) → Guard s (Decide t c) → OwnFacts (effect s (Decide t c))
own_decide s f t c (inl p) =
    subst (λ o. OwnFacts (with_decision (with_coord s c (decide_entry (s.coord c) t o)) t)) (sym p.0)
    (decides_own s f t c [] ((f.coords c).idle t p.0) (λ n. absurd (n refl)))
own_decide s f t c (inr p) =
    let x = (f.coords c).collecting t p.0 p.1 p.3 in
    subst (λ o. OwnFacts (with_decision (with_coord s c (decide_entry (s.coord c) t o)) t)) (sym p.3)
    (decides_own s f t c (members_of p.0) x.still (λ n. or_left (asked_in (look s.sessions t)) (holds s.used t) x.asked))

-- A member decides alone: the vote and its install are one write.
module _ (s : Federation) (f : OwnFacts s) (t m : ℕ) (old : Session) (here : look s.sessions t ≡ Some old) (by' : old.by ≡ node.Member m) (asks : old.asked ≡ true)
    (undecided : is_decided s.decided t ≡ false) (some' : 1 ≤ count_at (told (rest_of s) t) m) (says : SaysYes (s.member m).engine t (count_at (told (rest_of s) t) m)) where
  abbrev vote : Vote
  vote = local_vote s t m

  abbrev v : MemberView
  v = view Memory (s.member m)

  abbrev at_once : MemberView
  at_once = install_in (cast_in v t vote) t (Some vote)

  abbrev y : MemberState
  y = member_after s t m (Some (local_vote s t m))

  x : OwnMember s.sessions s.used s.sent m (s.member m)
  x = f.members m

  found : look (s.member m).engine.active t ≡ Some (operations_of (s.member m).engine t)
  found = active_found (s.member m).engine t (subst (λ k. 1 ≤ k) (sym says.count) some')

  middle_here : look (put (s.member m).engine.voted t (local_vote s t m)) t ≡ Some (local_vote s t m)
  middle_here = put_here (s.member m).engine.voted t (local_vote s t m)

  over_t : spent s.sessions s.used t ≡ true
  over_t = or_left (asked_in (look s.sessions t)) (holds s.used t) (ap asked_in here ∙ asks)

  gone : (u : ℕ) → holds (without (put (s.member m).engine.voted t (local_vote s t m)) t) u ≡ true → (t ≢ u) × (holds (s.member m).engine.voted u ≡ true)
  gone u h =
      let p = holds_without (put (s.member m).engine.voted t (local_vote s t m)) t u h in
      (p.0, ap is_some (sym (put_there (s.member m).engine.voted t (local_vote s t m) u p.0)) ∙ p.1)

  view_then : OwnView s.sessions s.used at_once
  view_then =
      record {
        free = install_free (cast_in v t vote) t vote
            (cast_free v t vote (x.views Memory).free (λ u other d h. yes_apart (s.member m).engine t (count_at (told (rest_of s) t) m) u other says d h));
        over = λ u h. overs u (install_stands (cast_in v t vote) t vote u h);
        apart = install_apart (cast_in v t vote) t vote (cast_apart v t vote new (x.views Memory).apart);
        away = λ u h. (x.views Memory).away u (gone u h).1;
      }
    where
      new : holds v.committed t ≡ false
      new = (neither_stands v t (x.active t (operations_of (s.member m).engine t) found).apart).1

      overs : (u : ℕ) → (t ≡ u) ⊎ (stands (cast_in v t vote) u ≡ true) → spent s.sessions s.used u ≡ true
      overs u (inl e) = ap (spent s.sessions s.used) (sym e) ∙ over_t
      overs u (inr k) = by (cast_stands v t vote u k)
        where
          by : (t ≡ u) ⊎ (stands v u ≡ true) → spent s.sessions s.used u ≡ true
          by (inl e) = ap (spent s.sessions s.used) (sym e) ∙ over_t
          by (inr h) = (x.views Memory).over u h

  same_views : view Stable (member_after s t m (Some (local_vote s t m))) ≡ view Memory (member_after s t m (Some (local_vote s t m)))
  same_views =
      ap (λ v. install_in (cast_in v t (local_vote s t m)) t (look (cast_in v t (local_vote s t m)).voted t)) x.logged
      ∙ ap (install_in (cast_in (view Memory (s.member m)) t (local_vote s t m)) t) middle_here

  member_then : OwnMember s.sessions s.used s.sent m (member_after s t m (Some (local_vote s t m)))
  member_then =
      record {
        views = both_sides (OwnView s.sessions s.used) y same_views view_then;
        active = λ u os h. active u os (without_cases (s.member m).engine.active t u os h);
        marked = λ u mark h. let p = without_cases (s.member m).asked t u mark h in let q = x.marked u mark p.1 in (still_holds (s.member m).engine.active t u p.0 q.0, q.1);
        logged = same_views;
        waiting = tt;
      }
    where
      active : (u : ℕ) (os : List Operation) → (t ≢ u) × (look (s.member m).engine.active u ≡ Some os) → OwnActive s.sessions m (member_after s t m (Some (local_vote s t m))) u os
      active u os p =
          let a = x.active u os p.1 in
          record {
            kept = kept_install (s.member m).engine (record { txn = t; writes = (local_vote s t m).sets.writes }) os (told_there s.sessions m u) y.engine refl refl a.stamps a.kept;
            stamps = stamps_more (length (s.member m).engine.installed) (suc (length (s.member m).engine.installed)) os (omega arith) a.stamps;
            begun = a.begun;
            apart = install_leaves (cast_in (view Memory (s.member m)) t (local_vote s t m)) t (local_vote s t m) (ap is_some middle_here) u (cast_leaves (view Memory (s.member m)) t (local_vote s t m) u p.0 a.apart);
          }

  alone_then : OwnFacts (with_decision (with_member s m (member_after s t m (Some (local_vote s t m)))) t)
  alone_then =
      let f1 = own_member s f m y member_then in
      record {
        numbers = decided_numbers (with_member s m y) f1 t (found_holds s.sessions t old here) undecided (λ n session h b. asked_of session h);
        members = f1.members;
        coords = coord_still s f.coords t (λ d h. not_by s t d m old h here by');
        ends = f.ends;
        sent = f.sent;
      }
    where
      asked_of : (session : Session) → look s.sessions t ≡ Some session → session.asked ≡ true
      asked_of session h = sym (ap asked_in h) ∙ ap asked_in here ∙ asks

  alone_own : OwnFacts (with_decision (with_member s m (local_state (s.member m) t (count_at (told (rest_of s) t) m))) t)
  alone_own = subst (λ o. OwnFacts (with_decision (with_member s m (member_after s t m o)) t)) (sym middle_here) alone_then

pub own_local : (s : Federation) → OwnFacts s → (t m : ℕ) → MayCommitLocally s t m → OwnFacts (effect s (CommitLocally t m))
own_local s f t m g = by (look s.sessions t) refl g.0
  where
    by : (o : Option Session) → look s.sessions t ≡ o → session_by_member o m → OwnFacts (effect s (CommitLocally t m))
    by None e h = absurd h
    by (Some old) e h =
        let s1 = with_session s t (asked_to_end old) in
        let found' : look (put s.sessions t (asked_to_end old)) t ≡ Some (asked_to_end old) = put_here s.sessions t (asked_to_end old) in
        let same : told (rest_of s1) t ≡ told (rest_of s) t = ap told_in found' ∙ sym (ap told_in e) in
        let undecided' : is_decided s.decided t ≡ false = false_from_ne_true (is_decided s.decided t) (λ d. let z : true ≡ false = sym (f.numbers.local_asked t m old e h d) ∙ sym (ap asked_in e) ∙ g.1 in cc) in
        subst (λ o. OwnFacts (with_decision (with_member (marked_over s t o) m (local_state (s.member m) t (count_at (told_of s t) m))) t)) (sym e)
        (subst (λ n. OwnFacts (with_decision (with_member s1 m (local_state (s.member m) t n)) t)) (ap (λ ts. count_at ts m) same)
        (alone_own s1 (asks_own s f t old e) t m (asked_to_end old) found' h refl undecided'
        (subst (λ ts. 1 ≤ count_at ts m) (sym same) g.2)
        (subst (λ n. SaysYes (s.member m).engine t n) (ap (λ ts. count_at ts m) (sym same)) g.3)))
