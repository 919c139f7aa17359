-- An answered operation keeps what each node keeps by itself.
use Rattle.std.proofs.Common.{◌≡◌, ◌≢◌, ◌⊎◌, inl, inr, ℕ, Bool, true, false, ◌==◌, if◌then◌else◌, List, ◌∷◌, length, Option, None, Some, refl, sym, ap, ◌∙◌, subst}
use Rattle.std.specs.Option.{is_some}
use Rattle.std.proofs.lemmas.Bool.{or_from, eqb-true, eqb-false, eq-eqb, ne_eqb, false_from_ne_true}
use Rattle.co_base.specs.declared.op.Op.{Op}
use Rattle.co_state.specs.declared.engine_state.Operation.{Operation}
use Rattle.co_state.specs.Table.{look, holds}
use Rattle.co_state.specs.EngineState.{operations_of}
use Rattle.co_state.specs.ReadRule.{snapshot_of}
use Rattle.co_state.specs.Effects.{with_operation}
use Rattle.co_state.specs.VotingRule.{kept_count}
use Rattle.co_plain.specs.declared.member_state.MemberState.{MemberState}
use Rattle.co_plain.specs.declared.session.Session.{Session}
use Rattle.co_plain.specs.MemberStep.{with_engine}
use Rattle.co_plain.specs.Sessions.{told_at, count_at, with_told}
use Rattle.co_plain.specs.Federation.{Federation, with_session, with_member}
use Rattle.co_plain.specs.Decisions.{told_in, asked_in}
use Rattle.co_plain.specs.Invariants.{Side, Memory, Stable, view, stands, KeptAsTold, StampsIn}
use Rattle.co_plain.specs.Moves.{Operate, effect, Guard, entered_reply, may_operate_at}
use Rattle.co_law_base.proofs.Lookups.{put_here, put_there, put_cases, found_holds}
use Rattle.co_law_base.proofs.Facts.{by_coord}
use Rattle.co_law_base.proofs.ViewMoves.{holds_put}
use Rattle.co_law_base.proofs.SessionPut.{unused_put, asked_put}
use Rattle.co_law_base.proofs.KeptTold.{kept_so_far, kept_same, count_told}
use Rattle.co_law_base.proofs.Asking.{same_reading}
use Rattle.co_law_base.proofs.Operating.{entry_for, sessions_with, snapshot_in}
use Rattle.co_law_moves.proofs.Own.{spent, told_there, OwnView, OwnActive, OwnMember, OwnNumbers, OwnFacts}
use Rattle.co_law_moves.proofs.OwnClients.{Onto, onto_view, onto_member, onto_coord, onto_sent}

module _ (s : Federation) (f : OwnFacts s) (t m : ℕ) (o : Op) (old : Session) (here : look s.sessions t ≡ Some old) (unasked : old.asked ≡ false)
    (all_kept : kept_count (s.member m).engine t ≡ count_at (told_in (look s.sessions t)) m) where
  not_spent : spent s.sessions s.used t ≡ false
  not_spent = or_from (asked_in (look s.sessions t)) (holds s.used t) (ap asked_in here ∙ unasked) (f.numbers.new t (found_holds s.sessions t old here))

  not_standing : stands (view Memory (s.member m)) t ≡ false
  not_standing = false_from_ne_true (stands (view Memory (s.member m)) t) (λ h. let z : true ≡ false = sym (((f.members m).views Memory).over t h) ∙ not_spent in cc)

  told_now : told_in (look (sessions_with s t m o old) t) ≡ entry_for s t m o ∷ told_in (look s.sessions t)
  told_now = ap told_in (put_here s.sessions t (with_told old (entry_for s t m o))) ∙ ap (λ z. entry_for s t m o ∷ told_in z) (sym here)

  told_other : (u : ℕ) → t ≢ u → told_in (look (sessions_with s t m o old) u) ≡ told_in (look s.sessions u)
  told_other u n = ap told_in (put_there s.sessions t (with_told old (entry_for s t m o)) u n)

  operates_onto : Onto s (sessions_with s t m o old) s.sent
  operates_onto =
      record {
        clients =
            record {
              told_same = λ u h. told_other u (λ e. let z : true ≡ false = sym h ∙ ap (spent s.sessions s.used) (sym e) ∙ not_spent in cc);
              asked_on = λ u h. same_reading asked_in s.sessions t old (with_told old (entry_for s t m o)) here refl u ∙ h;
              by_on = λ u c h. same_reading (λ z. by_coord z c) s.sessions t old (with_told old (entry_for s t m o)) here refl u ∙ h;
              sent_on = λ note h. h;
            };
        begun_on = λ u h. holds_put s.sessions t (with_told old (entry_for s t m o)) u h;
        begun_back = λ u q h. sym (same_reading (λ z. is_some z) s.sessions t old (with_told old (entry_for s t m o)) here refl u) ∙ h;
      }

  operates_numbers : OwnNumbers (sessions_with s t m o old) s.used s.decided s.opened_coord
  operates_numbers =
      record {
        new = unused_put s.sessions t (with_told old (entry_for s t m o)) s.used f.numbers.new (f.numbers.new t (found_holds s.sessions t old here));
        decided_begun = λ u h. holds_put s.sessions t (with_told old (entry_for s t m o)) u (f.numbers.decided_begun u h);
        once = f.numbers.once;
        local_asked = asked_put s.sessions t (with_told old (entry_for s t m o)) s.decided f.numbers.local_asked (λ n b d. f.numbers.local_asked t n old here b d);
        commit_used = f.numbers.commit_used;
      }

  -- the operations that are kept before the new one
  kept_before : KeptAsTold (s.member m).engine (operations_of (s.member m).engine t) (told_there s.sessions m t) × StampsIn (length (s.member m).engine.installed) (operations_of (s.member m).engine t)
  kept_before =
      kept_so_far (s.member m).engine t (told_there s.sessions m t) (all_kept ∙ count_told (told_in (look s.sessions t)) m)
      (λ os e. let a = (f.members m).active t os e in (a.kept, a.stamps))

  after_it : MemberState
  after_it = with_engine (s.member m) (with_operation (s.member m).engine t o)

  own_site : told_at (entry_for s t m o ∷ told_in (look s.sessions t)) m ≡ entry_for s t m o ∷ told_there s.sessions m t
  own_site = ap (λ b. if b then entry_for s t m o ∷ told_there s.sessions m t else told_there s.sessions m t) (eq-eqb m m refl)

  abbrev all_now : List Operation
  all_now = record { op = o; stamp = snapshot_of (s.member m).engine t } ∷ operations_of (s.member m).engine t

  operates_member : OwnMember (sessions_with s t m o old) s.used s.sent m (with_engine (s.member m) (with_operation (s.member m).engine t o))
  operates_member =
      record {
        views = views;
        active = λ u os h. active u os (put_cases (s.member m).engine.active t (record { op = o; stamp = snapshot_of (s.member m).engine t } ∷ operations_of (s.member m).engine t) u os h);
        marked = λ u mark h. let p = (f.members m).marked u mark h in (holds_put (s.member m).engine.active t (record { op = o; stamp = snapshot_of (s.member m).engine t } ∷ operations_of (s.member m).engine t) u p.0, p.1);
        logged = (f.members m).logged;
        waiting = (f.members m).waiting;
      }
    where
      views : (side : Side) → OwnView (sessions_with s t m o old) s.used (view side (with_engine (s.member m) (with_operation (s.member m).engine t o)))
      views Memory = onto_view s (sessions_with s t m o old) s.sent operates_onto (view Memory (s.member m)) ((f.members m).views Memory)
      views Stable = onto_view s (sessions_with s t m o old) s.sent operates_onto (view Stable (s.member m)) ((f.members m).views Stable)

      now : OwnActive (sessions_with s t m o old) m (with_engine (s.member m) (with_operation (s.member m).engine t o)) t all_now
      now =
          record {
            kept = subst (λ ts. KeptAsTold (with_operation (s.member m).engine t o) all_now ts)
                (sym (ap (λ ts. told_at ts m) told_now ∙ own_site))
                (refl, refl, kept_same (s.member m).engine (with_operation (s.member m).engine t o) (operations_of (s.member m).engine t) (told_there s.sessions m t) (λ stamp. refl) kept_before.0);
            stamps = (snapshot_in (s.member m).engine.kind (length (s.member m).engine.installed) (operations_of (s.member m).engine t) kept_before.1, kept_before.1);
            begun = holds_put s.sessions t (with_told old (entry_for s t m o)) t (found_holds s.sessions t old here);
            apart = not_standing;
          }

      active : (u : ℕ) (os : List Operation) → ((t ≡ u) × (all_now ≡ os)) ⊎ ((t ≢ u) × (look (s.member m).engine.active u ≡ Some os)) →
          OwnActive (sessions_with s t m o old) m (with_engine (s.member m) (with_operation (s.member m).engine t o)) u os
      active u os (inl p) =
          subst (λ k. OwnActive (sessions_with s t m o old) m (with_engine (s.member m) (with_operation (s.member m).engine t o)) k os) p.0
          (subst (λ k. OwnActive (sessions_with s t m o old) m (with_engine (s.member m) (with_operation (s.member m).engine t o)) t k) p.1 now)
      active u os (inr p) =
          let a = (f.members m).active u os p.1 in
          record {
            kept = subst (λ ts. KeptAsTold (with_operation (s.member m).engine t o) os (told_at ts m)) (sym (told_other u p.0))
                (kept_same (s.member m).engine (with_operation (s.member m).engine t o) os (told_there s.sessions m u) (λ stamp. refl) a.kept);
            stamps = a.stamps;
            begun = holds_put s.sessions t (with_told old (entry_for s t m o)) u a.begun;
            apart = a.apart;
          }

  -- at the other members nothing is told
  elsewhere : (k : ℕ) → m ≢ k → (u : ℕ) → told_there (sessions_with s t m o old) k u ≡ told_there s.sessions k u
  elsewhere k n u = by (t == u) refl
    where
      by : (b : Bool) → (t == u) ≡ b → told_there (sessions_with s t m o old) k u ≡ told_there s.sessions k u
      by true e =
          let same : t ≡ u = eqb-true t u e in
          ap (λ z. told_there (sessions_with s t m o old) k z) (sym same) ∙ ap (λ ts. told_at ts k) told_now
          ∙ ap (λ b. if b then entry_for s t m o ∷ told_there s.sessions k t else told_there s.sessions k t) (ne_eqb m k n) ∙ ap (told_there s.sessions k) same
      by false e = ap (λ ts. told_at ts k) (told_other u (eqb-false t u e))

  operates_own : OwnFacts (with_member (with_session s t (with_told old (entry_for s t m o))) m (with_engine (s.member m) (with_operation (s.member m).engine t o)))
  operates_own =
      record {
        numbers = operates_numbers;
        members = λ k. each k (m == k) refl;
        coords = λ d. onto_coord s (sessions_with s t m o old) s.sent operates_onto s.coord d (s.coord d) (f.coords d);
        ends = f.ends;
        sent = onto_sent s (sessions_with s t m o old) operates_onto f.sent;
      }
    where
      each : (k : ℕ) (b : Bool) → (m == k) ≡ b → OwnMember (sessions_with s t m o old) s.used s.sent k (if m == k then with_engine (s.member m) (with_operation (s.member m).engine t o) else s.member k)
      each k true e =
          subst (λ b. OwnMember (sessions_with s t m o old) s.used s.sent k (if b then with_engine (s.member m) (with_operation (s.member m).engine t o) else s.member k)) (sym e)
          (subst (λ n. OwnMember (sessions_with s t m o old) s.used s.sent n (with_engine (s.member m) (with_operation (s.member m).engine t o))) (eqb-true m k e) operates_member)
      each k false e =
          subst (λ b. OwnMember (sessions_with s t m o old) s.used s.sent k (if b then with_engine (s.member m) (with_operation (s.member m).engine t o) else s.member k)) (sym e)
          (onto_member s (sessions_with s t m o old) s.sent operates_onto k (s.member k) (λ u os h. elsewhere k (eqb-false m k e) u) (f.members k))

pub own_operate : (s : Federation) → OwnFacts s → (t m : ℕ) (o : Op) → Guard s (Operate t m o) → OwnFacts (effect s (Operate t m o))
own_operate s f t m o g = by (look s.sessions t) refl g.0
  where
    by : (z : Option Session) → look s.sessions t ≡ z → may_operate_at z m → OwnFacts (effect s (Operate t m o))
    by None e h = absurd h
    by (Some old) e h =
        subst (λ z. OwnFacts (with_member (entered_reply s t m o z) m (with_engine (s.member m) (with_operation (s.member m).engine t o)))) (sym e)
        (operates_own s f t m o old e h.0 g.1)
