-- An answered operation keeps the facts: the member keeps it, and the client is told of it.
use Rattle.std.proofs.Common.{◌≡◌, ◌≢◌, ◌⊎◌, inl, inr, ℕ, Bool, true, false, ◌≤◌, ◌==◌, ◌+◌, if◌then◌else◌, List, [], ◌∷◌, length, Option, None, Some, refl, sym, ap, ◌∙◌, subst, arith}
use Rattle.std.specs.Option.{is_some}
use Rattle.std.proofs.lemmas.Bool.{or_parts, or_from, eqb-true, eqb-false, eq-eqb, ne_eqb, false_from_ne_true}
use Rattle.co_base.specs.declared.head.Kind.{Kind}
use Rattle.co_base.specs.declared.head.Kind.TheVariants.{Lock, Occ, Mv}
use Rattle.co_base.specs.declared.node.Node.TheVariants as node
use Rattle.co_base.specs.declared.op.Op.{Op}
use Rattle.co_serial.specs.SerialRun.{with_at}
use Rattle.co_state.specs.declared.engine_state.Operation.{Operation}
use Rattle.co_state.specs.Table.{Table, look, holds, put}
use Rattle.co_state.specs.EngineState.{operations_of}
use Rattle.co_state.specs.ReadRule.{stamp_after, snapshot_of, operation_reply}
use Rattle.co_state.specs.Effects.{with_operation}
use Rattle.co_state.specs.VotingRule.{kept_count}
use Rattle.co_plain.specs.declared.member_state.MemberState.{MemberState}
use Rattle.co_plain.specs.declared.session.Decided.{Decided}
use Rattle.co_plain.specs.declared.session.Session.{Session}
use Rattle.co_plain.specs.declared.session.Told.{Told}
use Rattle.co_plain.specs.MemberStep.{with_engine}
use Rattle.co_plain.specs.Sessions.{told_at, count_at, with_told}
use Rattle.co_plain.specs.Federation.{Federation, with_session, with_member}
use Rattle.co_plain.specs.Decisions.{told_in, asked_in}
use Rattle.co_plain.specs.Invariants.{Side, Memory, Stable, view, stands, KeptAsTold, StampsIn}
use Rattle.co_plain.specs.Moves.{Operate, effect, Guard, entered_reply, may_operate_at}
use Rattle.co_law_base.proofs.Lookups.{put_here, put_there, put_cases, found_holds}
use Rattle.co_law_base.proofs.Facts.{Before, rest_of, changed, told, told_here, asked, over, by_coord, ActiveFacts, ViewFacts, MemberFacts, NumberFacts, Facts}
use Rattle.co_law_base.proofs.Carrying.{at_each, LivesOn, StandsOn, stands_same, sent_on, records_on, Later, later_member, later_view, later_waiting, later_coord, later_records, later_sent}
use Rattle.co_law_base.proofs.ViewMoves.{each_map, holds_put}
use Rattle.co_law_base.proofs.SessionPut.{unused_put, asked_put}
use Rattle.co_law_base.proofs.MemberFrame.{unended_settled}
use Rattle.co_law_base.proofs.Commits.{unended_seen}
use Rattle.co_law_base.proofs.KeptTold.{kept_so_far, kept_same, count_told}
use Rattle.co_law_base.proofs.Asking.{same_reading}

pub snapshot_in : (kind : Kind) (now : ℕ) (os : List Operation) → StampsIn now os → stamp_after kind now os ≤ now
snapshot_in Lock now os s = omega arith
snapshot_in Occ now os s = omega arith
snapshot_in Mv now [] s = omega arith
snapshot_in Mv now (o ∷ os) s = s.0

-- the operation and its reply, as the client is told
abbrev pub entry_for : Federation → ℕ → ℕ → Op → Told
entry_for s t m o = record { site = record { member = m; op = o }; reply = operation_reply (s.member m).engine t o }

abbrev pub sessions_with : Federation → ℕ → ℕ → Op → Session → Table Session
sessions_with s t m o old = put s.sessions t (with_told old (entry_for s t m o))

-- what the move needs
record Operates (s : Federation) (t m : ℕ) (old : Session) : Type 0 where
  here : look s.sessions t ≡ Some old
  unasked : old.asked ≡ false
  at_home : (n : ℕ) → old.by ≡ node.Member n → n ≡ m
  all_kept : kept_count (s.member m).engine t ≡ count_at (told (rest_of s) t) m

module _ (s : Federation) (f : Facts s) (t m : ℕ) (o : Op) (old : Session) (g : Operates s t m old) where
  not_over : over (rest_of s) t ≡ false
  not_over = or_from (asked (rest_of s) t) (holds s.used t) (ap asked_in g.here ∙ g.unasked) (f.numbers.new t (found_holds s.sessions t old g.here))

  not_standing : (side : Side) (k : ℕ) → stands (view side (s.member k)) t ≡ false
  not_standing side k = false_from_ne_true (stands (view side (s.member k)) t) (λ h. let z : true ≡ false = sym (((f.members k).views side).over t h) ∙ not_over in cc)

  told_now : told_in (look (sessions_with s t m o old) t) ≡ entry_for s t m o ∷ told (rest_of s) t
  told_now = ap told_in (put_here s.sessions t (with_told old (entry_for s t m o))) ∙ ap (λ z. entry_for s t m o ∷ told_in z) (sym g.here)

  told_other : (u : ℕ) → t ≢ u → told_in (look (sessions_with s t m o old) u) ≡ told (rest_of s) u
  told_other u n = ap told_in (put_there s.sessions t (with_told old (entry_for s t m o)) u n)

  more : (b : Bool) (n : ℕ) → 1 ≤ n → 1 ≤ (if b then n + 1 else n)
  more true n h = omega (arith, h)
  more false n h = h

  operate_later : Later (rest_of s) s.coord (sessions_with s t m o old) s.sent s.member
  operate_later =
      record {
        told_same = λ u h. told_other u (λ e. let z : true ≡ false = sym h ∙ ap (over (rest_of s)) (sym e) ∙ not_over in cc);
        counts = λ u k h. counts u k h (t == u) refl;
        begun_on = λ u h. holds_put s.sessions t (with_told old (entry_for s t m o)) u h;
        begun_back = λ u q h. sym (same_reading (λ z. is_some z) s.sessions t old (with_told old (entry_for s t m o)) g.here refl u) ∙ h;
        asked_on = λ u h. same_reading asked_in s.sessions t old (with_told old (entry_for s t m o)) g.here refl u ∙ h;
        by_on = λ u c h. same_reading (λ z. by_coord z c) s.sessions t old (with_told old (entry_for s t m o)) g.here refl u ∙ h;
        by_back = λ u c q h. sym (same_reading (λ z. by_coord z c) s.sessions t old (with_told old (entry_for s t m o)) g.here refl u) ∙ h;
        alive_back = λ u c q h. h;
        part = λ u c k b a h. inl h;
        sent_on = λ note h. h;
      }
    where
      counts : (u k : ℕ) → 1 ≤ count_at (told (rest_of s) u) k → (b : Bool) → (t == u) ≡ b → 1 ≤ count_at (told_in (look (sessions_with s t m o old) u)) k
      counts u k h true e =
          let same : t ≡ u = eqb-true t u e in
          subst (λ n. 1 ≤ count_at (told_in (look (sessions_with s t m o old) n)) k) same
          (subst (λ ts. 1 ≤ count_at ts k) (sym told_now) (more (m == k) (count_at (told (rest_of s) t) k) (subst (λ n. 1 ≤ count_at (told (rest_of s) n) k) (sym same) h)))
      counts u k h false e = subst (λ ts. 1 ≤ count_at ts k) (sym (told_other u (eqb-false t u e))) h

  operate_numbers : NumberFacts (changed (rest_of s) s.coord (sessions_with s t m o old) s.sent)
  operate_numbers =
      record {
        new = unused_put s.sessions t (with_told old (entry_for s t m o)) s.used f.numbers.new (f.numbers.new t (found_holds s.sessions t old g.here));
        decided_begun = λ u h. operate_later.begun_on u (f.numbers.decided_begun u h);
        once = f.numbers.once;
        local = λ u n k session h. local u n k session (put_cases s.sessions t (with_told old (entry_for s t m o)) u session h);
        local_asked = asked_put s.sessions t (with_told old (entry_for s t m o)) s.decided f.numbers.local_asked (λ n b d. f.numbers.local_asked t n old g.here b d);
        kept = each_map (λ d. (d.told ≡ []) ⊎ ((told (rest_of s) d.txn ≡ d.told) × (asked (rest_of s) d.txn ≡ true)))
            (λ d. (d.told ≡ []) ⊎ ((told_in (look (sessions_with s t m o old) d.txn) ≡ d.told) × (asked_in (look (sessions_with s t m o old) d.txn) ≡ true))) s.decided kept f.numbers.kept;
        voted_used = f.numbers.voted_used;
        commit_used = f.numbers.commit_used;
        one_vote = f.numbers.one_vote;
        vote_commit = f.numbers.vote_commit;
        one_home = f.numbers.one_home;
        one_commit = f.numbers.one_commit;
      }
    where
      local : (u n k : ℕ) (session : Session) → ((t ≡ u) × (with_told old (entry_for s t m o) ≡ session)) ⊎ ((t ≢ u) × (look s.sessions u ≡ Some session)) → session.by ≡ node.Member n → k ≢ n → count_at session.told k ≡ 0
      local u n k session (inr p) b d = f.numbers.local u n k session p.1 b d
      local u n k session (inl p) b d =
          let by : old.by ≡ node.Member n = ap (λ z. z.by) p.1 ∙ b in
          let same : n ≡ m = g.at_home n by in
          let zero' : count_at old.told k ≡ 0 = f.numbers.local t n k old g.here by d in
          let other : (m == k) ≡ false = ne_eqb m k (λ e. d (sym e ∙ sym same)) in
          ap (λ z. count_at z.told k) (sym p.1) ∙ ap (λ b. if b then count_at old.told k + 1 else count_at old.told k) other ∙ zero'

      kept : (d : Decided) → (d.told ≡ []) ⊎ ((told (rest_of s) d.txn ≡ d.told) × (asked (rest_of s) d.txn ≡ true)) →
          (d.told ≡ []) ⊎ ((told_in (look (sessions_with s t m o old) d.txn) ≡ d.told) × (asked_in (look (sessions_with s t m o old) d.txn) ≡ true))
      kept d (inl e) = inl e
      kept d (inr p) =
          let apart : t ≢ d.txn = λ e. let z : true ≡ false = sym p.1 ∙ ap (asked (rest_of s)) (sym e) ∙ (or_parts (asked (rest_of s) t) (holds s.used t) not_over).0 in cc in
          inr (told_other d.txn apart ∙ p.0, operate_later.asked_on d.txn p.1)

  -- the operations that are kept before the new one
  kept_before : KeptAsTold (s.member m).engine (operations_of (s.member m).engine t) (told_here (rest_of s) m t) × StampsIn (length (s.member m).engine.installed) (operations_of (s.member m).engine t)
  kept_before =
      kept_so_far (s.member m).engine t (told_here (rest_of s) m t) (g.all_kept ∙ count_told (told (rest_of s) t) m)
      (λ os e. let a = (f.members m).active t os e in (a.kept, a.stamps))

  after_it : MemberState
  after_it = with_engine (s.member m) (with_operation (s.member m).engine t o)

  own_site : told_at (entry_for s t m o ∷ told (rest_of s) t) m ≡ entry_for s t m o ∷ told_here (rest_of s) m t
  own_site = ap (λ b. if b then entry_for s t m o ∷ told_here (rest_of s) m t else told_here (rest_of s) m t) (eq-eqb m m refl)

  operate_member : MemberFacts (changed (rest_of s) s.coord (sessions_with s t m o old) s.sent) m (with_engine (s.member m) (with_operation (s.member m).engine t o))
  operate_member =
      record {
        views = views;
        active = λ u os h. active u os (put_cases (s.member m).engine.active t (record { op = o; stamp = snapshot_of (s.member m).engine t } ∷ operations_of (s.member m).engine t) u os h);
        marked = λ u mark h. let p = (f.members m).marked u mark h in (holds_put (s.member m).engine.active t (record { op = o; stamp = snapshot_of (s.member m).engine t } ∷ operations_of (s.member m).engine t) u p.0, p.1);
        logged = (f.members m).logged;
        waiting = later_waiting (rest_of s) f.numbers s.coord (sessions_with s t m o old) s.sent s.member operate_later (s.member m).log.waiting (f.members m).waiting;
      }
    where
      views : (side : Side) → ViewFacts (changed (rest_of s) s.coord (sessions_with s t m o old) s.sent) m (view side (with_engine (s.member m) (with_operation (s.member m).engine t o)))
      views Memory = later_view (rest_of s) f.numbers s.coord (sessions_with s t m o old) s.sent s.member operate_later m Memory ((f.members m).views Memory)
      views Stable = later_view (rest_of s) f.numbers s.coord (sessions_with s t m o old) s.sent s.member operate_later m Stable ((f.members m).views Stable)

      now : ActiveFacts (changed (rest_of s) s.coord (sessions_with s t m o old) s.sent) m (with_engine (s.member m) (with_operation (s.member m).engine t o)) t
          (record { op = o; stamp = snapshot_of (s.member m).engine t } ∷ operations_of (s.member m).engine t)
      now =
          record {
            kept = subst (λ ts. KeptAsTold (with_operation (s.member m).engine t o) (record { op = o; stamp = snapshot_of (s.member m).engine t } ∷ operations_of (s.member m).engine t) ts)
                (sym (ap (λ ts. told_at ts m) told_now ∙ own_site))
                (refl, refl, kept_same (s.member m).engine (with_operation (s.member m).engine t o) (operations_of (s.member m).engine t) (told_here (rest_of s) m t) (λ stamp. refl) kept_before.0);
            stamps = (snapshot_in (s.member m).engine.kind (length (s.member m).engine.installed) (operations_of (s.member m).engine t) kept_before.1, kept_before.1);
            begun = operate_later.begun_on t (found_holds s.sessions t old g.here);
            apart = not_standing Memory m;
          }

      active : (u : ℕ) (os : List Operation) →
          ((t ≡ u) × (record { op = o; stamp = snapshot_of (s.member m).engine t } ∷ operations_of (s.member m).engine t ≡ os)) ⊎ ((t ≢ u) × (look (s.member m).engine.active u ≡ Some os)) →
          ActiveFacts (changed (rest_of s) s.coord (sessions_with s t m o old) s.sent) m (with_engine (s.member m) (with_operation (s.member m).engine t o)) u os
      active u os (inl p) =
          subst (λ k. ActiveFacts (changed (rest_of s) s.coord (sessions_with s t m o old) s.sent) m (with_engine (s.member m) (with_operation (s.member m).engine t o)) k os) p.0
          (subst (λ k. ActiveFacts (changed (rest_of s) s.coord (sessions_with s t m o old) s.sent) m (with_engine (s.member m) (with_operation (s.member m).engine t o)) t k) p.1 now)
      active u os (inr p) =
          let a = (f.members m).active u os p.1 in
          record {
            kept = subst (λ ts. KeptAsTold (with_operation (s.member m).engine t o) os (told_at ts m)) (sym (told_other u p.0))
                (kept_same (s.member m).engine (with_operation (s.member m).engine t o) os (told_here (rest_of s) m u) (λ stamp. refl) a.kept);
            stamps = a.stamps;
            begun = operate_later.begun_on u a.begun;
            apart = a.apart;
          }

  -- at the other members nothing is told
  elsewhere : (k : ℕ) → m ≢ k → (u : ℕ) → told_at (told_in (look (sessions_with s t m o old) u)) k ≡ told_here (rest_of s) k u
  elsewhere k n u = by (t == u) refl
    where
      by : (b : Bool) → (t == u) ≡ b → told_at (told_in (look (sessions_with s t m o old) u)) k ≡ told_here (rest_of s) k u
      by true e =
          let same : t ≡ u = eqb-true t u e in
          ap (λ z. told_at (told_in (look (sessions_with s t m o old) z)) k) (sym same) ∙ ap (λ ts. told_at ts k) told_now
          ∙ ap (λ b. if b then entry_for s t m o ∷ told_here (rest_of s) k t else told_here (rest_of s) k t) (ne_eqb m k n) ∙ ap (told_here (rest_of s) k) same
      by false e = ap (λ ts. told_at ts k) (told_other u (eqb-false t u e))

  alike : (k : ℕ) → StandsOn (changed (rest_of s) s.coord (sessions_with s t m o old) s.sent) (s.member k) (with_at s.member m (with_engine (s.member m) (with_operation (s.member m).engine t o)) k)
  alike = at_each (λ k z. StandsOn (changed (rest_of s) s.coord (sessions_with s t m o old) s.sent) (s.member k) z) s.member m (with_engine (s.member m) (with_operation (s.member m).engine t o))
      (record { standing = standing; committed = committed }) (λ k. stands_same (changed (rest_of s) s.coord (sessions_with s t m o old) s.sent) (s.member k))
    where
      standing : (side : Side) (u : ℕ) → LivesOn (changed (rest_of s) s.coord (sessions_with s t m o old) s.sent) u → stands (view side (s.member m)) u ≡ true →
          stands (view side (with_engine (s.member m) (with_operation (s.member m).engine t o))) u ≡ true
      standing Memory u l h = h
      standing Stable u l h = h

      committed : (side : Side) (u : ℕ) → holds (view side (s.member m)).committed u ≡ true → holds (view side (with_engine (s.member m) (with_operation (s.member m).engine t o))).committed u ≡ true
      committed Memory u h = h
      committed Stable u h = h

  operate_facts : Facts (with_member (with_session s t (with_told old (entry_for s t m o))) m (with_engine (s.member m) (with_operation (s.member m).engine t o)))
  operate_facts =
      let r = changed (rest_of s) s.coord (sessions_with s t m o old) s.sent in
      let sessions = sessions_with s t m o old in
      let member = with_at s.member m (with_engine (s.member m) (with_operation (s.member m).engine t o)) in
      record {
        numbers = operate_numbers;
        members = λ k. each k (m == k) refl;
        coords = λ d. later_coord (rest_of s) f.numbers s.coord sessions s.sent s.member operate_later d (s.coord d).table (s.coord d).log.stable (s.coord d).log.waiting (f.coords d);
        sent = sent_on r operate_numbers s.member member alike (later_sent (rest_of s) f.numbers s.coord sessions s.member operate_later f.sent);
        records = records_on r operate_numbers s.member member alike (unended_settled s f) (λ c u ms h. Before c (unended_seen (s.opened_coord c) u ms h))
            (later_records (rest_of s) f.numbers s.coord sessions s.sent s.member operate_later f.records (λ c u ms h. h));
        serially = f.serially;
      }
    where
      each : (k : ℕ) (b : Bool) → (m == k) ≡ b → MemberFacts (changed (rest_of s) s.coord (sessions_with s t m o old) s.sent) k (if m == k then with_engine (s.member m) (with_operation (s.member m).engine t o) else s.member k)
      each k true e =
          subst (λ b. MemberFacts (changed (rest_of s) s.coord (sessions_with s t m o old) s.sent) k (if b then with_engine (s.member m) (with_operation (s.member m).engine t o) else s.member k)) (sym e)
          (subst (λ n. MemberFacts (changed (rest_of s) s.coord (sessions_with s t m o old) s.sent) n (with_engine (s.member m) (with_operation (s.member m).engine t o))) (eqb-true m k e) operate_member)
      each k false e =
          subst (λ b. MemberFacts (changed (rest_of s) s.coord (sessions_with s t m o old) s.sent) k (if b then with_engine (s.member m) (with_operation (s.member m).engine t o) else s.member k)) (sym e)
          (later_member (rest_of s) f.numbers s.coord (sessions_with s t m o old) s.sent s.member operate_later k (λ u os h. elsewhere k (eqb-false m k e) u) (f.members k))

pub keeps_operate : (s : Federation) → Facts s → (t m : ℕ) (o : Op) → Guard s (Operate t m o) → Facts (effect s (Operate t m o))
keeps_operate s f t m o g = by (look s.sessions t) refl g.0
  where
    by : (z : Option Session) → look s.sessions t ≡ z → may_operate_at z m → Facts (effect s (Operate t m o))
    by None e h = absurd h
    by (Some old) e h =
        subst (λ z. Facts (with_member (entered_reply s t m o z) m (with_engine (s.member m) (with_operation (s.member m).engine t o)))) (sym e)
        (operate_facts s f t m o old (record { here = e; unasked = h.0; at_home = h.1; all_kept = g.1 }))
