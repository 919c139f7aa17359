-- What each move leaves for whom it speaks of: those of coordinators and clients, and all together.
use Rattle.std.proofs.Common.{◌≡◌, ◌⊎◌, inl, inr, ℕ, Bool, true, false, ◌||◌, ◌&&◌, ◌≤◌, ◌==◌, ◌+◌, if◌then◌else◌, List, [], ◌∷◌, Option, None, Some, refl, sym, ap, ◌∙◌, subst, arith}
use Rattle.std.specs.Option.{is_some}
use Rattle.std.specs.FinMap.{entries}
use Rattle.std.proofs.lemmas.Bool.{or_cases, or_left, or_right, or_from, or_parts, and_parts, eqb-true, eqb-false}
use Rattle.co_base.specs.declared.node.Node.TheVariants as node
use Rattle.co_base.specs.declared.op.Op.{Op}
use Rattle.co_serial.specs.SerialRun.{with_at}
use Rattle.co_state.specs.declared.engine_state.EngineState.{EngineState}
use Rattle.co_state.specs.declared.engine_state.Vote.{Vote}
use Rattle.co_state.specs.Table.{look, put, without, holds}
use Rattle.co_state.specs.Changes.{sets_of}
use Rattle.co_state.specs.EngineState.{operations_of}
use Rattle.co_state.specs.Effects.{with_operation, after_cast, after_install, install_vote}
use Rattle.co_state.specs.ReadRule.{operation_reply}
use Rattle.co_plain.specs.declared.coord_state.CoordState.{CoordState}
use Rattle.co_plain.specs.declared.coord_state.Entry.{Entry}
use Rattle.co_plain.specs.declared.coord_state.Entry.TheVariants as entry
use Rattle.co_plain.specs.declared.session.Session.{Session}
use Rattle.co_plain.specs.Numbers.{counted}
use Rattle.co_plain.specs.MemberView.{with_number}
use Rattle.co_plain.specs.CoordView.{recovered_commits}
use Rattle.co_plain.specs.CoordStep.{with_table, members_of, table_from}
use Rattle.co_plain.specs.LocalCommit.{local_coord}
use Rattle.co_plain.specs.MemberStep.{with_engine}
use Rattle.co_plain.specs.CoordView.{has_commit_of}
use Rattle.co_plain.specs.Sessions.{count_at, with_told, asked_to_end, begun_by, parts_of}
use Rattle.co_base.specs.Nodes.{same_node}
use Rattle.co_plain.specs.Federation.{Federation, with_member, with_coord, with_session}
use Rattle.co_plain.specs.Decisions.{told_of, told_in, is_decided}
use Rattle.co_plain.specs.Step.{is_used}
use Rattle.co_plain.specs.Invariants.{Memory, view, stands}
use Rattle.co_plain.specs.Moves.{Move, Operate, MarkAsked, Cast, DropActive, DropVoted, Install, CommitLocally, CrashMember, RestartMember, ArmMember, CloseMemberSpare, FillMemberSpare, Begin, Collect, RecordYes, Decide, Leave, RecordAck, End, CrashCoord, RestartCoord, ArmCoord, CloseCoordSpare, FillCoordSpare, BeginLocal, AskEnd, Send, Guard, effect, local_state, decide_entry, with_decision, entered_reply, marked_over, record_yes, record_ack, decide_members, session_by_member, may_operate_at}
use Rattle.co_law_base.proofs.Lookups.{put_here, put_there, holds_found, found_holds}
use Rattle.co_law_base.proofs.Commits.{holds_more, holds_new, from_cases, unended_seen}
use Rattle.co_law_base.proofs.Facts.{rest_of, alive, belongs, Begun, Voted, settled_at, by_coord, OpenEntry, Facts}
use Rattle.co_law_base.proofs.Carrying.{at_each, one_belongs, belongs_seen}
use Rattle.co_law_base.proofs.LogMoves.{not_held, local_apart}
use Rattle.co_law_base.proofs.Asking.{same_reading}
use Rattle.co_law_base.proofs.CoordMoves.{holds_put}
use Rattle.co_law_moves.proofs.Onward.{entry_onward, Onward, absent_casts, back_without, coord_onward, holds_put_off, holds_without_off, member_alike, none_without, nothing_kept, onward_same, present}
use Rattle.co_law_base.proofs.VoteMoves.{may_cast}
use Rattle.co_law_base.proofs.Locally.{MayCommitLocally, may_commit_locally}
use Rattle.co_law_moves.proofs.MemberOnward as members

module _ (s : Federation) (f : Facts s) where
  collect : (t c : ℕ) → Guard s (Collect t c) → Onward s (effect s (Collect t c))
  collect t c g = entry_onward s t c entry.Idle (entry.Collecting (parts_of (told_of s t)) []) g.0

  yes' : (t c m : ℕ) → Guard s (RecordYes t c m) → Onward s (effect s (RecordYes t c m))
  yes' t c m g = subst (λ o. Onward s (record_yes s t c m o)) (sym g.2) (entry_onward s t c (entry.Collecting g.0 g.1) (entry.Collecting g.0 (m ∷ g.1)) g.2)

  ack : (t c m : ℕ) → Guard s (RecordAck t c m) → Onward s (effect s (RecordAck t c m))
  ack t c m g = subst (λ o. Onward s (record_ack s t c m o)) (sym g.2) (entry_onward s t c (entry.Committed g.0 g.1) (entry.Committed g.0 (m ∷ g.1)) g.2)

  leave : (t c : ℕ) → Onward s (effect s (Leave t c))
  leave t c = coord_onward s c _ (λ u h. or_left _ _ (back_without (s.coord c).table t u h))

  ended : (t c : ℕ) → Onward s (effect s (End t c))
  ended t c = coord_onward s c _ (λ u h. or_left _ _ (back_without (s.coord c).table t u h))

  coord_crash : (c : ℕ) → Onward s (effect s (CrashCoord c))
  coord_crash c = coord_onward s c _ back
    where
      back : (t : ℕ) → holds (table_from (entries (recovered_commits (s.coord c).log.stable).unended)) t ≡ true → alive (rest_of s) c t ≡ true
      back t h =
          let p = holds_found (table_from (entries (recovered_commits (s.coord c).log.stable).unended)) t h in
          let q = from_cases (recovered_commits (s.coord c).log.stable).unended t p.0 p.1 in
          or_right _ _ (known (or_cases _ _ ((f.coords c).known t (unended_seen (s.coord c).log.stable t q.0 q.1))))
        where
          known : ((by_coord (look s.sessions t) c && is_decided s.decided t) ≡ true) ⊎ (has_commit_of (s.opened_coord c) t ≡ true) → settled_at (rest_of s) c t ≡ true
          known (inl k) = or_left _ _ (and_parts (by_coord (look s.sessions t) c) (is_decided s.decided t) k).1
          known (inr k) = or_right _ _ k

  -- a session that keeps its home and what was told
  session_onward : (t : ℕ) (old new : Session) → look s.sessions t ≡ Some old → new.by ≡ old.by → ((m : ℕ) → count_at new.told m ≡ count_at old.told m) → Onward s (with_session s t new)
  session_onward t old new e home same =
      record {
        belongs_on = λ u c b. on u c b;
        alive_back = λ u c b a. a;
        counts = λ u m. let q = same_reading (λ o. count_at (told_in o) m) s.sessions t old new e (same m) u in subst (λ k. count_at (told_of s u) m ≤ k) (sym q) (omega arith);
        decided = λ u h. h;
        stand = λ m u l h. h;
        committed = λ m u h. h;
        nowhere = λ m u l n h. h;
      }
    where
      on : (u c : ℕ) → belongs (rest_of s) u c → belongs (rest_of (with_session s t new)) u c
      on u c (Begun h) = Begun (same_reading (λ o. by_coord o c) s.sessions t old new e (ap (λ k. same_node k (node.Coord c)) home) u ∙ h)
      on u c (Voted m h) = Voted m h

  ask : (t : ℕ) → Onward s (effect s (AskEnd t))
  ask t = by (look s.sessions t) refl
    where
      by : (o : Option Session) → look s.sessions t ≡ o → Onward s (marked_over s t o)
      by None e = onward_same s
      by (Some session) e = session_onward t session (asked_to_end session) e refl (λ m. refl)

  -- a new session
  new_session : (t : ℕ) (new : Session) → is_used s t ≡ false → Onward s (with_session s t new)
  new_session t new g =
      record {
        belongs_on = λ u c b. on u c b;
        alive_back = λ u c b a. a;
        counts = λ u m. count u m (t == u) refl;
        decided = λ u h. h;
        stand = λ m u l h. h;
        committed = λ m u h. h;
        nowhere = λ m u l n h. h;
      }
    where
      none : look s.sessions t ≡ None
      none = not_held s.sessions t (or_parts (holds s.sessions t) (holds s.used t) g).0

      on : (u c : ℕ) → belongs (rest_of s) u c → belongs (rest_of (with_session s t new)) u c
      on u c (Voted m h) = Voted m h
      on u c (Begun h) = Begun (by (t == u) refl)
        where
          by : (b : Bool) → (t == u) ≡ b → by_coord (look (put s.sessions t new) u) c ≡ true
          by true e = absurd (let z : false ≡ true = ap (λ o. by_coord o c) (sym none ∙ ap (look s.sessions) (eqb-true t u e)) ∙ h in cc)
          by false e = ap (λ o. by_coord o c) (put_there s.sessions t new u (eqb-false t u e)) ∙ h

      count : (u m : ℕ) (b : Bool) → (t == u) ≡ b → count_at (told_of s u) m ≤ count_at (told_in (look (put s.sessions t new) u)) m
      count u m true e =
          let q : count_at (told_of s u) m ≡ 0 = ap (λ o. count_at (told_in o) m) (ap (look s.sessions) (sym (eqb-true t u e)) ∙ none) in
          omega (arith, q)
      count u m false e = subst (λ o. count_at (told_of s u) m ≤ count_at (told_in o) m) (sym (put_there s.sessions t new u (eqb-false t u e))) (omega arith)

  begin : (t c : ℕ) → Guard s (Begin t c) → Onward s (effect s (Begin t c))
  begin t c g =
      record {
        belongs_on = first.belongs_on;
        alive_back = λ u d b. at_each (λ d y. belongs (rest_of s) u d → (holds y.table u || settled_at (rest_of s) d u) ≡ true → alive (rest_of s) d u ≡ true) s.coord c
            (with_table (s.coord c) (put (s.coord c).table t entry.Idle)) (here u) (λ d b h. h) d b;
        counts = first.counts;
        decided = λ u h. h;
        stand = λ m u l h. h;
        committed = λ m u h. h;
        nowhere = λ m u l n h. h;
      }
    where
      first : Onward s (with_session s t (begun_by (node.Coord c)))
      first = new_session t (begun_by (node.Coord c)) g

      here : (u : ℕ) → belongs (rest_of s) u c → (holds (put (s.coord c).table t entry.Idle) u || settled_at (rest_of s) c u) ≡ true → alive (rest_of s) c u ≡ true
      here u b h = by (t == u) refl
        where
          by : (k : Bool) → (t == u) ≡ k → alive (rest_of s) c u ≡ true
          by true e = absurd (let z : true ≡ false = sym (belongs_seen (rest_of s) f.numbers u c b) ∙ ap (is_used s) (sym (eqb-true t u e)) ∙ g in cc)
          by false e = ap (λ k. k || settled_at (rest_of s) c u) (sym (holds_put_off (s.coord c).table t entry.Idle u (eqb-false t u e))) ∙ h

  -- a decision
  decided_onward : (t c : ℕ) (e : Entry) (y : CoordState) → look (s.coord c).table t ≡ Some e → OpenEntry (rest_of s) c (s.coord c).log.stable t →
      ((u : ℕ) → holds y.table u ≡ true → holds (s.coord c).table u ≡ true) → Onward s (with_decision (with_coord s c y) t)
  decided_onward t c e y is open' back =
      record {
        belongs_on = λ u d b. b;
        alive_back = λ u d b a. by u d b (or_cases (holds (with_at s.coord c y d).table u) (is_decided (with_decision s t).decided u || has_commit_of (s.opened_coord d) u) a);
        counts = λ u m. omega arith;
        decided = λ u h. or_right (t == u) (is_decided s.decided u) h;
        stand = λ m u l h. h;
        committed = λ m u h. h;
        nowhere = λ m u l n h. h;
      }
    where
      settles : (u d : ℕ) → belongs (rest_of s) u d → (is_decided (with_decision s t).decided u ≡ true) ⊎ (has_commit_of (s.opened_coord d) u ≡ true) → alive (rest_of s) d u ≡ true
      settles u d b (inr k) = or_right (holds (s.coord d).table u) (settled_at (rest_of s) d u) (or_right (is_decided s.decided u) (has_commit_of (s.opened_coord d) u) k)
      settles u d b (inl k) = now (or_cases (t == u) (is_decided s.decided u) k)
        where
          now : ((t == u) ≡ true) ⊎ (is_decided s.decided u ≡ true) → alive (rest_of s) d u ≡ true
          now (inr q) = or_right (holds (s.coord d).table u) (settled_at (rest_of s) d u) (or_left (is_decided s.decided u) (has_commit_of (s.opened_coord d) u) q)
          now (inl q) =
              let same : t ≡ u = eqb-true t u q in
              let mine : belongs (rest_of s) t d = subst (λ k. belongs (rest_of s) k d) (sym same) b in
              let home : c ≡ d = one_belongs (rest_of s) f.numbers t c d (Begun open'.begun_there) mine in
              or_left (holds (s.coord d).table u) (settled_at (rest_of s) d u) (subst (λ k. holds (s.coord d).table k ≡ true) same (subst (λ k. holds (s.coord k).table t ≡ true) home (found_holds (s.coord c).table t e is)))

      by : (u d : ℕ) → belongs (rest_of s) u d → (holds (with_at s.coord c y d).table u ≡ true) ⊎ ((is_decided (with_decision s t).decided u || has_commit_of (s.opened_coord d) u) ≡ true) → alive (rest_of s) d u ≡ true
      by u d b (inl h) = or_left _ _ (at_each (λ d z. holds z.table u ≡ true → holds (s.coord d).table u ≡ true) s.coord c y (back u) (λ d h. h) d h)
      by u d b (inr h) = settles u d b (or_cases (is_decided (with_decision s t).decided u) (has_commit_of (s.opened_coord d) u) h)

  decide : (t c : ℕ) → Guard s (Decide t c) → Onward s (effect s (Decide t c))
  decide t c (inl p) =
      subst (λ o. Onward s (with_decision (with_coord s c (decide_entry (s.coord c) t o)) t)) (sym p.0)
      (decided_onward t c entry.Idle (decide_members (s.coord c) t []) p.0 ((f.coords c).idle t p.0) (λ u h. back_without (s.coord c).table t u h))
  decide t c (inr g) =
      subst (λ o. Onward s (with_decision (with_coord s c (decide_entry (s.coord c) t o)) t)) (sym g.3)
      (by (members_of g.0))
    where
      by : (ms : List ℕ) → Onward s (with_decision (with_coord s c (decide_members (s.coord c) t ms)) t)
      by [] = decided_onward t c (entry.Collecting g.0 g.1) (decide_members (s.coord c) t []) g.3 ((f.coords c).collecting t g.0 g.1 g.3).still (λ u h. back_without (s.coord c).table t u h)
      by (k ∷ ms) =
          decided_onward t c (entry.Collecting g.0 g.1) (decide_members (s.coord c) t (k ∷ ms)) g.3 ((f.coords c).collecting t g.0 g.1 g.3).still
          (λ u h. holds_put (s.coord c).table t (entry.Committed (k ∷ ms) []) u (found_holds (s.coord c).table t (entry.Collecting g.0 g.1) g.3) h)

  -- an operation
  operate : (t m : ℕ) (o : Op) → Guard s (Operate t m o) → Onward s (effect s (Operate t m o))
  operate t m o g = by (look s.sessions t) refl g.0
    where
      nowhere : (u : ℕ) → 1 ≤ count_at (told_of s u) m → present (s.member m) u ≡ false → present (with_engine (s.member m) (with_operation (s.member m).engine t o)) u ≡ false
      nowhere u n h = now (t == u) refl
        where
          p : (holds (s.member m).engine.active u ≡ false) × (stands (view Memory (s.member m)) u ≡ false)
          p = or_parts _ _ h

          now : (b : Bool) → (t == u) ≡ b → present (with_engine (s.member m) (with_operation (s.member m).engine t o)) u ≡ false
          now true e =
              let same : t ≡ u = eqb-true t u e in
              let q : 0 ≡ count_at (told_of s u) m = sym (nothing_kept (s.member m).engine t (ap (holds (s.member m).engine.active) same ∙ p.0)) ∙ g.1 ∙ ap (λ k. count_at (told_of s k) m) same in
              let k : 1 ≤ 0 = subst (λ j. 1 ≤ j) (sym q) n in
              absurd (omega (arith, k))
          now false e = or_from _ _ (ap is_some (put_there (s.member m).engine.active t _ u (eqb-false t u e)) ∙ p.0) p.1

      by : (z : Option Session) → look s.sessions t ≡ z → may_operate_at z m → Onward s (with_member (entered_reply s t m o z) m (with_engine (s.member m) (with_operation (s.member m).engine t o)))
      by None e g' = absurd g'
      by (Some session) e g' =
          record {
            belongs_on = λ u c b. on u c b;
            alive_back = λ u c b a. a;
            counts = λ u k. count u k (t == u) refl;
            decided = λ u h. h;
            stand = λ k u l. at_each (λ k y. stands (view Memory (s.member k)) u ≡ true → stands (view Memory y) u ≡ true) s.member m (with_engine (s.member m) (with_operation (s.member m).engine t o)) (λ h. h) (λ k h. h) k;
            committed = λ k u. at_each (λ k y. holds (s.member k).committed u ≡ true → holds y.committed u ≡ true) s.member m (with_engine (s.member m) (with_operation (s.member m).engine t o)) (λ h. h) (λ k h. h) k;
            nowhere = λ k u l. at_each (λ k y. 1 ≤ count_at (told_of s u) k → present (s.member k) u ≡ false → present y u ≡ false) s.member m (with_engine (s.member m) (with_operation (s.member m).engine t o)) (nowhere u) (λ k n h. h) k;
          }
        where
          new : Session
          new = with_told session (record { site = record { member = m; op = o }; reply = operation_reply (s.member m).engine t o })

          on : (u c : ℕ) → belongs (rest_of s) u c → belongs (rest_of (with_session s t (with_told session (record { site = record { member = m; op = o }; reply = operation_reply (s.member m).engine t o })))) u c
          on u c (Begun h) = Begun (same_reading (λ z. by_coord z c) s.sessions t session new e refl u ∙ h)
          on u c (Voted k h) = Voted k h

          more : (b : Bool) (n : ℕ) → n ≤ (if b then n + 1 else n)
          more true n = omega arith
          more false n = omega arith

          count : (u k : ℕ) (b : Bool) → (t == u) ≡ b → count_at (told_of s u) k ≤ count_at (told_in (look (put s.sessions t new) u)) k
          count u k true d =
              let same : t ≡ u = eqb-true t u d in
              subst (λ j. count_at (told_of s j) k ≤ count_at (told_in (look (put s.sessions t new) j)) k) same
              (subst (λ z. count_at (told_in z) k ≤ count_at (told_in (look (put s.sessions t new) t)) k) (sym e)
              (subst (λ z. count_at session.told k ≤ count_at (told_in z) k) (sym (put_here s.sessions t new)) (more (m == k) (count_at session.told k))))
          count u k false d = subst (λ z. count_at (told_of s u) k ≤ count_at (told_in z) k) (sym (put_there s.sessions t new u (eqb-false t u d))) (omega arith)

  -- a member decides alone
  pub local : (t m : ℕ) → MayCommitLocally s t m → Onward s (effect s (CommitLocally t m))
  local t m g = by (look s.sessions t) refl g.0
    where
      vote : Vote
      vote = record { coord = local_coord; count = counted (count_at (told_of s t) m); sets = sets_of (operations_of (s.member m).engine t) }

      installed : (P : EngineState → Type 0) → P (install_vote (after_cast (s.member m).engine t local_coord (counted (count_at (told_of s t) m))) t (Some vote)) →
          P (after_install (after_cast (s.member m).engine t local_coord (counted (count_at (told_of s t) m))) t)
      installed P p = subst (λ o. P (install_vote (after_cast (s.member m).engine t local_coord (counted (count_at (told_of s t) m))) t o)) (sym (put_here (s.member m).engine.voted t vote)) p

      stand : (u : ℕ) → stands (view Memory (s.member m)) u ≡ true → stands (view Memory (local_state (s.member m) t (count_at (told_of s t) m))) u ≡ true
      stand u h = installed (λ b. (holds b.voted u || holds (with_number (s.member m).committed t) u) ≡ true) (now (or_cases _ _ h) (t == u) refl)
        where
          now : (holds (s.member m).engine.voted u ≡ true) ⊎ (holds (s.member m).committed u ≡ true) → (b : Bool) → (t == u) ≡ b →
              (holds (without (put (s.member m).engine.voted t vote) t) u || holds (with_number (s.member m).committed t) u) ≡ true
          now (inr q) b d = or_right _ _ (holds_more (s.member m).committed t u q)
          now (inl q) false d = or_left _ _ (holds_without_off (put (s.member m).engine.voted t vote) t u (eqb-false t u d) ∙ holds_put_off (s.member m).engine.voted t vote u (eqb-false t u d) ∙ q)
          now (inl q) true d = or_right _ _ (ap (holds (with_number (s.member m).committed t)) (sym (eqb-true t u d)) ∙ holds_new (s.member m).committed t)

      nowhere : (u : ℕ) → present (s.member m) u ≡ false → present (local_state (s.member m) t (count_at (told_of s t) m)) u ≡ false
      nowhere u h = installed (λ b. (holds b.active u || (holds b.voted u || holds (with_number (s.member m).committed t) u)) ≡ false) (now (t == u) refl)
        where
          p : (holds (s.member m).engine.active u ≡ false) × (stands (view Memory (s.member m)) u ≡ false)
          p = or_parts _ _ h

          q : (holds (s.member m).engine.voted u ≡ false) × (holds (s.member m).committed u ≡ false)
          q = or_parts _ _ p.1

          now : (b : Bool) → (t == u) ≡ b →
              (holds (without (s.member m).engine.active t) u || (holds (without (put (s.member m).engine.voted t vote) t) u || holds (with_number (s.member m).committed t) u)) ≡ false
          now true d = absurd (absent_casts (s.member m).engine t (count_at (told_of s t) m) g.3 g.2 (ap (holds (s.member m).engine.active) (eqb-true t u d) ∙ p.0))
          now false d =
              or_from _ _ (none_without (s.member m).engine.active t u p.0)
              (or_from _ _ (none_without (put (s.member m).engine.voted t vote) t u (holds_put_off (s.member m).engine.voted t vote u (eqb-false t u d) ∙ q.0)) (holds_put_off (s.member m).committed t tt u (eqb-false t u d) ∙ q.1))

      by : (z : Option Session) → look s.sessions t ≡ z → session_by_member z m → Onward s (with_decision (with_member (marked_over s t z) m (local_state (s.member m) t (count_at (told_of s t) m))) t)
      by None e h = absurd h
      by (Some session) e h =
          record {
            belongs_on = first.belongs_on;
            alive_back = λ u c b a. back u c b (or_cases (holds (s.coord c).table u) (is_decided (with_decision s t).decided u || has_commit_of (s.opened_coord c) u) a);
            counts = first.counts;
            decided = λ u k. or_right (t == u) (is_decided s.decided u) k;
            stand = λ k u l. at_each (λ k y. stands (view Memory (s.member k)) u ≡ true → stands (view Memory y) u ≡ true) s.member m (local_state (s.member m) t (count_at (told_of s t) m)) (stand u) (λ k h. h) k;
            committed = λ k u. at_each (λ k y. holds (s.member k).committed u ≡ true → holds y.committed u ≡ true) s.member m (local_state (s.member m) t (count_at (told_of s t) m)) (λ q. holds_more (s.member m).committed t u q) (λ k h. h) k;
            nowhere = λ k u l n. at_each (λ k y. present (s.member k) u ≡ false → present y u ≡ false) s.member m (local_state (s.member m) t (count_at (told_of s t) m)) (nowhere u) (λ k h. h) k;
          }
        where
          first : Onward s (with_session s t (asked_to_end session))
          first = session_onward t session (asked_to_end session) e refl (λ k. refl)

          settles : (u c : ℕ) → belongs (rest_of s) u c → (is_decided (with_decision s t).decided u ≡ true) ⊎ (has_commit_of (s.opened_coord c) u ≡ true) → alive (rest_of s) c u ≡ true
          settles u c b (inr k) = or_right (holds (s.coord c).table u) (settled_at (rest_of s) c u) (or_right (is_decided s.decided u) (has_commit_of (s.opened_coord c) u) k)
          settles u c b (inl k) = now (or_cases (t == u) (is_decided s.decided u) k)
            where
              now : ((t == u) ≡ true) ⊎ (is_decided s.decided u ≡ true) → alive (rest_of s) c u ≡ true
              now (inr q) = or_right (holds (s.coord c).table u) (settled_at (rest_of s) c u) (or_left (is_decided s.decided u) (has_commit_of (s.opened_coord c) u) q)
              now (inl q) = absurd (local_apart s f.numbers t c m session (subst (λ k. belongs (rest_of s) k c) (sym (eqb-true t u q)) b) e h)

          back : (u c : ℕ) → belongs (rest_of s) u c → (holds (s.coord c).table u ≡ true) ⊎ ((is_decided (with_decision s t).decided u || has_commit_of (s.opened_coord c) u) ≡ true) → alive (rest_of s) c u ≡ true
          back u c b (inl k) = or_left _ _ k
          back u c b (inr k) = settles u c b (or_cases (is_decided (with_decision s t).decided u) (has_commit_of (s.opened_coord c) u) k)

  pub move_onward : (move : Move) → Guard s move → Onward s (effect s move)
  move_onward (Operate t m o) g = operate t m o g
  move_onward (MarkAsked t m c n) g = members.mark s f t m c n
  move_onward (Cast t m c n) g = members.cast s f t m c n (may_cast s t m c n g)
  move_onward (DropActive t m) g = members.drop_active s f t m g
  move_onward (DropVoted t m) g = members.drop_voted s f t m g
  move_onward (Install t m) g = members.install s f t m g
  move_onward (CommitLocally t m) g = local t m (may_commit_locally s t m g)
  move_onward (CrashMember m) g = members.crash s f m
  move_onward (RestartMember m) g = member_alike s m _ refl refl
  move_onward (ArmMember m stop) g = member_alike s m _ refl refl
  move_onward (CloseMemberSpare m closed) g = member_alike s m _ refl refl
  move_onward (FillMemberSpare m) g = member_alike s m _ refl refl
  move_onward (Begin t c) g = begin t c g
  move_onward (Collect t c) g = collect t c g
  move_onward (RecordYes t c m) g = yes' t c m g
  move_onward (Decide t c) g = decide t c g
  move_onward (Leave t c) g = leave t c
  move_onward (RecordAck t c m) g = ack t c m g
  move_onward (End t c) g = ended t c
  move_onward (CrashCoord c) g = coord_crash c
  move_onward (RestartCoord c) g = coord_onward s c _ (λ u h. or_left _ _ h)
  move_onward (ArmCoord c stop) g = coord_onward s c _ (λ u h. or_left _ _ h)
  move_onward (CloseCoordSpare c closed) g = coord_onward s c _ (λ u h. or_left _ _ h)
  move_onward (FillCoordSpare c) g = coord_onward s c _ (λ u h. or_left _ _ h)
  move_onward (BeginLocal t m) g = new_session t (begun_by (node.Member m)) g
  move_onward (AskEnd t) g = ask t
  move_onward (Send note) g =
      record {
        belongs_on = λ u c b. b;
        alive_back = λ u c b a. a;
        counts = λ u m. omega arith;
        decided = λ u h. h;
        stand = λ m u l h. h;
        committed = λ m u h. h;
        nowhere = λ m u l n h. h;
      }

-- all armed stops are taken away
