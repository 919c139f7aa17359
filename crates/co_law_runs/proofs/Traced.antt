-- What a trace says of a state it goes on saying, act by act.
use Rattle.std.proofs.Common.{◌≡◌, ◌⊎◌, inl, inr, ℕ, Bool, true, false, ◌||◌, ◌&&◌, ◌==◌, if◌then◌else◌, List, [], ◌∷◌, ◌++◌, Option, None, Some, refl, sym, ap, ◌∙◌, subst}
use Rattle.std.specs.Option.{is_some}
use Rattle.std.proofs.lemmas.Bool.{or_cases, or_left, or_parts, and_parts, eqb-true, eqb-false, eq-eqb, false_from_ne_true}
use Rattle.co_base.specs.declared.node.Node.{Node}
use Rattle.co_base.specs.declared.node.Node.TheVariants as node
use Rattle.co_base.specs.declared.op.Op.{Op}
use Rattle.co_base.specs.declared.reply.Reply.{Reply}
use Rattle.co_serial.specs.SerialRun.{with_at}
use Rattle.co_state.specs.Table.{no_entries, look, put, holds}
use Rattle.co_state.specs.ReadRule.{operation_reply}
use Rattle.co_plain.specs.declared.member_state.MemberState.{MemberState}
use Rattle.co_plain.specs.declared.session.Session.{Session}
use Rattle.co_plain.specs.MemberStep.{with_engine}
use Rattle.co_plain.specs.Member.{coord_of}
use Rattle.co_plain.specs.MemberView.{recovered_view}
use Rattle.co_state.specs.Effects.{with_operation}
use Rattle.co_law_engine.proofs.YesTells.{in_some}
use Rattle.co_plain.specs.Sessions.{count_at, with_told, asked_to_end, begun_by}
use Rattle.co_base.specs.Nodes.{same_node}
use Rattle.co_plain.specs.Federation.{Federation, with_member, with_session}
use Rattle.co_plain.specs.Step.{is_used, disarmed}
use Rattle.co_plain.specs.Decisions.{told_of, decided_numbers}
use Rattle.co_plain.specs.Invariants.{Memory}
use Rattle.co_plain.specs.CommitmentOrder.{Trace, Began, Operated, Committed, decides_at, decisions_in, installs}
use Rattle.co_plain.specs.Moves.{Move, Operate, MarkAsked, Cast, DropActive, DropVoted, Install, CommitLocally, CrashMember, RestartMember, ArmMember, CloseMemberSpare, FillMemberSpare, Begin, Collect, RecordYes, Decide, Leave, RecordAck, End, CrashCoord, RestartCoord, ArmCoord, CloseCoordSpare, FillCoordSpare, BeginLocal, AskEnd, Send, Guard, effect, entered_reply, marked_over, record_yes, record_ack, session_by_member, may_operate_at, install_state, local_state, with_decision}
use Rattle.co_law_base.proofs.Lookups.{put_here, put_there}
use Rattle.co_law_base.proofs.Commits.{holds_more, holds_new, holds_cases}
use Rattle.co_law_base.proofs.Facts.{rest_of, by_coord, belongs, Begun, Voted, Facts}
use Rattle.co_law_base.proofs.Carrying.{at_each, at_here, over_seen, votes_stand}
use Rattle.co_law_base.proofs.TwoViews.{committed_both}
use Rattle.co_law_base.proofs.LogMoves.{not_held}
use Rattle.co_law_base.proofs.Asking.{same_reading}
use Rattle.co_law_moves.proofs.Standings.{votes_own}
use Rattle.co_law_moves.specs.MoveTraces.{move_trace}
use Rattle.co_law_moves.proofs.ItemsTold.{no_rest, more}
use Rattle.co_law_runs.proofs.Acts.{Act, Moves, Disarms, after_act, act_guard, act_trace, acts_trace, run_acts, ActsHold, act_keeps}
use Rattle.co_law_runs.proofs.Deciders.{committed_at, decider_in, decided_in, homes_in, homes_more, decisions_more, home_of, homed, homed_coord, homed_session, same_self, one_home, decider_more, decider_none, decider_same, committed_more, installs_more, or_none, order_more, decision_last}
use Rattle.co_law_runs.proofs.TraceStates.{Traced, Alike, alike_traced, used_put, homed_used, operated_traced, same_decider, installed_traced}

module _ (s : Federation) (f : Facts s) (tr : List Trace) (r : Traced tr s) where
  -- the same sessions' homes, decisions and commits
  stays : (z : Federation) → Alike s z → Traced (tr ++ []) z
  stays z a = subst (λ k. Traced k z) (sym (no_rest tr)) (alike_traced tr s z a r)

  -- nothing but members changes
  members_alike : (z : Federation) → z.sessions ≡ s.sessions → z.decided ≡ s.decided → z.used ≡ s.used → ((m t : ℕ) → holds (s.member m).committed t ≡ holds (z.member m).committed t) → Alike s z
  members_alike z e d u c =
      record {
        homes = λ t by. ap (λ n. homed (look n t) by) (sym e);
        known = λ t h. (λ i. holds (e i) t || holds (u i) t) ∙ h;
        decided = sym d;
        committed = c;
        used = λ t. ap (λ n. holds n t) (sym u);
      }

  one_member : (m : ℕ) (x : MemberState) → ((t : ℕ) → holds (s.member m).committed t ≡ holds x.committed t) → Traced (tr ++ []) (with_member s m x)
  one_member m x same =
      stays (with_member s m x) (members_alike (with_member s m x) refl refl refl (λ k t. at_each (λ k y. holds (s.member k).committed t ≡ holds y.committed t) s.member m x (same t) (λ k. refl) k))

  none_of : (z : Federation) → z.sessions ≡ s.sessions → z.decided ≡ s.decided → z.used ≡ s.used → z.member ≡ s.member → Traced (tr ++ []) z
  none_of z e d u m = stays z (members_alike z e d u (λ k t. ap (λ n. holds (n k).committed t) (sym m)))

  session_alike : (t : ℕ) (old new : Session) → look s.sessions t ≡ Some old → new.by ≡ old.by → Alike s (with_session s t new)
  session_alike t old new e home =
      record {
        homes = λ u by. sym (same_reading (λ o. homed o by) s.sessions t old new e (ap (λ k. same_node k by) home) u);
        known = used_put s t new;
        decided = refl;
        committed = λ m u. refl;
        used = λ u. refl;
      }

  ask : (t : ℕ) → Traced (tr ++ []) (effect s (AskEnd t))
  ask t = by (look s.sessions t) refl
    where
      by : (o : Option Session) → look s.sessions t ≡ o → Traced (tr ++ []) (marked_over s t o)
      by None e = none_of s refl refl refl refl
      by (Some session) e = stays (with_session s t (asked_to_end session)) (session_alike t session (asked_to_end session) e refl)

  operate : (t m : ℕ) (o : Op) → Guard s (Operate t m o) → Traced (tr ++ Operated t m o (operation_reply (s.member m).engine t o) ∷ []) (effect s (Operate t m o))
  operate t m o g = by (look s.sessions t) refl g.0
    where
      reply : Reply
      reply = operation_reply (s.member m).engine t o

      x : MemberState
      x = with_engine (s.member m) (with_operation (s.member m).engine t o)

      by : (z : Option Session) → look s.sessions t ≡ z → may_operate_at z m → Traced (tr ++ Operated t m o reply ∷ []) (with_member (entered_reply s t m o z) m x)
      by None e h = absurd h
      by (Some session) e h =
          let told = with_told session (record { site = record { member = m; op = o }; reply = reply }) in
          operated_traced tr (with_member (with_session s t told) m x) t m o reply
          (alike_traced tr s (with_member (with_session s t told) m x)
          (record {
            homes = λ u by. sym (same_reading (λ k. homed k by) s.sessions t session told e refl u);
            known = used_put s t told;
            decided = refl;
            committed = λ k u. at_each (λ k y. holds (s.member k).committed u ≡ holds y.committed u) s.member m x refl (λ k. refl) k;
            used = λ u. refl;
          }) r)

  no_session : (t : ℕ) → is_used s t ≡ false → look s.sessions t ≡ None
  no_session t g = not_held s.sessions t (or_parts (holds s.sessions t) (holds s.used t) g).0

  begin : (t : ℕ) (at : Node) → is_used s t ≡ false → Traced (tr ++ Began t at ∷ []) (with_session s t (begun_by at))
  begin t at g =
      record {
        by_some = λ u by e. some u by e (decider_in tr u) refl;
        begun = λ u by h. begun u by (t == u) refl h;
        known = λ u by h. used_put s t (begun_by at) u (r.known u by (sym (or_none _ _ refl) ∙ sym (committed_more tr by u x) ∙ h));
        order = order_more tr x (λ u by h. ap (λ b. if b then Some at else None) (apart u (r.known u by h))) ∙ no_rest (decided_in tr tr) ∙ r.order;
        homes = λ u. ap (λ k. look k u) (homes_more no_entries tr x) ∙ homes u (t == u) refl;
        decisions = decisions_more no_entries tr x ∙ no_rest (decisions_in tr) ∙ r.decisions;
        installed = λ u k h. r.installed u k (sym (or_none _ _ refl) ∙ sym (installs_more tr k u x) ∙ h);
        was_installed = λ u k h. was u k (r.was_installed u k h);
      }
    where
      x : List Trace
      x = Began t at ∷ []

      apart : (u : ℕ) → is_used s u ≡ true → (t == u) ≡ false
      apart u h = false_from_ne_true _ (λ e. let z : true ≡ false = sym h ∙ ap (is_used s) (sym (eqb-true t u e)) ∙ g in cc)

      there : (u : ℕ) → (t == u) ≡ false → look (put s.sessions t (begun_by at)) u ≡ look s.sessions u
      there u n = put_there s.sessions t (begun_by at) u (eqb-false t u n)

      here : look (put s.sessions t (begun_by at)) t ≡ Some (begun_by at)
      here = put_here s.sessions t (begun_by at)

      homes : (u : ℕ) (b : Bool) → (t == u) ≡ b → look (put (homes_in tr) t at) u ≡ home_of (look (put s.sessions t (begun_by at)) u)
      homes u true e =
          ap (look (put (homes_in tr) t at)) (sym (eqb-true t u e)) ∙ put_here (homes_in tr) t at
          ∙ sym (ap (λ k. home_of (look (put s.sessions t (begun_by at)) k)) (sym (eqb-true t u e)) ∙ ap home_of here)
      homes u false e = put_there (homes_in tr) t at u (eqb-false t u e) ∙ r.homes u ∙ ap home_of (sym (there u e))

      nobody : decider_in tr t ≡ None
      nobody = by (decider_in tr t) refl
        where
          by : (o : Option Node) → decider_in tr t ≡ o → decider_in tr t ≡ None
          by None e = e
          by (Some home) e = absurd (let z : false ≡ true = ap (λ o. homed o home) (sym (no_session t g)) ∙ r.by_some t home e in cc)

      some : (u : ℕ) (by : Node) → decider_in (tr ++ x) u ≡ Some by → (o : Option Node) → decider_in tr u ≡ o → homed (look (put s.sessions t (begun_by at)) u) by ≡ true
      some u by e (Some home) q =
          let same : home ≡ by = in_some (sym (decider_more tr u home x q) ∙ e) in
          let old = r.by_some u home q in
          ap (λ o. homed o by) (there u (apart u (homed_used s u home old))) ∙ ap (homed (look s.sessions u)) (sym same) ∙ old
      some u by e None q = now (t == u) refl (sym (decider_none tr u x q) ∙ e)
        where
          now : (b : Bool) → (t == u) ≡ b → (if t == u then Some at else None) ≡ Some by → homed (look (put s.sessions t (begun_by at)) u) by ≡ true
          now true k h =
              let same : at ≡ by = in_some (sym (ap (λ b. if b then Some at else None) k) ∙ h) in
              ap (λ j. homed (look (put s.sessions t (begun_by at)) j) by) (sym (eqb-true t u k)) ∙ ap (λ o. homed o by) here ∙ ap (same_node at) (sym same) ∙ same_self at
          now false k h = absurd (let z : None ≡ Some by = sym (ap (λ b. if b then Some at else None) k) ∙ h in cc)

      begun : (u : ℕ) (by : Node) (b : Bool) → (t == u) ≡ b → homed (look (put s.sessions t (begun_by at)) u) by ≡ true → decider_in (tr ++ x) u ≡ Some by
      begun u by false e h = decider_more tr u by x (r.begun u by (ap (λ o. homed o by) (sym (there u e)) ∙ h))
      begun u by true e h =
          let same : t ≡ u = eqb-true t u e in
          let mine : at ≡ by = one_home (Some (begun_by at)) at by (same_self at) (sym (ap (λ o. homed o by) here) ∙ ap (λ j. homed (look (put s.sessions t (begun_by at)) j) by) same ∙ h) in
          ap (decider_in (tr ++ x)) (sym same) ∙ decider_none tr t x nobody ∙ ap (λ b. if b then Some at else None) (eq-eqb t t refl) ∙ ap Some mine

      was : (u k : ℕ) → (installs tr k u ≡ true) ⊎ (holds s.used u ≡ true) → (installs (tr ++ x) k u ≡ true) ⊎ (holds s.used u ≡ true)
      was u k (inl h) = inl (installs_more tr k u x ∙ or_left _ _ h)
      was u k (inr h) = inr h

  -- a decision at the home of a transaction
  decided_there : (t : ℕ) (at : Node) → homed (look s.sessions t) at ≡ true → decided_in (tr ++ Committed at t ∷ []) (Committed at t ∷ []) ≡ t ∷ []
  decided_there t at h =
      ap (λ o. if decides_at o at then t ∷ [] else []) (decider_same tr t (Committed at t ∷ []) refl ∙ r.begun t at h) ∙ ap (λ b. if b then t ∷ [] else []) (same_self at)

  decide : (t c : ℕ) → by_coord (look s.sessions t) c ≡ true → Traced (tr ++ Committed (node.Coord c) t ∷ []) (effect s (Decide t c))
  decide t c mine =
      record {
        by_some = λ u by e. r.by_some u by (sym (decider_same tr u x refl) ∙ e);
        begun = λ u by h. decider_same tr u x refl ∙ r.begun u by h;
        known = λ u at h. known u at (or_cases _ _ (sym (committed_more tr at u x) ∙ h));
        order = order_more tr x (λ u at h. refl) ∙ (λ i. r.order i ++ decided_there t (node.Coord c) home i) ∙ sym (decision_last (record { txn = t; told = told_of s t }) s.decided);
        homes = λ u. ap (λ k. look k u) (homes_more no_entries tr x) ∙ r.homes u;
        decisions =
            decisions_more no_entries tr x
            ∙ (λ i. r.decisions i ++ (if decides_at ((same_decider tr s r t ∙ r.begun t (node.Coord c) home) i) (node.Coord c) then t ∷ [] else []))
            ∙ ap (λ b. decided_numbers s.decided ++ (if b then t ∷ [] else [])) (same_self (node.Coord c))
            ∙ sym (decision_last (record { txn = t; told = told_of s t }) s.decided);
        installed = λ u k h. r.installed u k (sym (or_none _ _ refl) ∙ sym (installs_more tr k u x) ∙ h);
        was_installed = λ u k h. was u k (r.was_installed u k h);
      }
    where
      x : List Trace
      x = Committed (node.Coord c) t ∷ []

      home : homed (look s.sessions t) (node.Coord c) ≡ true
      home = homed_coord (look s.sessions t) c ∙ mine

      known : (u : ℕ) (at : Node) → (committed_at tr at u ≡ true) ⊎ ((same_node (node.Coord c) at && (t == u) || false) ≡ true) → is_used s u ≡ true
      known u at (inl h) = r.known u at h
      known u at (inr h) = ap (is_used s) (sym (eqb-true t u (and_parts (same_node (node.Coord c) at) (t == u) (sym (or_none _ _ refl) ∙ h)).1)) ∙ homed_used s t (node.Coord c) home

      was : (u k : ℕ) → (installs tr k u ≡ true) ⊎ (holds s.used u ≡ true) → (installs (tr ++ x) k u ≡ true) ⊎ (holds s.used u ≡ true)
      was u k (inl h) = inl (installs_more tr k u x ∙ or_left _ _ h)
      was u k (inr h) = inr h

  install : (t m : ℕ) → Guard s (Install t m) → Traced (tr ++ Committed (node.Member m) t ∷ []) (effect s (Install t m))
  install t m g =
      installed_traced tr s (effect s (Install t m)) t m (λ u by. refl) (λ u h. h) (over_seen (rest_of s) t (((f.members m).views Memory).over t (or_left _ _ g.0)))
      (sym (ap (λ b. decided_numbers s.decided ++ (if b then t ∷ [] else [])) elsewhere ∙ no_rest (decided_numbers s.decided)))
      (λ k u. at_each (λ k y. holds (s.member k).committed u ≡ true → holds y.committed u ≡ true) s.member m (install_state (s.member m) t) (λ h. holds_more (s.member m).committed t u h) (λ k h. h) k)
      (ap (λ y. holds y.committed t) (at_here s.member m (install_state (s.member m) t)) ∙ holds_new (s.member m).committed t)
      (λ k u. at_each' k u) (λ u. refl) r
    where
      now : (u : ℕ) → (t ≡ u) ⊎ (holds (s.member m).committed u ≡ true) → (holds (s.member m).committed u ≡ true) ⊎ ((m ≡ m) × (u ≡ t))
      now u (inl e) = inr (refl, sym e)
      now u (inr h) = inl h

      at_each' : (k u : ℕ) → holds (with_at s.member m (install_state (s.member m) t) k).committed u ≡ true → (holds (s.member k).committed u ≡ true) ⊎ ((k ≡ m) × (u ≡ t))
      at_each' k u = at_each (λ k y. holds y.committed u ≡ true → (holds (s.member k).committed u ≡ true) ⊎ ((k ≡ m) × (u ≡ t))) s.member m (install_state (s.member m) t) (λ h. now u (holds_cases (s.member m).committed t u h)) (λ k h. inl h) k

      -- a voted transaction belongs to a coordinator
      theirs : belongs (rest_of s) t (coord_of (s.member m) t)
      theirs = ((f.members m).views Memory).named t (coord_of (s.member m) t) (votes_own s m t g.0)

      not_home : (by : Node) → homed (look s.sessions t) by ≡ true → belongs (rest_of s) t (coord_of (s.member m) t) → same_node by (node.Member m) ≡ false
      not_home by h (Begun k) =
          ap (λ n. same_node n (node.Member m)) (one_home (look s.sessions t) by (node.Coord (coord_of (s.member m) t)) h (homed_coord (look s.sessions t) (coord_of (s.member m) t) ∙ k))
      not_home by h (Voted o k) =
          absurd (let z : true ≡ false = sym (f.numbers.voted_used o t (votes_stand (recovered_view (s.opened_member o)) t (coord_of (s.member m) t) k)) ∙ f.numbers.new t (ap is_some (homed_session (look s.sessions t) by h).1) in cc)

      elsewhere : decides_at (decider_in (tr ++ Committed (node.Member m) t ∷ []) t) (node.Member m) ≡ false
      elsewhere = ap (λ o. decides_at o (node.Member m)) (decider_same tr t (Committed (node.Member m) t ∷ []) refl) ∙ by (decider_in tr t) refl
        where
          by : (o : Option Node) → decider_in tr t ≡ o → decides_at o (node.Member m) ≡ false
          by None e = refl
          by (Some home) e = not_home home (r.by_some t home e) theirs

  local : (t m : ℕ) → Guard s (CommitLocally t m) → Traced (tr ++ Committed (node.Member m) t ∷ []) (effect s (CommitLocally t m))
  local t m g = by (look s.sessions t) refl g.0
    where
      x : MemberState
      x = local_state (s.member m) t (count_at (told_of s t) m)

      now : (u : ℕ) → (t ≡ u) ⊎ (holds (s.member m).committed u ≡ true) → (holds (s.member m).committed u ≡ true) ⊎ ((m ≡ m) × (u ≡ t))
      now u (inl e) = inr (refl, sym e)
      now u (inr h) = inl h

      by : (z : Option Session) → look s.sessions t ≡ z → session_by_member z m → Traced (tr ++ Committed (node.Member m) t ∷ []) (with_decision (with_member (marked_over s t z) m x) t)
      by None e h = absurd h
      by (Some session) e h =
          let home : homed (look s.sessions t) (node.Member m) ≡ true = ap (λ o. homed o (node.Member m)) e ∙ ap (λ n. same_node n (node.Member m)) h ∙ same_self (node.Member m) in
          let z = with_member (marked_over s t (Some session)) m x in
          installed_traced tr s (with_decision z t) t m
          (λ u by. sym (same_reading (λ o. homed o by) s.sessions t session (asked_to_end session) e refl u))
          (used_put s t (asked_to_end session)) (homed_used s t (node.Member m) home)
          (decision_last (record { txn = t; told = told_of z t }) s.decided ∙ ap (λ k. decided_numbers s.decided ++ k) (sym (decided_there t (node.Member m) home)))
          (λ k u. at_each (λ k y. holds (s.member k).committed u ≡ true → holds y.committed u ≡ true) s.member m x (λ q. holds_more (s.member m).committed t u q) (λ k q. q) k)
          (ap (λ y. holds y.committed t) (at_here s.member m x) ∙ holds_new (s.member m).committed t)
          (λ k u. at_each (λ k y. holds y.committed u ≡ true → (holds (s.member k).committed u ≡ true) ⊎ ((k ≡ m) × (u ≡ t))) s.member m x (λ q. now u (holds_cases (s.member m).committed t u q)) (λ k q. inl q) k)
          (λ u. refl) r

  opens : (t c : ℕ) → Guard s (Decide t c) → by_coord (look s.sessions t) c ≡ true
  opens t c (inl p) = ((f.coords c).idle t p.0).begun_there
  opens t c (inr p) = ((f.coords c).collecting t p.0 p.1 p.3).still.begun_there

  act_traced' : (move : Move) → Guard s move → Traced (tr ++ move_trace s move) (effect s move)
  act_traced' (Operate t m o) g = operate t m o g
  act_traced' (MarkAsked t m c n) g = one_member m _ (λ u. refl)
  act_traced' (Cast t m c n) g = one_member m _ (λ u. refl)
  act_traced' (DropActive t m) g = one_member m _ (λ u. refl)
  act_traced' (DropVoted t m) g = one_member m _ (λ u. refl)
  act_traced' (Install t m) g = install t m g
  act_traced' (CommitLocally t m) g = local t m g
  act_traced' (CrashMember m) g = one_member m _ (λ u. ap (λ n. holds n u) (committed_both (rest_of s) m (s.member m) (f.members m)))
  act_traced' (RestartMember m) g = one_member m _ (λ u. refl)
  act_traced' (ArmMember m stop) g = one_member m _ (λ u. refl)
  act_traced' (CloseMemberSpare m closed) g = one_member m _ (λ u. refl)
  act_traced' (FillMemberSpare m) g = one_member m _ (λ u. refl)
  act_traced' (Begin t c) g =
      let z = with_session s t (begun_by (node.Coord c)) in
      alike_traced (tr ++ Began t (node.Coord c) ∷ []) z (effect s (Begin t c))
      (record { homes = λ u by. refl; known = λ u h. h; decided = refl; committed = λ m u. refl; used = λ u. refl }) (begin t (node.Coord c) g)
  act_traced' (BeginLocal t m) g = begin t (node.Member m) g
  act_traced' (Collect t c) g = none_of _ refl refl refl refl
  act_traced' (RecordYes t c m) g = subst (λ o. Traced (tr ++ []) (record_yes s t c m o)) (sym g.2) (none_of _ refl refl refl refl)
  act_traced' (Decide t c) g = decide t c (opens t c g)
  act_traced' (Leave t c) g = none_of _ refl refl refl refl
  act_traced' (RecordAck t c m) g = subst (λ o. Traced (tr ++ []) (record_ack s t c m o)) (sym g.2) (none_of _ refl refl refl refl)
  act_traced' (End t c) g = none_of _ refl refl refl refl
  act_traced' (CrashCoord c) g = none_of _ refl refl refl refl
  act_traced' (RestartCoord c) g = none_of _ refl refl refl refl
  act_traced' (ArmCoord c stop) g = none_of _ refl refl refl refl
  act_traced' (CloseCoordSpare c closed) g = none_of _ refl refl refl refl
  act_traced' (FillCoordSpare c) g = none_of _ refl refl refl refl
  act_traced' (AskEnd t) g = ask t
  act_traced' (Send note) g = none_of _ refl refl refl refl

pub act_traced : (s : Federation) → Facts s → (tr : List Trace) → Traced tr s → (a : Act) → act_guard s a → Traced (tr ++ act_trace s a) (after_act s a)
act_traced s f tr r (Moves move) g = act_traced' s f tr r move g
act_traced s f tr r Disarms g =
    stays s f tr r (disarmed s) (record { homes = λ t by. refl; known = λ t h. h; decided = refl; committed = λ m t. refl; used = λ t. refl })

pub acts_traced : (acts : List Act) (s : Federation) → Facts s → (tr : List Trace) → Traced tr s → ActsHold acts s → Traced (tr ++ acts_trace acts s) (run_acts acts s)
acts_traced [] s f tr r g = subst (λ k. Traced k s) (sym (no_rest tr)) r
acts_traced (a ∷ acts) s f tr r g =
    subst (λ k. Traced k (run_acts acts (after_act s a))) (more tr (act_trace s a) (acts_trace acts (after_act s a)))
    (acts_traced acts (after_act s a) (act_keeps s f a g.0) (tr ++ act_trace s a) (act_traced s f tr r a g.0) g.1)
