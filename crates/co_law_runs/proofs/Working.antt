-- Who is active has told operations; who is decided and stands at a member held operations there at its decision.
use Rattle.std.proofs.Common.{◌≡◌, ◌≢◌, ◌⊎◌, inl, inr, ℕ, Bool, true, false, ◌||◌, ◌≤◌, ◌==◌, ◌+◌, if◌then◌else◌, Option, None, Some, refl, sym, ap, ◌∙◌, subst, arith}
use Rattle.std.specs.Option.{is_some}
use Rattle.std.proofs.lemmas.Bool.{or_cases, or_left, or_right, eqb-true, eqb-false, eq-eqb, false_from_ne_true}
use Rattle.co_base.specs.declared.op.Op.{Op}
use Rattle.co_state.specs.declared.engine_state.EngineState.{EngineState}
use Rattle.co_state.specs.declared.engine_state.Vote.{Vote}
use Rattle.co_state.specs.Table.{look, put, without, holds}
use Rattle.co_state.specs.Changes.{sets_of}
use Rattle.co_state.specs.EngineState.{operations_of}
use Rattle.co_state.specs.Effects.{with_operation, after_cast, install_vote}
use Rattle.co_state.specs.ReadRule.{operation_reply}
use Rattle.co_plain.specs.declared.coord_state.Entry.TheVariants as entry
use Rattle.co_plain.specs.declared.member_state.MemberState.{MemberState}
use Rattle.co_plain.specs.declared.session.Session.{Session}
use Rattle.co_plain.specs.Numbers.{counted}
use Rattle.co_plain.specs.MemberView.{with_number}
use Rattle.co_plain.specs.LocalCommit.{local_coord}
use Rattle.co_plain.specs.Member.{coord_of}
use Rattle.co_plain.specs.MemberStep.{with_engine, dropped, member_down}
use Rattle.co_plain.specs.Sessions.{count_at, with_told, asked_to_end}
use Rattle.co_plain.specs.Federation.{Federation, with_member}
use Rattle.co_plain.specs.Step.{disarmed}
use Rattle.co_plain.specs.Decisions.{told_of, told_in, asked_in, is_decided}
use Rattle.co_serial.specs.SerialRun.{with_at}
use Rattle.co_plain.specs.Invariants.{Memory, view, stands}
use Rattle.co_plain.specs.Moves.{Move, Operate, MarkAsked, Cast, DropActive, DropVoted, Install, CommitLocally, CrashMember, RestartMember, ArmMember, CloseMemberSpare, FillMemberSpare, Begin, Collect, RecordYes, Decide, Leave, RecordAck, End, CrashCoord, RestartCoord, ArmCoord, CloseCoordSpare, FillCoordSpare, BeginLocal, AskEnd, Send, Guard, effect, cast_state, install_state, local_state, with_decision, entered_reply, marked_over, session_by_member, may_operate_at, record_yes, record_ack}
use Rattle.co_law_base.proofs.Lookups.{put_here, look_none, holds_found, found_holds}
use Rattle.co_law_base.proofs.Commits.{holds_cases, unended_seen}
use Rattle.co_law_base.proofs.ViewMoves.{each_map, each_both, each_decided}
use Rattle.co_law_base.proofs.Facts.{rest_of, Begun, takes, ByTold, Named, OpenEntry, Here, Each, Facts}
use Rattle.co_law_base.proofs.Carrying.{LivesOn, at_each, one_belongs, by_coord_begun, settled_alive}
use Rattle.co_law_base.proofs.TwoViews.{stable_to_memory}
use Rattle.co_law_base.proofs.LogMoves.{local_apart}
use Rattle.co_law_base.proofs.VoteMoves.{MayCast, may_cast, active_found, asked_unsettled}
use Rattle.co_law_base.proofs.Locally.{MayCommitLocally, may_commit_locally}
use Rattle.co_law_base.proofs.Asking.{same_reading}
use Rattle.co_law_moves.proofs.Standings.{votes_own}
use Rattle.co_law_moves.proofs.MemberOnward.{cast as cast_onward}
use Rattle.co_law_moves.proofs.MoveOnward.{move_onward}
use Rattle.co_law_moves.proofs.Onward.{Onward, holds_put_off, holds_without_off, back_without}

pub record Working (s : Federation) : Type 0 where
  pub active : (m t : ℕ) → holds (s.member m).engine.active t ≡ true → 1 ≤ count_at (told_of s t) m
  pub works : Each (λ d. (m : ℕ) → stands (view Memory (s.member m)) d.txn ≡ true → 1 ≤ count_at d.told m) s.decided

-- the same decisions, with no more active and standing ones
pub work_on : (s z : Federation) → Onward s z → z.decided ≡ s.decided → ((m t : ℕ) → holds (z.member m).engine.active t ≡ true → (holds (s.member m).engine.active t ≡ true) ⊎ (1 ≤ count_at (told_of z t) m)) →
    ((m t : ℕ) → is_decided s.decided t ≡ true → stands (view Memory (z.member m)) t ≡ true → stands (view Memory (s.member m)) t ≡ true) → Working s → Working z
work_on s z o e back stood w =
    record {
      active = λ m t h. now m t (back m t h);
      works = subst (Each (λ d. (m : ℕ) → stands (view Memory (z.member m)) d.txn ≡ true → 1 ≤ count_at d.told m)) (sym e)
          (each_map _ (λ d. (m : ℕ) → stands (view Memory (z.member m)) d.txn ≡ true → 1 ≤ count_at d.told m) s.decided (λ d h m k. h.0 m (stood m d.txn h.1 k))
          (each_both (λ d. (m : ℕ) → stands (view Memory (s.member m)) d.txn ≡ true → 1 ≤ count_at d.told m) (λ d. is_decided s.decided d.txn ≡ true) s.decided w.works (each_decided s.decided)));
    }
  where
    now : (m t : ℕ) → (holds (s.member m).engine.active t ≡ true) ⊎ (1 ≤ count_at (told_of z t) m) → 1 ≤ count_at (told_of z t) m
    now m t (inr l) = l
    now m t (inl h) = let a = w.active m t h in let c = o.counts t m in omega (arith, a, c)

-- one changed member
at_member : (s : Federation) (m : ℕ) (x : MemberState) → Onward s (with_member s m x) → ((t : ℕ) → holds x.engine.active t ≡ true → holds (s.member m).engine.active t ≡ true) →
    ((t : ℕ) → is_decided s.decided t ≡ true → stands (view Memory x) t ≡ true → stands (view Memory (s.member m)) t ≡ true) → Working s → Working (with_member s m x)
at_member s m x o back stood =
    work_on s (with_member s m x) o refl
    (λ k t h. inl (at_each (λ k y. holds y.engine.active t ≡ true → holds (s.member k).engine.active t ≡ true) s.member m x (back t) (λ k h. h) k h))
    (λ k t d h. at_each (λ k y. stands (view Memory y) t ≡ true → stands (view Memory (s.member k)) t ≡ true) s.member m x (stood t d) (λ k h. h) k h)

-- no changed member
still : (s z : Federation) → Onward s z → z.decided ≡ s.decided → z.member ≡ s.member → Working s → Working z
still s z o e k =
    work_on s z o e (λ m t h. inl (ap (λ f. holds (f m).engine.active t) (sym k) ∙ h)) (λ m t d h. ap (λ f. stands (view Memory (f m)) t) (sym k) ∙ h)

module _ (s : Federation) (f : Facts s) where
  lives : (t : ℕ) → is_decided s.decided t ≡ true → LivesOn (rest_of s) t
  lives t d = λ c b. settled_alive (rest_of s) f.numbers t c b (Here d)

  operate : (t m : ℕ) (o : Op) → Guard s (Operate t m o) → Working s → Working (effect s (Operate t m o))
  operate t m o g w = by (look s.sessions t) refl g.0
    where
      by : (z : Option Session) → look s.sessions t ≡ z → may_operate_at z m → Working (effect s (Operate t m o))
      by None e h = absurd h
      by (Some session) e h =
          work_on s (effect s (Operate t m o)) (move_onward s f (Operate t m o) g) (ap (λ z. (entered_reply s t m o z).decided) e)
          (λ k u. at_each (λ k y. holds y.engine.active u ≡ true → (holds (s.member k).engine.active u ≡ true) ⊎ (1 ≤ count_at (told_of (effect s (Operate t m o)) u) k))
          (entered_reply s t m o (look s.sessions t)).member m (with_engine (s.member m) (with_operation (s.member m).engine t o)) (active u (t == u) refl)
          (λ k h. inl (ap (λ z. holds ((entered_reply s t m o z).member k).engine.active u) (sym e) ∙ h)) k)
          (λ k u d. at_each (λ k y. stands (view Memory y) u ≡ true → stands (view Memory (s.member k)) u ≡ true)
          (entered_reply s t m o (look s.sessions t)).member m (with_engine (s.member m) (with_operation (s.member m).engine t o)) (λ h. h)
          (λ k h. ap (λ z. stands (view Memory ((entered_reply s t m o z).member k)) u) (sym e) ∙ h) k)
          w
        where
          active : (u : ℕ) (b : Bool) → (t == u) ≡ b → holds (with_operation (s.member m).engine t o).active u ≡ true →
              (holds (s.member m).engine.active u ≡ true) ⊎ (1 ≤ count_at (told_of (effect s (Operate t m o)) u) m)
          active u false d h = inl (sym (holds_put_off (s.member m).engine.active t _ u (eqb-false t u d)) ∙ h)
          active u true d h =
              inr (subst (λ j. 1 ≤ count_at (told_of (effect s (Operate t m o)) j) m) (eqb-true t u d)
              (subst (λ z. 1 ≤ count_at (told_of (with_member (entered_reply s t m o z) m (with_engine (s.member m) (with_operation (s.member m).engine t o))) t) m) (sym e)
              (subst (λ z. 1 ≤ count_at (told_in z) m) (sym (put_here s.sessions t (with_told session (record { site = record { member = m; op = o }; reply = operation_reply (s.member m).engine t o }))))
              (subst (λ b. 1 ≤ (if b then count_at session.told m + 1 else count_at session.told m)) (sym (eq-eqb m m refl)) (omega arith)))))

  pub cast : (t m c n : ℕ) → MayCast s t m c n → Working s → Working (effect s (Cast t m c n))
  cast t m c n g =
      at_member s m (cast_state (s.member m) t c n) (cast_onward s f t m c n g)
      (λ u h. back_without (s.member m).engine.active t u h) stood
    where
      p : 1 ≤ n
      p = (f.sent.prepares_count t c m n g.0).1

      apart : stands (view Memory (s.member m)) t ≡ false
      apart = ((f.members m).active t (operations_of (s.member m).engine t) (active_found (s.member m).engine t (subst (λ k. 1 ≤ k) (sym g.1.count) p))).apart

      stood : (u : ℕ) → is_decided s.decided u ≡ true → stands (view Memory (cast_state (s.member m) t c n)) u ≡ true → stands (view Memory (s.member m)) u ≡ true
      stood u d h = by (t == u) refl
        where
          by : (b : Bool) → (t == u) ≡ b → stands (view Memory (s.member m)) u ≡ true
          by true e = absurd (asked_unsettled s f t c m n g.0 apart (Here (ap (is_decided s.decided) (eqb-true t u e) ∙ d)))
          by false e = ap (λ b. b || holds (s.member m).committed u) (sym (holds_put_off (s.member m).engine.voted t _ u (eqb-false t u e))) ∙ h

  -- who is dropped stood
  fewer : (t m : ℕ) (u : ℕ) → (holds (without (s.member m).engine.voted t) u || holds (s.member m).committed u) ≡ true → stands (view Memory (s.member m)) u ≡ true
  fewer t m u h = by (or_cases _ _ h)
    where
      by : (holds (without (s.member m).engine.voted t) u ≡ true) ⊎ (holds (s.member m).committed u ≡ true) → stands (view Memory (s.member m)) u ≡ true
      by (inl k) = or_left _ _ (back_without (s.member m).engine.voted t u k)
      by (inr k) = or_right _ _ k

  install : (t m : ℕ) → Guard s (Install t m) → Working s → Working (effect s (Install t m))
  install t m g =
      at_member s m (install_state (s.member m) t) (move_onward s f (Install t m) g)
      (λ u h. ap (λ o. holds (install_vote (s.member m).engine t o).active u) (sym found.1) ∙ h)
      (λ u d h. stood u (ap (λ o. holds (install_vote (s.member m).engine t o).voted u || holds (with_number (s.member m).committed t) u) (sym found.1) ∙ h))
    where
      found : (vote : Vote) × (look (s.member m).engine.voted t ≡ Some vote)
      found = holds_found (s.member m).engine.voted t g.0

      stood : (u : ℕ) → (holds (without (s.member m).engine.voted t) u || holds (with_number (s.member m).committed t) u) ≡ true → stands (view Memory (s.member m)) u ≡ true
      stood u h = by (or_cases _ _ h)
        where
          now : (t ≡ u) ⊎ (holds (s.member m).committed u ≡ true) → stands (view Memory (s.member m)) u ≡ true
          now (inl e) = or_left _ _ (ap (holds (s.member m).engine.voted) (sym e) ∙ g.0)
          now (inr k) = or_right _ _ k

          by : (holds (without (s.member m).engine.voted t) u ≡ true) ⊎ (holds (with_number (s.member m).committed t) u ≡ true) → stands (view Memory (s.member m)) u ≡ true
          by (inl k) = or_left _ _ (back_without (s.member m).engine.voted t u k)
          by (inr k) = now (holds_cases (s.member m).committed t u k)

  crash : (m : ℕ) → Working s → Working (effect s (CrashMember m))
  crash m =
      at_member s m (member_down (s.member m) (s.member m).log) (move_onward s f (CrashMember m) tt)
      (λ u h. absurd (let z : false ≡ true = ap is_some (sym (look_none u)) ∙ h in cc))
      (λ u d h. stable_to_memory (rest_of s) m (s.member m) (f.members m) u (lives u d) h)

  -- who stands while it is open at its coordinator held operations
  open_works : (t c : ℕ) → OpenEntry (rest_of s) c (s.coord c).log.stable t → holds (s.coord c).table t ≡ true → (m : ℕ) → stands (view Memory (s.member m)) t ≡ true → 1 ≤ count_at (told_of s t) m
  open_works t c o here m h = by (or_cases _ _ h)
    where
      begun : holds s.sessions t ≡ true
      begun = by_coord_begun (look s.sessions t) c o.begun_there

      told : takes (rest_of s) t m → 1 ≤ count_at (told_of s t) m
      told (ByTold k) = k
      told (Named d members k n) = absurd (let z : true ≡ false = sym (f.numbers.commit_used d t (unended_seen (s.opened_coord d) t members k)) ∙ f.numbers.new t begun in cc)

      by : (holds (s.member m).engine.voted t ≡ true) ⊎ (holds (s.member m).committed t ≡ true) → 1 ≤ count_at (told_of s t) m
      by (inr k) = absurd (let z : true ≡ false = sym (((f.members m).views Memory).known t k begun) ∙ o.undecided in cc)
      by (inl k) =
          let d = coord_of (s.member m) t in
          let v = votes_own s m t k in
          let home : c ≡ d = one_belongs (rest_of s) f.numbers t c d (Begun o.begun_there) (((f.members m).views Memory).named t d v) in
          told (((f.members m).views Memory).works t d v (or_left _ _ (subst (λ e. holds (s.coord e).table t ≡ true) home here)))

  decide : (t c : ℕ) → Guard s (Decide t c) → Working s → Working (effect s (Decide t c))
  decide t c g w = record { active = w.active; works = (open_works t c (there g).0 (there g).1, w.works) }
    where
      there : Guard s (Decide t c) → OpenEntry (rest_of s) c (s.coord c).log.stable t × (holds (s.coord c).table t ≡ true)
      there (inl p) = ((f.coords c).idle t p.0, found_holds (s.coord c).table t entry.Idle p.0)
      there (inr p) = (((f.coords c).collecting t p.0 p.1 p.3).still, found_holds (s.coord c).table t (entry.Collecting p.0 p.1) p.3)

  pub local : (t m : ℕ) → MayCommitLocally s t m → Working s → Working (effect s (CommitLocally t m))
  local t m g w = by (look s.sessions t) refl g.0
    where
      by : (z : Option Session) → look s.sessions t ≡ z → session_by_member z m → Working (effect s (CommitLocally t m))
      by None e h = absurd h
      by (Some session) e h =
          subst (λ z. Working (with_decision (with_member (marked_over s t z) m (local_state (s.member m) t (count_at (told_of s t) m))) t)) (sym e)
          (record { active = active; works = (mine, others) })
        where
          vote : Vote
          vote = record { coord = local_coord; count = counted (count_at (told_of s t) m); sets = sets_of (operations_of (s.member m).engine t) }

          b' : EngineState
          b' = after_cast (s.member m).engine t local_coord (counted (count_at (told_of s t) m))

          undecided : is_decided s.decided t ≡ false
          undecided = false_from_ne_true _ (λ d. let z : true ≡ false = sym (f.numbers.local_asked t m session e h d) ∙ ap asked_in (sym e) ∙ g.1 in cc)

          same_told : (u : ℕ) (k : ℕ) → count_at (told_in (look (put s.sessions t (asked_to_end session)) u)) k ≡ count_at (told_of s u) k
          same_told u k = same_reading (λ o. count_at (told_in o) k) s.sessions t session (asked_to_end session) e refl u

          active : (k u : ℕ) → holds (with_at s.member m (local_state (s.member m) t (count_at (told_of s t) m)) k).engine.active u ≡ true → 1 ≤ count_at (told_in (look (put s.sessions t (asked_to_end session)) u)) k
          active k u q =
              subst (λ n. 1 ≤ n) (sym (same_told u k))
              (w.active k u (at_each (λ k y. holds y.engine.active u ≡ true → holds (s.member k).engine.active u ≡ true) s.member m (local_state (s.member m) t (count_at (told_of s t) m))
              (λ r. back_without (s.member m).engine.active t u (ap (λ o. holds (install_vote b' t o).active u) (sym (put_here (s.member m).engine.voted t vote)) ∙ r)) (λ k r. r) k q))

          standing : (u : ℕ) → t ≢ u → (holds (without (put (s.member m).engine.voted t vote) t) u || holds (with_number (s.member m).committed t) u) ≡ true → stands (view Memory (s.member m)) u ≡ true
          standing u n q =
              (λ i. sym (holds_without_off (put (s.member m).engine.voted t vote) t u n ∙ holds_put_off (s.member m).engine.voted t vote u n) i || sym (holds_put_off (s.member m).committed t tt u n) i) ∙ q

          stood : (k u : ℕ) → t ≢ u → stands (view Memory (with_at s.member m (local_state (s.member m) t (count_at (told_of s t) m)) k)) u ≡ true → stands (view Memory (s.member k)) u ≡ true
          stood k u n q =
              at_each (λ k y. stands (view Memory y) u ≡ true → stands (view Memory (s.member k)) u ≡ true) s.member m (local_state (s.member m) t (count_at (told_of s t) m))
              (λ r. standing u n (ap (λ o. holds (install_vote b' t o).voted u || holds (with_number (s.member m).committed t) u) (sym (put_here (s.member m).engine.voted t vote)) ∙ r)) (λ k r. r) k q

          others : Each (λ d. (k : ℕ) → stands (view Memory (with_at s.member m (local_state (s.member m) t (count_at (told_of s t) m)) k)) d.txn ≡ true → 1 ≤ count_at d.told k) s.decided
          others =
              each_map _ (λ d. (k : ℕ) → stands (view Memory (with_at s.member m (local_state (s.member m) t (count_at (told_of s t) m)) k)) d.txn ≡ true → 1 ≤ count_at d.told k) s.decided
              (λ d p k q. p.0 k (stood k d.txn (λ r. let z : true ≡ false = sym p.1 ∙ ap (is_decided s.decided) (sym r) ∙ undecided in cc) q))
              (each_both (λ d. (k : ℕ) → stands (view Memory (s.member k)) d.txn ≡ true → 1 ≤ count_at d.told k) (λ d. is_decided s.decided d.txn ≡ true) s.decided w.works (each_decided s.decided))

          nowhere_else : (k : ℕ) → stands (view Memory (s.member k)) t ≡ true → ⊥
          nowhere_else k q = now (or_cases _ _ q)
            where
              now : (holds (s.member k).engine.voted t ≡ true) ⊎ (holds (s.member k).committed t ≡ true) → ⊥
              now (inl r) = local_apart s f.numbers t (coord_of (s.member k) t) m session (((f.members k).views Memory).named t (coord_of (s.member k) t) (votes_own s k t r)) e h
              now (inr r) = let z : true ≡ false = sym (((f.members k).views Memory).known t r (found_holds s.sessions t session e)) ∙ undecided in cc

          mine : (k : ℕ) → stands (view Memory (with_at s.member m (local_state (s.member m) t (count_at (told_of s t) m)) k)) t ≡ true → 1 ≤ count_at (told_in (look (put s.sessions t (asked_to_end session)) t)) k
          mine k q =
              subst (λ n. 1 ≤ n) (sym (same_told t k))
              (at_each (λ k y. stands (view Memory y) t ≡ true → 1 ≤ count_at (told_of s t) k) s.member m (local_state (s.member m) t (count_at (told_of s t) m)) (λ r. g.2) (λ k r. absurd (nowhere_else k r)) k q)

  pub move_works : (move : Move) → Guard s move → Working s → Working (effect s move)
  move_works (Operate t m o) g = operate t m o g
  move_works (MarkAsked t m c n) g = at_member s m _ (move_onward s f (MarkAsked t m c n) g) (λ u h. h) (λ u d h. h)
  move_works (Cast t m c n) g = cast t m c n (may_cast s t m c n g)
  move_works (DropActive t m) g = at_member s m (dropped (s.member m) t) (move_onward s f (DropActive t m) g) (λ u h. back_without (s.member m).engine.active t u h) (λ u d h. fewer t m u h)
  move_works (DropVoted t m) g = at_member s m _ (move_onward s f (DropVoted t m) g) (λ u h. back_without (s.member m).engine.active t u h) (λ u d h. fewer t m u h)
  move_works (Install t m) g = install t m g
  move_works (CommitLocally t m) g = local t m (may_commit_locally s t m g)
  move_works (CrashMember m) g = crash m
  move_works (RestartMember m) g = at_member s m _ (move_onward s f (RestartMember m) g) (λ u h. h) (λ u d h. h)
  move_works (ArmMember m stop) g = at_member s m _ (move_onward s f (ArmMember m stop) g) (λ u h. h) (λ u d h. h)
  move_works (CloseMemberSpare m closed) g = at_member s m _ (move_onward s f (CloseMemberSpare m closed) g) (λ u h. h) (λ u d h. h)
  move_works (FillMemberSpare m) g = at_member s m _ (move_onward s f (FillMemberSpare m) g) (λ u h. h) (λ u d h. h)
  move_works (Decide t c) g = decide t c g
  move_works (Begin t c) g = still s _ (move_onward s f (Begin t c) g) refl refl
  move_works (Collect t c) g = still s _ (move_onward s f (Collect t c) g) refl refl
  move_works (RecordYes t c m) g = still s _ (move_onward s f (RecordYes t c m) g) (ap (λ o. (record_yes s t c m o).decided) g.2) (ap (λ o. (record_yes s t c m o).member) g.2)
  move_works (Leave t c) g = still s _ (move_onward s f (Leave t c) g) refl refl
  move_works (RecordAck t c m) g = still s _ (move_onward s f (RecordAck t c m) g) (ap (λ o. (record_ack s t c m o).decided) g.2) (ap (λ o. (record_ack s t c m o).member) g.2)
  move_works (End t c) g = still s _ (move_onward s f (End t c) g) refl refl
  move_works (CrashCoord c) g = still s _ (move_onward s f (CrashCoord c) g) refl refl
  move_works (RestartCoord c) g = still s _ (move_onward s f (RestartCoord c) g) refl refl
  move_works (ArmCoord c stop) g = still s _ (move_onward s f (ArmCoord c stop) g) refl refl
  move_works (CloseCoordSpare c closed) g = still s _ (move_onward s f (CloseCoordSpare c closed) g) refl refl
  move_works (FillCoordSpare c) g = still s _ (move_onward s f (FillCoordSpare c) g) refl refl
  move_works (BeginLocal t m) g = still s _ (move_onward s f (BeginLocal t m) g) refl refl
  move_works (AskEnd t) g = by (look s.sessions t) refl
    where
      by : (o : Option Session) → look s.sessions t ≡ o → Working s → Working (effect s (AskEnd t))
      by None e = still s (effect s (AskEnd t)) (move_onward s f (AskEnd t) g) (ap (λ o. (marked_over s t o).decided) e) (ap (λ o. (marked_over s t o).member) e)
      by (Some session) e = still s (effect s (AskEnd t)) (move_onward s f (AskEnd t) g) (ap (λ o. (marked_over s t o).decided) e) (ap (λ o. (marked_over s t o).member) e)
  move_works (Send note) g = still s _ (move_onward s f (Send note) g) refl refl

pub disarm_works : (s : Federation) → Working s → Working (disarmed s)
disarm_works s w = record { active = w.active; works = w.works }
