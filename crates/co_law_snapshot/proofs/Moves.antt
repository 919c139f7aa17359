-- Each move keeps the law, and what is kept beside it.
use Rattle.std.proofs.Common.{◌≡◌, ◌≢◌, ◌⊎◌, inl, inr, ℕ, Bool, true, false, ◌||◌, ◌≤◌, ◌==◌, List, [], ◌∷◌, length, Option, None, Some, refl, sym, ap, ◌∙◌, subst, arith}
use Rattle.std.specs.Option.{is_some}
use Rattle.std.proofs.lemmas.Bool.{or_left, or_from, eq-eqb, false_from_ne_true}
use Rattle.co_base.specs.declared.node.Node.TheVariants as node
use Rattle.co_base.specs.declared.op.Op.{Op}
use Rattle.co_record.specs.declared.record.Record.TheVariants as log
use Rattle.co_state.specs.declared.engine_state.Vote.{Vote}
use Rattle.co_state.specs.Changes.{sets_of}
use Rattle.co_state.specs.Effects.{with_operation, install_vote}
use Rattle.co_state.specs.EngineState.{operations_of}
use Rattle.co_state.specs.Keys.{reads_meet, writes_meet}
use Rattle.co_state.specs.ReadRule.{operation_reply}
use Rattle.co_state.specs.Table.{look, put, holds}
use Rattle.co_plain.specs.declared.coord_state.Entry.{Entry}
use Rattle.co_plain.specs.declared.coord_state.Entry.TheVariants as entry
use Rattle.co_plain.specs.declared.member_state.MemberState.{MemberState}
use Rattle.co_plain.specs.declared.session.Decided.{Decided}
use Rattle.co_plain.specs.declared.session.Session.{Session}
use Rattle.co_plain.specs.declared.session.Told.{Told}
use Rattle.co_plain.specs.CoordView.{has_commit_of}
use Rattle.co_plain.specs.Decisions.{is_decided, is_asked, told_of, votes_for}
use Rattle.co_plain.specs.Federation.{Federation, with_member, with_session}
use Rattle.co_plain.specs.Invariants.{Side, Memory, Stable, view, stands, told_changes}
use Rattle.co_plain.specs.LogWrite.{with_batch, with_filled_spare, with_spare, with_stop, with_waiting, generation_of}
use Rattle.co_plain.specs.Member.{with_mark}
use Rattle.co_plain.specs.MemberLog.{member_spare}
use Rattle.co_plain.specs.MemberStep.{with_log, with_engine, dropped, member_down}
use Rattle.co_plain.specs.MemberView.{with_number, cast_in, install_in}
use Rattle.co_plain.specs.Numbers.{next_generation}
use Rattle.co_plain.specs.Sessions.{count_at, told_at, with_told, asked_to_end, begun_by}
use Rattle.co_plain.specs.Moves.{Move, Operate, MarkAsked, Cast, DropActive, DropVoted, Install as InstallVote, CommitLocally, CrashMember, RestartMember, ArmMember, CloseMemberSpare, FillMemberSpare, Begin, Collect, RecordYes, Decide, Leave, RecordAck, End, CrashCoord, RestartCoord, ArmCoord, CloseCoordSpare, FillCoordSpare, BeginLocal, AskEnd, Send, Guard, effect, cast_state, entered_reply, marked_over, may_operate_at, record_yes, record_ack, entry_at, restarted}
use Rattle.co_law_base.proofs.AtCoord.{keeps_decide}
use Rattle.co_law_base.proofs.Carrying.{settled_from, settled_home}
use Rattle.co_law_base.proofs.Facts.{rest_of, ActiveFacts, Facts}
use Rattle.co_law_base.proofs.Filling.{spare_tells}
use Rattle.co_law_base.proofs.KeptTold.{count_told}
use Rattle.co_law_base.proofs.Locally.{may_commit_locally}
use Rattle.co_law_base.proofs.Lookups.{holds_found}
use Rattle.co_law_base.proofs.TwoViews.{both_sides}
use Rattle.co_law_base.proofs.ViewMoves.{each_map, each_both, holds_put}
use Rattle.co_law_base.proofs.ViewRules.{three_parts}
use Rattle.co_law_base.proofs.VoteMoves.{MayCast, may_cast, active_found, asked_unsettled, as_settled}
use Rattle.co_law_runs.proofs.Working.{Working}
use Rattle.co_law_snapshot.specs.Snapshot.{SnapshotFacts, SnapshotInvariants}
use Rattle.co_law_snapshot.proofs.Laying.{changed_at}
use Rattle.co_law_snapshot.proofs.Steady.{at_member, still, same_all, not_opened, nowhere, open_vote}
use Rattle.co_law_snapshot.proofs.Alone.{local}
use Rattle.co_law_snapshot.proofs.Views.{settled_by, forget, cast as cast_view, decide as decide_view, CameToVote, InRun, InOpenedLog, install as install_view}

module _ (s : Federation) (f : Facts s) (i : SnapshotInvariants s) where
  operate : (t m : ℕ) (o : Op) → may_operate_at (look s.sessions t) m → SnapshotInvariants (effect s (Operate t m o))
  operate t m o g = by (look s.sessions t) refl g
    where
      x : MemberState
      x = with_engine (s.member m) (with_operation (s.member m).engine t o)

      by : (p : Option Session) → look s.sessions t ≡ p → may_operate_at p m → SnapshotInvariants (effect s (Operate t m o))
      by None e h = absurd h
      by (Some session) e h = subst (λ p. SnapshotInvariants (with_member (entered_reply s t m o p) m x)) (sym e) (at_member z told m x alike)
        where
          session' : Session
          session' = with_told session (record { site = record { member = m; op = o }; reply = operation_reply (s.member m).engine t o })

          z : Federation
          z = with_session s t session'

          told : SnapshotInvariants z
          told = still s z (record { members = refl; coords = refl; begun = λ u k. holds_put s.sessions t session' u k }) refl refl i

          alike : (side : Side) → SnapshotFacts z m (view side x)
          alike Memory = told.views m Memory
          alike Stable = told.views m Stable

  cast : (t m c n : ℕ) → MayCast s t m c n → SnapshotInvariants (effect s (Cast t m c n))
  cast t m c n g =
      at_member s i m (cast_state (s.member m) t c n)
      (both_sides (SnapshotFacts s m) (cast_state (s.member m) t c n) (ap (λ v. cast_in v t vote) (f.members m).logged)
      (cast_view s m (view Memory (s.member m)) (i.views m Memory) t vote active.begun open'))
    where
      vote : Vote
      vote = record { coord = c; count = n; sets = sets_of (operations_of (s.member m).engine t) }

      active : ActiveFacts (rest_of s) m (s.member m) t (operations_of (s.member m).engine t)
      active = (f.members m).active t (operations_of (s.member m).engine t) (active_found (s.member m).engine t (subst (λ k. 1 ≤ k) (sym g.1.count) (f.sent.prepares_count t c m n g.0).1))

      open' : settled_by s.opened_coord s.decided t vote ≡ false
      open' = false_from_ne_true (settled_by s.opened_coord s.decided t vote) (λ h. asked_unsettled s f t c m n g.0 active.apart (settled_from (rest_of s) t c h))

  drop : (t m : ℕ) (x : MemberState) → view Memory x ≡ view Memory (dropped (s.member m) t) → view Stable x ≡ view Stable (s.member m) → SnapshotInvariants (with_member s m x)
  drop t m x memory stable = at_member s i m x by
    where
      by : (side : Side) → SnapshotFacts s m (view side x)
      by Memory = subst (SnapshotFacts s m) (sym memory) (forget s m (view Memory (s.member m)) (i.views m Memory) t)
      by Stable = subst (SnapshotFacts s m) (sym stable) (i.views m Stable)

  alike : (m : ℕ) (x : MemberState) → view Memory x ≡ view Memory (s.member m) → view Stable x ≡ view Stable (s.member m) → SnapshotInvariants (with_member s m x)
  alike m x memory stable = at_member s i m x by
    where
      by : (side : Side) → SnapshotFacts s m (view side x)
      by Memory = subst (SnapshotFacts s m) (sym memory) (i.views m Memory)
      by Stable = subst (SnapshotFacts s m) (sym stable) (i.views m Stable)

  fill : (m : ℕ) → SnapshotInvariants (effect s (FillMemberSpare m))
  fill m =
      at_member s i m y (both_sides (SnapshotFacts s m) y (spare_tells m (s.member m) generation) (i.views m Memory))
    where
      generation : ℕ
      generation = next_generation (generation_of (s.member m).log.stable)

      y : MemberState
      y = with_log (s.member m) (with_filled_spare (s.member m).log (member_spare m (s.member m) generation))

  install : Working s → (t m : ℕ) → Guard s (InstallVote t m) → SnapshotInvariants (effect s (InstallVote t m))
  install w t m g =
      let found = holds_found (s.member m).engine.voted t g.0 in
      subst (λ o. SnapshotInvariants (with_member s m (after o))) (sym found.1)
      (at_member s i m (after (Some found.0)) (both_sides (SnapshotFacts s m) (after (Some found.0)) (same found.0 found.1)
      (install_view s m (view Memory (s.member m)) (i.views m Memory) t found.0 found.1 new f.numbers.once (i.opened_free m) (came found.0 found.1))))
    where
      after : Option Vote → MemberState
      after o =
          record {
            up = (s.member m).up;
            engine = install_vote (s.member m).engine t o;
            committed = with_number (s.member m).committed t;
            asked = (s.member m).asked;
            log = with_batch (s.member m).log (log.Commit t [] ∷ []);
          }

      same : (vote : Vote) → look (s.member m).engine.voted t ≡ Some vote → view Stable (after (Some vote)) ≡ view Memory (after (Some vote))
      same vote here = ap (λ v. install_in v t (look v.voted t)) (f.members m).logged ∙ ap (install_in (view Memory (s.member m)) t) here

      new : holds (s.member m).committed t ≡ false
      new = false_from_ne_true (holds (s.member m).committed t) (λ h. let z : true ≡ false = sym g.0 ∙ ((f.members m).views Memory).apart t h in cc)

      own : (vote : Vote) → look (s.member m).engine.voted t ≡ Some vote → holds s.sessions t ≡ true → (d : Decided) →
          ((d.told ≡ []) ⊎ ((told_of s d.txn ≡ d.told) × (is_asked s d.txn ≡ true))) × ((k : ℕ) → stands (view Memory (s.member k)) d.txn ≡ true → 1 ≤ count_at d.told k) →
          t ≡ d.txn → changed_at m d ≡ vote.sets.writes
      own vote here begun d p e = by p.0
        where
          told : 1 ≤ count_at d.told m
          told = p.1 m (or_left (holds (s.member m).engine.voted d.txn) (holds (s.member m).committed d.txn) (ap (holds (s.member m).engine.voted) (sym e) ∙ g.0))

          by : (d.told ≡ []) ⊎ ((told_of s d.txn ≡ d.told) × (is_asked s d.txn ≡ true)) → changed_at m d ≡ vote.sets.writes
          by (inl q) = absurd (let l : 1 ≤ 0 = subst (λ ts. 1 ≤ count_at ts m) q told in omega (arith, l))
          by (inr q) =
              ap (λ ts. told_changes (told_at ts m)) (sym q.0)
              ∙ ap (λ k. told_changes (told_at (told_of s k) m)) (sym e)
              ∙ sym (((f.members m).views Memory).replay t vote begun here).writes

      came : (vote : Vote) → look (s.member m).engine.voted t ≡ Some vote → CameToVote s m t vote
      came vote here = by (is_decided s.decided t) refl
        where
          by : (b : Bool) → is_decided s.decided t ≡ b → CameToVote s m t vote
          by true e =
              let begun = f.numbers.decided_begun t e in
              InRun e
              (each_map _ (λ d. t ≡ d.txn → changed_at m d ≡ vote.sets.writes) s.decided (own vote here begun)
              (each_both (λ d. (d.told ≡ []) ⊎ ((told_of s d.txn ≡ d.told) × (is_asked s d.txn ≡ true)))
              (λ d. (k : ℕ) → stands (view Memory (s.member k)) d.txn ≡ true → 1 ≤ count_at d.told k) s.decided f.numbers.kept w.works))
              (not_opened s f.numbers t m begun)
          by false e =
              let mine = ((f.members m).views Memory).named t vote.coord (ap (λ o. votes_for o vote.coord) here ∙ eq-eqb vote.coord vote.coord refl) in
              let committed : has_commit_of (s.opened_coord vote.coord) t ≡ true =
              sym (ap (λ b. b || has_commit_of (s.opened_coord vote.coord) t) e) ∙ settled_home (rest_of s) f.numbers t vote.coord mine (as_settled s t g.1) in
              let unbegun : holds s.sessions t ≡ false =
              false_from_ne_true (holds s.sessions t) (λ b. let z : true ≡ false = sym (f.numbers.commit_used vote.coord t committed) ∙ f.numbers.new t b in cc) in
              InOpenedLog e ((i.views m Memory).opened_votes t vote unbegun here) committed

  decide : (t c : ℕ) → Guard s (Decide t c) → SnapshotInvariants (effect s (Decide t c))
  decide t c g =
      record {
        views = λ m side.
            decide_view s m (view side (s.member m)) (i.views m side) (effect s (Decide t c)) (same_all s (effect s (Decide t c)) refl refl refl)
            (record { txn = t; told = told_of s t }) refl (nowhere s f t begun undecided m side) (leaves m side);
        opened_free = i.opened_free;
      }
    where
      later : Facts (effect s (Decide t c))
      later = keeps_decide s f t c g

      undecided : is_decided s.decided t ≡ false
      undecided = later.numbers.once.0

      begun : holds s.sessions t ≡ true
      begun = later.numbers.decided_begun t (or_left (t == t) (is_decided s.decided t) (eq-eqb t t refl))

      leaves : (m : ℕ) (side : Side) (u : ℕ) (a : Vote) → look (view side (s.member m)).voted u ≡ Some a → settled_by s.opened_coord s.decided u a ≡ true →
          writes_meet a.sets.writes (told_changes (told_at (told_of s t) m)) ≡ false
      leaves m side u a h k = by (look (view side (s.member m)).voted t) refl
        where
          other : u ≢ t
          other e = let z : true ≡ false = sym k ∙ ap (λ n. settled_by s.opened_coord s.decided n a) e ∙ open_vote s f t begun undecided a in cc

          none : look (view side (s.member m)).voted t ≡ None → (ts : List Told) → told_at (told_of s t) m ≡ ts → told_at (told_of s t) m ≡ []
          none e [] q = q
          none e (x ∷ xs) q =
              let l : 1 ≤ count_at (told_of s t) m = subst (λ n. 1 ≤ n) (sym (count_told (told_of s t) m ∙ ap length q)) (omega arith) in
              absurd (let z : true ≡ false = sym (((later.members m).views side).done.0 l) ∙ or_from _ _ (ap is_some e) (nowhere s f t begun undecided m side) in cc)

          by : (o : Option Vote) → look (view side (s.member m)).voted t ≡ o → writes_meet a.sets.writes (told_changes (told_at (told_of s t) m)) ≡ false
          by None e = ap (λ ts. writes_meet a.sets.writes (told_changes ts)) (none e (told_at (told_of s t) m) refl)
          by (Some vote) e =
              ap (writes_meet a.sets.writes) (sym (((f.members m).views side).replay t vote begun e).writes)
              ∙ (three_parts (reads_meet a.sets.reads vote.sets.writes) (reads_meet vote.sets.reads a.sets.writes) (writes_meet a.sets.writes vote.sets.writes)
              (((f.members m).views side).free u t a vote other h e)).2

  none_changed : (z : Federation) → z.opened_member ≡ s.opened_member → z.opened_coord ≡ s.opened_coord → z.sessions ≡ s.sessions → z.decided ≡ s.decided → z.member ≡ s.member → SnapshotInvariants z
  none_changed z m c k d e = still s z (same_all s z m c k) d e i

  begins : (z : Federation) → z.opened_member ≡ s.opened_member → z.opened_coord ≡ s.opened_coord → (t : ℕ) (session : Session) → z.sessions ≡ put s.sessions t session →
      z.decided ≡ s.decided → z.member ≡ s.member → SnapshotInvariants z
  begins z m c t session k d e = still s z (record { members = m; coords = c; begun = λ u h. ap (λ table. holds table u) k ∙ holds_put s.sessions t session u h }) d e i

  asks : (t : ℕ) → SnapshotInvariants (effect s (AskEnd t))
  asks t = by (look s.sessions t)
    where
      by : (o : Option Session) → SnapshotInvariants (marked_over s t o)
      by None = i
      by (Some session) = begins (marked_over s t (Some session)) refl refl t (asked_to_end session) refl refl refl

  counts_yes : (t c m : ℕ) → SnapshotInvariants (effect s (RecordYes t c m))
  counts_yes t c m = by (entry_at s t c)
    where
      by : (o : Option Entry) → SnapshotInvariants (record_yes s t c m o)
      by None = i
      by (Some entry.Idle) = i
      by (Some (entry.Collecting parts yeses)) = none_changed (record_yes s t c m (Some (entry.Collecting parts yeses))) refl refl refl refl refl
      by (Some (entry.Committed members acks)) = i

  counts_ack : (t c m : ℕ) → SnapshotInvariants (effect s (RecordAck t c m))
  counts_ack t c m = by (entry_at s t c)
    where
      by : (o : Option Entry) → SnapshotInvariants (record_ack s t c m o)
      by None = i
      by (Some entry.Idle) = i
      by (Some (entry.Collecting parts yeses)) = i
      by (Some (entry.Committed members acks)) = none_changed (record_ack s t c m (Some (entry.Committed members acks))) refl refl refl refl refl

  pub move_keeps : Working s → (move : Move) → Guard s move → SnapshotInvariants (effect s move)
  move_keeps w (Operate t m o) g = operate t m o g.0
  move_keeps w (MarkAsked t m c n) g = alike m (with_mark (s.member m) t c n) refl refl
  move_keeps w (Cast t m c n) g = cast t m c n (may_cast s t m c n g)
  move_keeps w (DropActive t m) g = drop t m (dropped (s.member m) t) refl refl
  move_keeps w (DropVoted t m) g = drop t m (with_log (dropped (s.member m) t) (with_waiting (s.member m).log (log.Abort t))) refl refl
  move_keeps w (InstallVote t m) g = install w t m g
  move_keeps w (CommitLocally t m) g = local s f i t m (may_commit_locally s t m g)
  move_keeps w (CrashMember m) g = at_member s i m (member_down (s.member m) (s.member m).log) (both_sides (SnapshotFacts s m) (member_down (s.member m) (s.member m).log) refl (i.views m Stable))
  move_keeps w (RestartMember m) g = alike m (restarted (s.member m)) refl refl
  move_keeps w (ArmMember m stop) g = alike m (with_log (s.member m) (with_stop (s.member m).log stop)) refl refl
  move_keeps w (CloseMemberSpare m closed) g = alike m (with_log (s.member m) (with_spare (s.member m).log closed)) refl refl
  move_keeps w (FillMemberSpare m) g = fill m
  move_keeps w (Begin t c) g = begins (effect s (Begin t c)) refl refl t (begun_by (node.Coord c)) refl refl refl
  move_keeps w (Collect t c) g = none_changed (effect s (Collect t c)) refl refl refl refl refl
  move_keeps w (RecordYes t c m) g = counts_yes t c m
  move_keeps w (Decide t c) g = decide t c g
  move_keeps w (Leave t c) g = none_changed (effect s (Leave t c)) refl refl refl refl refl
  move_keeps w (RecordAck t c m) g = counts_ack t c m
  move_keeps w (End t c) g = none_changed (effect s (End t c)) refl refl refl refl refl
  move_keeps w (CrashCoord c) g = none_changed (effect s (CrashCoord c)) refl refl refl refl refl
  move_keeps w (RestartCoord c) g = none_changed (effect s (RestartCoord c)) refl refl refl refl refl
  move_keeps w (ArmCoord c stop) g = none_changed (effect s (ArmCoord c stop)) refl refl refl refl refl
  move_keeps w (CloseCoordSpare c closed) g = none_changed (effect s (CloseCoordSpare c closed)) refl refl refl refl refl
  move_keeps w (FillCoordSpare c) g = none_changed (effect s (FillCoordSpare c)) refl refl refl refl refl
  move_keeps w (BeginLocal t m) g = begins (effect s (BeginLocal t m)) refl refl t (begun_by (node.Member m)) refl refl refl
  move_keeps w (AskEnd t) g = asks t
  move_keeps w (Send note) g = none_changed (effect s (Send note)) refl refl refl refl refl
