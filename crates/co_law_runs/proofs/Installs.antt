-- The installs of a member since its last crash are those of committed transactions, with what their clients were
-- told to have written.
use Rattle.std.proofs.Common.{◌≡◌, ◌⊎◌, inl, inr, ℕ, true, false, ◌≤◌, List, [], ◌∷◌, Option, None, Some, refl, sym, ap, ◌∙◌, subst}
use Rattle.std.specs.Option.{is_some}
use Rattle.std.proofs.lemmas.Bool.{or_cases, or_left, or_right}
use Rattle.co_state.specs.declared.engine_state.EngineState.{EngineState}
use Rattle.co_state.specs.declared.engine_state.Install.{Install as Installed}
use Rattle.co_state.specs.declared.engine_state.Operation.{Operation}
use Rattle.co_state.specs.declared.engine_state.Vote.{Vote}
use Rattle.co_state.specs.Table.{look, holds}
use Rattle.co_state.specs.Changes.{change_made, with_written, changes_of, sets_of}
use Rattle.co_state.specs.EngineState.{operations_of}
use Rattle.co_state.specs.Effects.{with_operation, after_cast, after_install, install_vote}
use Rattle.co_plain.specs.declared.member_state.MemberState.{MemberState}
use Rattle.co_plain.specs.declared.session.Session.{Session}
use Rattle.co_plain.specs.declared.session.Told.{Told}
use Rattle.co_plain.specs.Numbers.{counted}
use Rattle.co_plain.specs.LocalCommit.{local_coord}
use Rattle.co_plain.specs.Sessions.{told_at, count_at, asked_to_end}
use Rattle.co_plain.specs.Federation.{Federation, with_member}
use Rattle.co_plain.specs.Step.{disarmed}
use Rattle.co_plain.specs.Decisions.{told_of, told_in, asked_in}
use Rattle.co_serial.specs.SerialRun.{with_at}
use Rattle.co_plain.specs.MemberStep.{with_engine}
use Rattle.co_plain.specs.Invariants.{Memory, told_changes, KeptAsTold}
use Rattle.co_plain.specs.Moves.{Move, Operate, MarkAsked, Cast, DropActive, DropVoted, Install, CommitLocally, CrashMember, RestartMember, ArmMember, CloseMemberSpare, FillMemberSpare, Begin, Collect, RecordYes, Decide, Leave, RecordAck, End, CrashCoord, RestartCoord, ArmCoord, CloseCoordSpare, FillCoordSpare, BeginLocal, AskEnd, Send, Guard, effect, entered_reply, marked_over, record_yes, record_ack, install_state, local_state, session_by_member}
use Rattle.co_law_engine.proofs.YesTells.{yes_parts}
use Rattle.co_law_base.proofs.Lookups.{put_here, holds_found}
use Rattle.co_law_base.proofs.Commits.{holds_more, holds_new}
use Rattle.co_law_base.proofs.ViewMoves.{each_map}
use Rattle.co_law_base.proofs.Facts.{rest_of, over, begun, asked, Each, Facts}
use Rattle.co_law_base.proofs.Carrying.{at_each}
use Rattle.co_law_base.proofs.VoteMoves.{active_found}
use Rattle.co_law_runs.proofs.Acts.{Act, Moves, Disarms, after_act, act_guard}
use Rattle.co_law_runs.proofs.ToldOn.{ToldOn, act_told}

abbrev pub InstallTold : Federation → ℕ → MemberState → Installed → Type 0
InstallTold s m x i = (holds x.committed i.txn ≡ true) × (holds s.used i.txn ≡ false → i.writes ≡ told_changes (told_at (told_of s i.txn) m))

abbrev pub InstallsTold : Federation → Type 0
InstallsTold s = (m : ℕ) → Each (InstallTold s m (s.member m)) (s.member m).engine.installed

pub kept_changes : (b : EngineState) (os : List Operation) (told : List Told) → KeptAsTold b os told → changes_of os ≡ told_changes told
kept_changes b [] [] k = refl
kept_changes b [] (t ∷ ts) k = absurd k
kept_changes b (o ∷ os) [] k = absurd k
kept_changes b (o ∷ os) (t ∷ ts) k = let rest = kept_changes b os ts k.2 in λ i. with_written (change_made (k.0 i)) (rest i)

-- who is over and not in an opened log was begun
pub over_begun : (s : Federation) (t : ℕ) → over (rest_of s) t ≡ true → holds s.used t ≡ false → begun (rest_of s) t ≡ true
over_begun s t h u = by (or_cases (asked (rest_of s) t) (holds s.used t) h)
  where
    some : (o : Option Session) → asked_in o ≡ true → is_some o ≡ true
    some None k = k
    some (Some session) k = refl

    by : (asked (rest_of s) t ≡ true) ⊎ (holds s.used t ≡ true) → begun (rest_of s) t ≡ true
    by (inl a) = some (look s.sessions t) a
    by (inr k) = absurd (let z : true ≡ false = sym k ∙ u in cc)

-- a local transaction that is committed keeps what it told
pub local_told : (s : Federation) → Facts s → (t m : ℕ) → Guard s (CommitLocally t m) → told_of (effect s (CommitLocally t m)) t ≡ told_of s t
local_told s f t m g = by (look s.sessions t) refl
  where
    by : (o : Option Session) → look s.sessions t ≡ o → told_of (effect s (CommitLocally t m)) t ≡ told_of s t
    by None e = ap (λ o. told_of (marked_over s t o) t) e
    by (Some session) e = ap (λ o. told_of (marked_over s t o) t) e ∙ ap told_in (put_here s.sessions t (asked_to_end session)) ∙ ap told_in (sym e)

module _ (s : Federation) (f : Facts s) where
  -- one that goes over
  over_to : (z : Federation) → ToldOn s z → (m : ℕ) (x : MemberState) → ((u : ℕ) → holds (s.member m).committed u ≡ true → holds x.committed u ≡ true) → (i : Installed) → InstallTold s m (s.member m) i → InstallTold z m x i
  over_to z t m x more i p = (
    more i.txn p.0,
    λ u. p.1 (sym (t.used i.txn) ∙ u) ∙ ap (λ k. told_changes (told_at k m)) (sym (t.same i.txn (((f.members m).views Memory).over i.txn (or_right _ _ p.0)))),
  )

  alike : (z : Federation) → ToldOn s z → ((m : ℕ) → (z.member m).engine.installed ≡ (s.member m).engine.installed) → ((m u : ℕ) → holds (s.member m).committed u ≡ true → holds (z.member m).committed u ≡ true) → InstallsTold s → InstallsTold z
  alike z t same more d m =
      subst (Each (InstallTold z m (z.member m))) (sym (same m))
      (each_map (InstallTold s m (s.member m)) (InstallTold z m (z.member m)) (s.member m).engine.installed (over_to z t m (z.member m) (more m)) (d m))

  one : (m : ℕ) (x : MemberState) → ToldOn s (with_member s m x) → Each (InstallTold s m x) x.engine.installed → InstallsTold s → InstallsTold (with_member s m x)
  one m x t here d k = at_each (λ k y. Each (InstallTold s k y) y.engine.installed) s.member m x here d k

  one_alike : (m : ℕ) (x : MemberState) → ToldOn s (with_member s m x) → x.engine.installed ≡ (s.member m).engine.installed → x.committed ≡ (s.member m).committed → InstallsTold s → InstallsTold (with_member s m x)
  one_alike m x t e k d =
      one m x t (subst (λ is. Each (InstallTold s m x) is) (sym e)
      (each_map (InstallTold s m (s.member m)) (InstallTold s m x) (s.member m).engine.installed (λ i p. (ap (λ n. holds n i.txn) k ∙ p.0, p.1)) (d m))) d

  install : (t m : ℕ) → Guard s (Install t m) → InstallsTold s → InstallsTold (effect s (Install t m))
  install t m g d = one m (install_state (s.member m) t) (act_told s f (Moves (Install t m)) g) here d
    where
      found : (vote : Vote) × (look (s.member m).engine.voted t ≡ Some vote)
      found = holds_found (s.member m).engine.voted t g.0

      mine : holds s.used t ≡ false → found.0.sets.writes ≡ told_changes (told_at (told_of s t) m)
      mine u = (((f.members m).views Memory).replay t found.0 (over_begun s t (((f.members m).views Memory).over t (or_left _ _ g.0)) u) found.1).writes

      here : Each (InstallTold s m (install_state (s.member m) t)) (after_install (s.member m).engine t).installed
      here =
          subst (λ o. Each (InstallTold s m (install_state (s.member m) t)) (install_vote (s.member m).engine t o).installed) (sym found.1) (
            (holds_new (s.member m).committed t, mine),
            each_map (InstallTold s m (s.member m)) (InstallTold s m (install_state (s.member m) t)) (s.member m).engine.installed (λ i p. (holds_more (s.member m).committed t i.txn p.0, p.1)) (d m),
          )

  local : (t m : ℕ) → Guard s (CommitLocally t m) → InstallsTold s → InstallsTold (effect s (CommitLocally t m))
  local t m g d = by (look s.sessions t) refl g.0
    where
      told : ToldOn s (effect s (CommitLocally t m))
      told = act_told s f (Moves (CommitLocally t m)) g

      vote : Vote
      vote = record { coord = local_coord; count = counted (count_at (told_of s t) m); sets = sets_of (operations_of (s.member m).engine t) }

      active : look (s.member m).engine.active t ≡ Some (operations_of (s.member m).engine t)
      active = active_found (s.member m).engine t (subst (λ k. 1 ≤ k) (sym (yes_parts (s.member m).engine t (count_at (told_of s t) m) g.3).count) g.2)

      told_t : told_of (effect s (CommitLocally t m)) t ≡ told_of s t
      told_t = local_told s f t m g

      written : changes_of (operations_of (s.member m).engine t) ≡ told_changes (told_at (told_of (effect s (CommitLocally t m)) t) m)
      written = kept_changes (s.member m).engine (operations_of (s.member m).engine t) (told_at (told_of s t) m) ((f.members m).active t (operations_of (s.member m).engine t) active).kept ∙ ap (λ k. told_changes (told_at k m)) (sym told_t)

      here : Each (InstallTold (effect s (CommitLocally t m)) m (local_state (s.member m) t (count_at (told_of s t) m))) (after_install (after_cast (s.member m).engine t local_coord (counted (count_at (told_of s t) m))) t).installed
      here =
          subst (λ o. Each (InstallTold (effect s (CommitLocally t m)) m (local_state (s.member m) t (count_at (told_of s t) m))) (install_vote (after_cast (s.member m).engine t local_coord (counted (count_at (told_of s t) m))) t o).installed)
          (sym (put_here (s.member m).engine.voted t vote)) (
            (holds_new (s.member m).committed t, λ u. written),
            each_map (InstallTold s m (s.member m)) (InstallTold (effect s (CommitLocally t m)) m (local_state (s.member m) t (count_at (told_of s t) m))) (s.member m).engine.installed
                (over_to (effect s (CommitLocally t m)) told m (local_state (s.member m) t (count_at (told_of s t) m)) (λ u h. holds_more (s.member m).committed t u h)) (d m),
          )

      by : (o : Option Session) → look s.sessions t ≡ o → session_by_member o m → InstallsTold (effect s (CommitLocally t m))
      by None e h = absurd h
      by (Some session) e h =
          λ k. at_each (λ k y. Each (InstallTold (effect s (CommitLocally t m)) k y) y.engine.installed) (marked_over s t (look s.sessions t)).member m (local_state (s.member m) t (count_at (told_of s t) m)) here
          (λ k. subst (λ o. Each (InstallTold (effect s (CommitLocally t m)) k ((marked_over s t o).member k)) ((marked_over s t o).member k).engine.installed) (sym e)
          (each_map (InstallTold s k (s.member k)) (InstallTold (effect s (CommitLocally t m)) k (s.member k)) (s.member k).engine.installed (over_to (effect s (CommitLocally t m)) told k (s.member k) (λ u h. h)) (d k))) k

  move_installs : (move : Move) → Guard s move → InstallsTold s → InstallsTold (effect s move)
  move_installs (Install t m) g = install t m g
  move_installs (CommitLocally t m) g = local t m g
  move_installs (CrashMember m) g = one m _ (act_told s f (Moves (CrashMember m)) g) tt
  move_installs (MarkAsked t m c n) g = one_alike m _ (act_told s f (Moves (MarkAsked t m c n)) g) refl refl
  move_installs (Cast t m c n) g = one_alike m _ (act_told s f (Moves (Cast t m c n)) g) refl refl
  move_installs (DropActive t m) g = one_alike m _ (act_told s f (Moves (DropActive t m)) g) refl refl
  move_installs (DropVoted t m) g = one_alike m _ (act_told s f (Moves (DropVoted t m)) g) refl refl
  move_installs (RestartMember m) g = one_alike m _ (act_told s f (Moves (RestartMember m)) g) refl refl
  move_installs (ArmMember m stop) g = one_alike m _ (act_told s f (Moves (ArmMember m stop)) g) refl refl
  move_installs (CloseMemberSpare m closed) g = one_alike m _ (act_told s f (Moves (CloseMemberSpare m closed)) g) refl refl
  move_installs (FillMemberSpare m) g = one_alike m _ (act_told s f (Moves (FillMemberSpare m)) g) refl refl
  move_installs (Operate t m o) g = by (look s.sessions t) refl
    where
      same : (z : Option Session) (k : ℕ) → (with_at (entered_reply s t m o z).member m (with_engine (s.member m) (with_operation (s.member m).engine t o)) k).engine.installed ≡ (s.member k).engine.installed
      same None k = at_each (λ k y. y.engine.installed ≡ (s.member k).engine.installed) s.member m (with_engine (s.member m) (with_operation (s.member m).engine t o)) refl (λ k. refl) k
      same (Some session) k = at_each (λ k y. y.engine.installed ≡ (s.member k).engine.installed) s.member m (with_engine (s.member m) (with_operation (s.member m).engine t o)) refl (λ k. refl) k

      more : (z : Option Session) (k u : ℕ) → holds (s.member k).committed u ≡ true → holds (with_at (entered_reply s t m o z).member m (with_engine (s.member m) (with_operation (s.member m).engine t o)) k).committed u ≡ true
      more None k u = at_each (λ k y. holds (s.member k).committed u ≡ true → holds y.committed u ≡ true) s.member m (with_engine (s.member m) (with_operation (s.member m).engine t o)) (λ h. h) (λ k h. h) k
      more (Some session) k u = at_each (λ k y. holds (s.member k).committed u ≡ true → holds y.committed u ≡ true) s.member m (with_engine (s.member m) (with_operation (s.member m).engine t o)) (λ h. h) (λ k h. h) k

      by : (z : Option Session) → look s.sessions t ≡ z → InstallsTold s → InstallsTold (effect s (Operate t m o))
      by z e = alike (effect s (Operate t m o)) (act_told s f (Moves (Operate t m o)) g) (same (look s.sessions t)) (more (look s.sessions t))
  move_installs (AskEnd t) g = alike (effect s (AskEnd t)) (act_told s f (Moves (AskEnd t)) g) (λ k. same (look s.sessions t) k) (λ k u. more (look s.sessions t) k u)
    where
      same : (z : Option Session) (k : ℕ) → ((marked_over s t z).member k).engine.installed ≡ (s.member k).engine.installed
      same None k = refl
      same (Some session) k = refl

      more : (z : Option Session) (k u : ℕ) → holds (s.member k).committed u ≡ true → holds ((marked_over s t z).member k).committed u ≡ true
      more None k u h = h
      more (Some session) k u h = h
  move_installs (RecordYes t c m) g =
      alike (effect s (RecordYes t c m)) (act_told s f (Moves (RecordYes t c m)) g) (λ k. ap (λ o. ((record_yes s t c m o).member k).engine.installed) g.2) (λ k u h. ap (λ o. holds ((record_yes s t c m o).member k).committed u) g.2 ∙ h)
  move_installs (RecordAck t c m) g =
      alike (effect s (RecordAck t c m)) (act_told s f (Moves (RecordAck t c m)) g) (λ k. ap (λ o. ((record_ack s t c m o).member k).engine.installed) g.2) (λ k u h. ap (λ o. holds ((record_ack s t c m o).member k).committed u) g.2 ∙ h)
  move_installs (Begin t c) g = alike (effect s (Begin t c)) (act_told s f (Moves (Begin t c)) g) (λ k. refl) (λ k u h. h)
  move_installs (Collect t c) g = alike (effect s (Collect t c)) (act_told s f (Moves (Collect t c)) g) (λ k. refl) (λ k u h. h)
  move_installs (Decide t c) g = alike (effect s (Decide t c)) (act_told s f (Moves (Decide t c)) g) (λ k. refl) (λ k u h. h)
  move_installs (Leave t c) g = alike (effect s (Leave t c)) (act_told s f (Moves (Leave t c)) g) (λ k. refl) (λ k u h. h)
  move_installs (End t c) g = alike (effect s (End t c)) (act_told s f (Moves (End t c)) g) (λ k. refl) (λ k u h. h)
  move_installs (CrashCoord c) g = alike (effect s (CrashCoord c)) (act_told s f (Moves (CrashCoord c)) g) (λ k. refl) (λ k u h. h)
  move_installs (RestartCoord c) g = alike (effect s (RestartCoord c)) (act_told s f (Moves (RestartCoord c)) g) (λ k. refl) (λ k u h. h)
  move_installs (ArmCoord c stop) g = alike (effect s (ArmCoord c stop)) (act_told s f (Moves (ArmCoord c stop)) g) (λ k. refl) (λ k u h. h)
  move_installs (CloseCoordSpare c closed) g = alike (effect s (CloseCoordSpare c closed)) (act_told s f (Moves (CloseCoordSpare c closed)) g) (λ k. refl) (λ k u h. h)
  move_installs (FillCoordSpare c) g = alike (effect s (FillCoordSpare c)) (act_told s f (Moves (FillCoordSpare c)) g) (λ k. refl) (λ k u h. h)
  move_installs (BeginLocal t m) g = alike (effect s (BeginLocal t m)) (act_told s f (Moves (BeginLocal t m)) g) (λ k. refl) (λ k u h. h)
  move_installs (Send note) g = alike (effect s (Send note)) (act_told s f (Moves (Send note)) g) (λ k. refl) (λ k u h. h)

pub act_installs : (s : Federation) → Facts s → (a : Act) → act_guard s a → InstallsTold s → InstallsTold (after_act s a)
act_installs s f (Moves move) g = move_installs s f move g
act_installs s f Disarms g = alike s f (disarmed s) (act_told s f Disarms tt) (λ k. refl) (λ k u h. h)
