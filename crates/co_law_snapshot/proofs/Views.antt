-- The facts of a view under a vote, an abort, a decision and an install.
use Rattle.std.proofs.Common.{◌≡◌, ◌≢◌, ◌⊎◌, inl, inr, ℕ, Bool, true, false, ◌||◌, ◌&&◌, ◌==◌, if◌then◌else◌, List, [], ◌∷◌, Option, None, Some, refl, sym, ap, ◌∙◌, subst}
use Rattle.std.proofs.lemmas.Bool.{or_cases, or_left, or_right, eqb-true, eqb-false, and_from, false_from_ne_true}
use Rattle.co_record.specs.declared.record.Record.{Record}
use Rattle.co_serial.specs.Records.{Records, with_changes}
use Rattle.co_state.specs.declared.engine_state.Vote.{Vote}
use Rattle.co_state.specs.Keys.{writes_meet}
use Rattle.co_state.specs.Table.{look, holds}
use Rattle.co_plain.specs.declared.member_view.MemberView.{MemberView}
use Rattle.co_plain.specs.declared.session.Decided.{Decided}
use Rattle.co_plain.specs.MemberView.{Numbers, with_number, recovered_view, cast_in, forget_in, install_in}
use Rattle.co_plain.specs.CoordView.{has_commit_of}
use Rattle.co_plain.specs.Federation.{Federation}
use Rattle.co_plain.specs.Decisions.{is_decided}
use Rattle.co_plain.specs.Promises.{AreDecidedOnce}
use Rattle.co_plain.specs.Invariants.{VotedAreConflictFree}
use Rattle.co_law_engine.proofs.YesTells.{in_some}
use Rattle.co_law_base.proofs.Commits.{holds_new}
use Rattle.co_law_base.proofs.Facts.{Each}
use Rattle.co_law_base.proofs.ImageRules.{IsImage, image_decide, laid_serial}
use Rattle.co_law_base.proofs.Lookups.{put_cases, without_cases, is_nothing}
use Rattle.co_law_moves.proofs.Laid.{laid_image}
use Rattle.co_law_moves.proofs.Onward.{holds_put_off}
use Rattle.co_law_snapshot.specs.Snapshot.{starting_among, serial_among, LaterLeave, SnapshotFacts}
use Rattle.co_law_snapshot.proofs.Laying.{changed_at, laid, serial_laid, laid_without, laid_over, LeftBehind, laid_more, never_decided}

-- settled by some decisions or an opened commit
abbrev pub settled_by : (ℕ → List Record) → List Decided → ℕ → Vote → Bool
settled_by coord_log ds t vote = is_decided ds t || has_commit_of (coord_log vote.coord) t

-- settled votes of one view are among those of another one
pub leave_fewer : (coord_log : ℕ → List Record) (m : ℕ) (v w : MemberView) (ds : List Decided) →
    ((t : ℕ) (vote : Vote) → look w.voted t ≡ Some vote → settled_by coord_log ds t vote ≡ true → look v.voted t ≡ Some vote) →
    LaterLeave coord_log m v ds → LaterLeave coord_log m w ds
leave_fewer coord_log m v w [] h l = tt
leave_fewer coord_log m v w (d ∷ ds) h l = (
  (λ t vote f s. l.0 t vote (h t vote f (more t vote s)) s),
  leave_fewer coord_log m v w ds (λ t vote f s. h t vote f (more t vote s)) l.1,
)
  where
    more : (t : ℕ) (vote : Vote) → settled_by coord_log ds t vote ≡ true → settled_by coord_log (d ∷ ds) t vote ≡ true
    more t vote s = by (or_cases (is_decided ds t) (has_commit_of (coord_log vote.coord) t) s)
      where
        by : (is_decided ds t ≡ true) ⊎ (has_commit_of (coord_log vote.coord) t ≡ true) → settled_by coord_log (d ∷ ds) t vote ≡ true
        by (inl k) = or_left (is_decided (d ∷ ds) t) (has_commit_of (coord_log vote.coord) t) (or_right (d.txn == t) (is_decided ds t) k)
        by (inr k) = or_right (is_decided (d ∷ ds) t) (has_commit_of (coord_log vote.coord) t) k

-- Another state with the same decisions and opened logs, and with no fewer sessions.
pub record SameRun (s z : Federation) : Type 0 where
  pub members : z.opened_member ≡ s.opened_member
  pub coords : z.opened_coord ≡ s.opened_coord
  pub begun : (t : ℕ) → holds s.sessions t ≡ true → holds z.sessions t ≡ true

pub begun_back : (s z : Federation) → SameRun s z → (t : ℕ) → holds z.sessions t ≡ false → holds s.sessions t ≡ false
begun_back s z k t n = false_from_ne_true (holds s.sessions t) (λ h. let e : true ≡ false = sym (k.begun t h) ∙ n in cc)

same_serial : (s z : Federation) → SameRun s z → (numbers : Numbers) (ds : List Decided) → serial_among s numbers ds ≡ serial_among z numbers ds
same_serial s z k numbers ds = λ i. serial_among (record s { opened_member = sym k.members i; opened_coord = sym k.coords i }) numbers ds

pub facts_same : (s z : Federation) → SameRun s z → z.decided ≡ s.decided → (m : ℕ) (v : MemberView) → SnapshotFacts s m v → SnapshotFacts z m v
facts_same s z k e m v f =
    record {
      serial = f.serial ∙ (λ i. same_serial s z k v.committed (sym e i) i m);
      later_leave = subst (LaterLeave z.opened_coord m v) (sym e) (subst (λ logs. LaterLeave logs m v s.decided) (sym k.coords) f.later_leave);
      opened_votes = λ t vote n h. ap (λ logs. look (recovered_view (logs m)).voted t) k.members ∙ f.opened_votes t vote (begun_back s z k t n) h;
    }

module _ (s : Federation) (m : ℕ) (v : MemberView) (f : SnapshotFacts s m v) where
  pub forget : (t : ℕ) → SnapshotFacts s m (forget_in v t)
  forget t =
      record {
        serial = f.serial;
        later_leave = leave_fewer s.opened_coord m v (forget_in v t) s.decided (λ u a h k. (without_cases v.voted t u a h).1) f.later_leave;
        opened_votes = λ u a n h. f.opened_votes u a n (without_cases v.voted t u a h).1;
      }

  -- a vote of a begun transaction that is not settled
  pub cast : (t : ℕ) (vote : Vote) → holds s.sessions t ≡ true → settled_by s.opened_coord s.decided t vote ≡ false → SnapshotFacts s m (cast_in v t vote)
  cast t vote begun open' =
      record {
        serial = f.serial;
        later_leave = leave_fewer s.opened_coord m v (cast_in v t vote) s.decided (λ u a h k. settled u a k (put_cases v.voted t vote u a h)) f.later_leave;
        opened_votes = λ u a n h. opened u a n (put_cases v.voted t vote u a h);
      }
    where
      settled : (u : ℕ) (a : Vote) → settled_by s.opened_coord s.decided u a ≡ true → ((t ≡ u) × (vote ≡ a)) ⊎ ((t ≢ u) × (look v.voted u ≡ Some a)) → look v.voted u ≡ Some a
      settled u a k (inr p) = p.1
      settled u a k (inl p) =
          absurd (let z : false ≡ true = sym open' ∙ (λ i. settled_by s.opened_coord s.decided (p.0 i) (p.1 i)) ∙ k in cc)

      opened : (u : ℕ) (a : Vote) → holds s.sessions u ≡ false → ((t ≡ u) × (vote ≡ a)) ⊎ ((t ≢ u) × (look v.voted u ≡ Some a)) → look (recovered_view (s.opened_member m)).voted u ≡ Some a
      opened u a n (inr p) = f.opened_votes u a n p.1
      opened u a n (inl p) = absurd (let z : true ≡ false = sym begun ∙ ap (holds s.sessions) p.0 ∙ n in cc)

  -- one more decision, of a transaction that is not installed here, and that leaves what settled votes write
  pub decide : (z : Federation) → SameRun s z → (d : Decided) → z.decided ≡ d ∷ s.decided → holds v.committed d.txn ≡ false →
      ((u : ℕ) (a : Vote) → look v.voted u ≡ Some a → settled_by s.opened_coord s.decided u a ≡ true → writes_meet a.sets.writes (changed_at m d) ≡ false) → SnapshotFacts z m v
  decide z k d e new leaves =
      record {
        serial =
            f.serial ∙ (λ i. same_serial s z k v.committed s.decided i m)
            ∙ serial_laid start v.committed m s.decided
            ∙ (λ i. if sym new i then with_changes (laid v.committed m (start m) s.decided) (changed_at m d) else laid v.committed m (start m) s.decided)
            ∙ sym (serial_laid start v.committed m (d ∷ s.decided))
            ∙ ap (λ ds. serial_among z v.committed ds m) (sym e);
        later_leave =
            subst (LaterLeave z.opened_coord m v) (sym e)
            (subst (λ logs. LaterLeave logs m v (d ∷ s.decided)) (sym k.coords) (leaves, f.later_leave));
        opened_votes = λ t vote n h. ap (λ logs. look (recovered_view (logs m)).voted t) k.members ∙ f.opened_votes t vote (begun_back s z k t n) h;
      }
    where
      start : ℕ → Records
      start = starting_among z.opened_member z.opened_coord v.committed

-- How an installed transaction came to its vote: it was decided in this run, or its vote stood in the opened log and its commit in
-- that of its coordinator.
pub data CameToVote (s : Federation) (m : ℕ) (t : ℕ) (vote : Vote) : Type 0 where
  InRun : is_decided s.decided t ≡ true → Each (λ d. t ≡ d.txn → changed_at m d ≡ vote.sets.writes) s.decided →
      look (recovered_view (s.opened_member m)).voted t ≡ None → CameToVote s m t vote
  InOpenedLog : is_decided s.decided t ≡ false → look (recovered_view (s.opened_member m)).voted t ≡ Some vote → has_commit_of (s.opened_coord vote.coord) t ≡ true → CameToVote s m t vote

-- who was decided after t leaves what the vote of t writes
left_behind : (coord_log : ℕ → List Record) (m : ℕ) (v : MemberView) (t : ℕ) (vote : Vote) (ds : List Decided) → look v.voted t ≡ Some vote → LaterLeave coord_log m v ds →
    LeftBehind t m vote.sets.writes ds
left_behind coord_log m v t vote [] here l = tt
left_behind coord_log m v t vote (d ∷ ds) here l = (
  (λ k. l.0 t vote here (or_left (is_decided ds t) (has_commit_of (coord_log vote.coord) t) k)),
  left_behind coord_log m v t vote ds here l.1,
)

-- and all do, where t was settled before this run
all_leave : (coord_log : ℕ → List Record) (m : ℕ) (v : MemberView) (t : ℕ) (vote : Vote) (ds : List Decided) → look v.voted t ≡ Some vote → has_commit_of (coord_log vote.coord) t ≡ true →
    LaterLeave coord_log m v ds → Each (λ d. writes_meet vote.sets.writes (changed_at m d) ≡ false) ds
all_leave coord_log m v t vote [] here k l = tt
all_leave coord_log m v t vote (d ∷ ds) here k l = (
  l.0 t vote here (or_right (is_decided ds t) (has_commit_of (coord_log vote.coord) t) k),
  all_leave coord_log m v t vote ds here k l.1,
)

-- The records below: with the opened votes of some numbers, and of one more.
module _ (s : Federation) (m : ℕ) (numbers : Numbers) (t : ℕ) where
  abbrev before : MemberView
  before = recovered_view (s.opened_member m)

  abbrev among : Numbers → ℕ → Vote → Bool
  among some u vote = holds some u && has_commit_of (s.opened_coord vote.coord) u

  abbrev among_in : Numbers → ℕ → Option Vote → Bool
  among_in some u None = false
  among_in some u (Some vote) = among some u vote

  abbrev is_among : Numbers → ℕ → Type 0
  is_among some u = among_in some u (look before.voted u) ≡ true

  image_of : (some : Numbers) → VotedAreConflictFree before → IsImage (starting_among s.opened_member s.opened_coord some m) (is_among some) before
  image_of some free =
      laid_image (among some) (is_among some) before free
      (λ u a g k. ap (among_in some u) g ∙ k)
      (λ u a g k. sym (ap (among_in some u) g) ∙ k)

  off : (u : ℕ) → t ≢ u → (o : Option Vote) → among_in (with_number numbers t) u o ≡ among_in numbers u o
  off u n None = refl
  off u n (Some a) = ap (λ b. b && has_commit_of (s.opened_coord a.coord) u) (holds_put_off numbers t tt u n)

  -- they are the same where its vote did not stand in the opened log
  pub start_same : VotedAreConflictFree before → look before.voted t ≡ None →
      starting_among s.opened_member s.opened_coord (with_number numbers t) m ≡ starting_among s.opened_member s.opened_coord numbers m
  start_same free none =
      laid_serial (starting_among s.opened_member s.opened_coord numbers m) (is_among numbers) (among (with_number numbers t)) before (image_of numbers free)
      (λ u a g k. ap (among_in numbers u) g ∙ sym (off u (other u a g) (Some a)) ∙ k)
      (λ u a g k. off u (other u a g) (Some a) ∙ sym (ap (among_in numbers u) g) ∙ k)
    where
      other : (u : ℕ) (a : Vote) → look before.voted u ≡ Some a → t ≢ u
      other u a g e = is_nothing (sym none ∙ ap (look before.voted) e ∙ g)

  -- and have the writes of its vote laid over, where it stood there and its commit did
  pub start_more : (vote : Vote) → VotedAreConflictFree before → look before.voted t ≡ Some vote → has_commit_of (s.opened_coord vote.coord) t ≡ true →
      starting_among s.opened_member s.opened_coord (with_number numbers t) m ≡ with_changes (starting_among s.opened_member s.opened_coord numbers m) vote.sets.writes
  start_more vote free here committed =
      laid_serial next (is_among (with_number numbers t)) (among (with_number numbers t)) before
      (image_decide (starting_among s.opened_member s.opened_coord numbers m) next (is_among numbers) (is_among (with_number numbers t)) before t vote.sets.writes
      (λ q. refl) keeps now others
      (λ a g. ap (λ x. x.sets.writes) (in_some (sym g ∙ here)))
      (λ n. is_nothing (sym n ∙ here))
      free (image_of numbers free))
      (λ u a g k. ap (among_in (with_number numbers t) u) g ∙ k)
      (λ u a g k. sym (ap (among_in (with_number numbers t) u) g) ∙ k)
    where
      next : Records
      next = with_changes (starting_among s.opened_member s.opened_coord numbers m) vote.sets.writes

      now : is_among (with_number numbers t) t
      now = ap (among_in (with_number numbers t) t) here ∙ and_from (holds (with_number numbers t) t) (has_commit_of (s.opened_coord vote.coord) t) (holds_new numbers t) committed

      others : (u : ℕ) → t ≢ u → is_among (with_number numbers t) u → is_among numbers u
      others u n k = sym (off u n (look before.voted u)) ∙ k

      keeps : (u : ℕ) → is_among numbers u → is_among (with_number numbers t) u
      keeps u k = by (t == u) refl
        where
          by : (b : Bool) → (t == u) ≡ b → is_among (with_number numbers t) u
          by true e = subst (is_among (with_number numbers t)) (eqb-true t u e) now
          by false e = off u (eqb-false t u e) (look before.voted u) ∙ k

-- A settled vote is installed.
pub install : (s : Federation) (m : ℕ) (v : MemberView) → SnapshotFacts s m v → (t : ℕ) (vote : Vote) → look v.voted t ≡ Some vote → holds v.committed t ≡ false →
    AreDecidedOnce s.decided → VotedAreConflictFree (recovered_view (s.opened_member m)) → CameToVote s m t vote → SnapshotFacts s m (install_in v t (Some vote))
install s m v f t vote here new once free came =
    record {
      serial =
          ap (λ r. with_changes r vote.sets.writes) (f.serial ∙ serial_laid (start v.committed) v.committed m s.decided)
          ∙ sym (more came)
          ∙ sym (serial_laid (start (with_number v.committed t)) (with_number v.committed t) m s.decided);
      later_leave = leave_fewer s.opened_coord m v (install_in v t (Some vote)) s.decided (λ u a h k. (without_cases v.voted t u a h).1) f.later_leave;
      opened_votes = λ u a n h. f.opened_votes u a n (without_cases v.voted t u a h).1;
    }
  where
    start : Numbers → ℕ → Records
    start = starting_among s.opened_member s.opened_coord

    more : CameToVote s m t vote →
        laid (with_number v.committed t) m (start (with_number v.committed t) m) s.decided ≡ with_changes (laid v.committed m (start v.committed m) s.decided) vote.sets.writes
    more (InRun d own none) =
        ap (λ r. laid (with_number v.committed t) m r s.decided) (start_same s m v.committed t free none)
        ∙ laid_more v.committed t m (start v.committed m) vote.sets.writes s.decided new once d own (left_behind s.opened_coord m v t vote s.decided here f.later_leave)
    more (InOpenedLog d stood committed) =
        laid_without v.committed t m (start (with_number v.committed t) m) s.decided (never_decided t s.decided d)
        ∙ ap (λ r. laid v.committed m r s.decided) (start_more s m v.committed t vote free stood committed)
        ∙ laid_over v.committed m (start v.committed m) vote.sets.writes s.decided (all_leave s.opened_coord m v t vote s.decided here committed f.later_leave)
