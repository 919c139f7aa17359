-- What a change of one member leaves, and one of no member; and who is new in this run.
use Rattle.std.proofs.Common.{◌≡◌, ℕ, suc, true, false, List, [], ◌∷◌, length, None, refl, sym, ap, ◌∙◌, subst, arith}
use Rattle.std.proofs.lemmas.Bool.{or_left, or_from, false_from_ne_true}
use Rattle.co_state.specs.declared.engine_state.Vote.{Vote}
use Rattle.co_state.specs.Table.{look, holds}
use Rattle.co_plain.specs.declared.member_state.MemberState.{MemberState}
use Rattle.co_plain.specs.declared.member_view.MemberView.{MemberView}
use Rattle.co_plain.specs.declared.session.Told.{Told}
use Rattle.co_plain.specs.CoordView.{has_commit_of}
use Rattle.co_plain.specs.Decisions.{is_decided}
use Rattle.co_plain.specs.Federation.{Federation, with_member}
use Rattle.co_plain.specs.Invariants.{Side, view, VotedAreConflictFree}
use Rattle.co_plain.specs.MemberView.{recovered_view}
use Rattle.co_plain.specs.Sessions.{count_at, told_at}
use Rattle.co_law_base.proofs.Carrying.{at_each}
use Rattle.co_law_base.proofs.Facts.{rest_of, NumberFacts, Facts}
use Rattle.co_law_base.proofs.KeptTold.{count_told}
use Rattle.co_law_base.proofs.LogMoves.{not_held}
use Rattle.co_law_snapshot.specs.Snapshot.{SnapshotFacts, SnapshotInvariants}
use Rattle.co_law_snapshot.proofs.Views.{SameRun, facts_same, settled_by}

-- one changed member
pub at_member : (s : Federation) → SnapshotInvariants s → (m : ℕ) (x : MemberState) → ((side : Side) → SnapshotFacts s m (view side x)) → SnapshotInvariants (with_member s m x)
at_member s i m x f =
    record {
      views = λ k side.
          at_each (λ k y. SnapshotFacts (with_member s m x) k (view side y)) s.member m x (on m (view side x) (f side))
          (λ k. on k (view side (s.member k)) (i.views k side)) k;
      opened_free = i.opened_free;
    }
  where
    on : (k : ℕ) (v : MemberView) → SnapshotFacts s k v → SnapshotFacts (with_member s m x) k v
    on k v g = facts_same s (with_member s m x) (record { members = refl; coords = refl; begun = λ t h. h }) refl k v g

-- no changed member
pub still : (s z : Federation) → SameRun s z → z.decided ≡ s.decided → z.member ≡ s.member → SnapshotInvariants s → SnapshotInvariants z
still s z k d e i =
    record {
      views = λ m side. subst (λ f. SnapshotFacts z m (view side (f m))) (sym e) (facts_same s z k d m (view side (s.member m)) (i.views m side));
      opened_free = subst (λ logs. (m : ℕ) → VotedAreConflictFree (recovered_view (logs m))) (sym k.members) i.opened_free;
    }

-- nothing but messages or coordinators changed
pub same_all : (s z : Federation) → z.opened_member ≡ s.opened_member → z.opened_coord ≡ s.opened_coord → z.sessions ≡ s.sessions → SameRun s z
same_all s z m c e = record { members = m; coords = c; begun = λ t h. ap (λ table. holds table t) e ∙ h }

-- who was told of nothing at a member
pub nothing_at : (told : List Told) (m : ℕ) → count_at told m ≡ 0 → told_at told m ≡ []
nothing_at told m h = by (told_at told m) refl
  where
    by : (ts : List Told) → told_at told m ≡ ts → told_at told m ≡ []
    by [] e = e
    by (x ∷ xs) e = absurd (let l : 0 ≡ suc (length xs) = sym h ∙ count_told told m ∙ ap length e in omega (arith, l))

-- who was begun in this run stood in no opened log
pub not_opened : (s : Federation) → NumberFacts (rest_of s) → (t m : ℕ) → holds s.sessions t ≡ true → look (recovered_view (s.opened_member m)).voted t ≡ None
not_opened s n t m begun =
    not_held (recovered_view (s.opened_member m)).voted t
    (false_from_ne_true (holds (recovered_view (s.opened_member m)).voted t)
    (λ h. let z : true ≡ false = sym (n.voted_used m t (or_left (holds (recovered_view (s.opened_member m)).voted t) _ h)) ∙ n.new t begun in cc))

pub uncommitted_before : (s : Federation) → NumberFacts (rest_of s) → (t c : ℕ) → holds s.sessions t ≡ true → has_commit_of (s.opened_coord c) t ≡ false
uncommitted_before s n t c begun = false_from_ne_true (has_commit_of (s.opened_coord c) t) (λ h. let z : true ≡ false = sym (n.commit_used c t h) ∙ n.new t begun in cc)

module _ (s : Federation) (f : Facts s) (t : ℕ) (begun : holds s.sessions t ≡ true) (undecided : is_decided s.decided t ≡ false) where
  -- who is begun and not decided is committed nowhere, and not settled
  pub nowhere : (m : ℕ) (side : Side) → holds (view side (s.member m)).committed t ≡ false
  nowhere m side =
      false_from_ne_true (holds (view side (s.member m)).committed t) (λ h. let z : true ≡ false = sym (((f.members m).views side).known t h begun) ∙ undecided in cc)

  pub open_vote : (vote : Vote) → settled_by s.opened_coord s.decided t vote ≡ false
  open_vote vote = or_from (is_decided s.decided t) (has_commit_of (s.opened_coord vote.coord) t) undecided (uncommitted_before s f.numbers t vote.coord begun)
