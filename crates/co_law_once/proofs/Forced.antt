-- Votes, installs and decisions are forced at most once.
use Rattle.std.proofs.Common.{◌≡◌, inl, inr, ℕ, Bool, true, false, ◌||◌, ◌&&◌, ◌==◌, List, Option, None, Some, refl, sym, ap, ◌∙◌, subst}
use Rattle.std.specs.Option.{is_some}
use Rattle.std.proofs.lemmas.Bool.{and_parts, or_parts, or_left, eqb-true, false_from_ne_true}
use Rattle.co_base.specs.declared.head.Kind.{Kind}
use Rattle.co_state.specs.Table.{look, holds}
use Rattle.co_plain.specs.declared.happening.Happening.{Happening}
use Rattle.co_plain.specs.declared.member_state.MemberState.{MemberState}
use Rattle.co_plain.specs.declared.session.Session.{Session}
use Rattle.co_plain.specs.Decisions.{asked_in, is_decided, told_of}
use Rattle.co_plain.specs.Federation.{Federation, with_member}
use Rattle.co_plain.specs.Invariants.{Memory}
use Rattle.co_plain.specs.Moves.{Move, Cast, Install, CommitLocally, Decide, Guard, effect, marked_over, install_state, local_state, session_by_member}
use Rattle.co_plain.specs.Opening.{Found, opened}
use Rattle.co_plain.specs.Premises.{AreOpenable, AreTrueVerdicts}
use Rattle.co_plain.specs.Sessions.{count_at}
use Rattle.co_law_base.proofs.Carrying.{at_here}
use Rattle.co_law_base.proofs.Facts.{Facts}
use Rattle.co_law_base.proofs.Lookups.{put_here, holds_found}
use Rattle.co_law_moves.proofs.MoveOnward.{move_onward}
use Rattle.co_law_moves.proofs.Onward.{absent_votes}
use Rattle.co_law_moves.proofs.Start.{start_facts}
use Rattle.co_law_once.specs.Once.{AtMostOnce, AreForcedOnce, moves_along, forces_vote, forces_install, forces_decision}
use Rattle.co_law_once.proofs.Walking.{run_once}
use Rattle.co_law_once.proofs.Spending.{Spent, casts_not, locally_not, spent_after, spent_unarmed, cast_spends, local_spends}

clash : {A : Type 0} → false ≡ true → A
clash h = absurd (let z : false ≡ true = h in cc)

-- the member and the transaction of a move
both_same : (k m u t : ℕ) → ((k == m) && (u == t)) ≡ true → (k ≡ m) × (u ≡ t)
both_same k m u t h = let p = and_parts (k == m) (u == t) h in (eqb-true k m p.0, eqb-true u t p.1)

module _ (t m : ℕ) where
  pub vote_done : (s : Federation) → Facts s → (move : Move) → Guard s move → forces_vote t m move ≡ true → Spent t m (effect s move)
  vote_done s f (Cast u k c n) g h =
      let p = both_same k m u t h in
      subst (λ v. Spent v m (effect s (Cast u k c n))) p.1 (subst (λ j. Spent u j (effect s (Cast u k c n))) p.0 (cast_spends s f u k c n g))
  vote_done s f (CommitLocally u k) g h =
      let p = both_same k m u t h in
      subst (λ v. Spent v m (effect s (CommitLocally u k))) p.1 (subst (λ j. Spent u j (effect s (CommitLocally u k))) p.0 (local_spends s f u k g))
  vote_done s f _ g h = clash h

  pub vote_never : (s : Federation) → Facts s → (move : Move) → Guard s move → Spent t m s → forces_vote t m move ≡ false
  vote_never s f (Cast u k c n) g d = false_from_ne_true _ (λ h. let p = both_same k m u t h in casts_not t m s f d u k c n g p.0 p.1)
  vote_never s f (CommitLocally u k) g d = false_from_ne_true _ (λ h. let p = both_same k m u t h in locally_not t m s f d u k g p.0 p.1)
  vote_never s f _ g d = refl

  pub votes_once : (hs : List Happening) (s : Federation) → Facts s → AreTrueVerdicts hs s → AtMostOnce (forces_vote t m) (moves_along hs s)
  votes_once = run_once (forces_vote t m) (Spent t m) vote_done (λ s f move g d. spent_after t m s f d move g) vote_never (spent_unarmed t m)

  abbrev IsCommitted : Federation → Type 0
  IsCommitted s = holds (s.member m).committed t ≡ true

  install_done : (s : Federation) → Facts s → (move : Move) → Guard s move → forces_install t m move ≡ true → IsCommitted (effect s move)
  install_done s f (Install u k) g h =
      let p = both_same k m u t h in
      subst (λ v. holds ((effect s (Install u k)).member m).committed v ≡ true) p.1 (subst (λ j. holds ((effect s (Install u k)).member j).committed u ≡ true) p.0
      (ap (λ y. holds y.committed u) (at_here s.member k (install_state (s.member k) u)) ∙ ap is_some (put_here (s.member k).committed u tt)))
  install_done s f (CommitLocally u k) g h = by (look s.sessions u)
    where
      p : (k ≡ m) × (u ≡ t)
      p = both_same k m u t h

      x : MemberState
      x = local_state (s.member k) u (count_at (told_of s u) k)

      by : (z : Option Session) → holds ((with_member (marked_over s u z) k x).member m).committed t ≡ true
      by None =
          subst (λ v. holds ((with_member s k x).member m).committed v ≡ true) p.1 (subst (λ j. holds ((with_member s k x).member j).committed u ≡ true) p.0
          (ap (λ y. holds y.committed u) (at_here s.member k x) ∙ ap is_some (put_here (s.member k).committed u tt)))
      by (Some session) =
          subst (λ v. holds ((with_member s k x).member m).committed v ≡ true) p.1 (subst (λ j. holds ((with_member s k x).member j).committed u ≡ true) p.0
          (ap (λ y. holds y.committed u) (at_here s.member k x) ∙ ap is_some (put_here (s.member k).committed u tt)))
  install_done s f _ g h = clash h

  install_never : (s : Federation) → Facts s → (move : Move) → Guard s move → IsCommitted s → forces_install t m move ≡ false
  install_never s f (Install u k) g d =
      false_from_ne_true _ (λ h. let p = both_same k m u t h in
      let voted : holds (s.member m).engine.voted t ≡ true = (λ i. holds (s.member (sym p.0 i)).engine.voted (sym p.1 i)) ∙ g.0 in
      let z : true ≡ false = sym voted ∙ ((f.members m).views Memory).apart t d in cc)
  install_never s f (CommitLocally u k) g d = false_from_ne_true _ (λ h. let p = both_same k m u t h in by p (holds (s.member k).engine.active u) refl)
    where
      by : (k ≡ m) × (u ≡ t) → (b : Bool) → holds (s.member k).engine.active u ≡ b → ⊥
      by p false e = absent_votes (s.member k).engine u (count_at (told_of s u) k) g.3 g.2 e
      by p true e =
          let os = holds_found (s.member k).engine.active u e in
          let none = (or_parts (holds (s.member k).engine.voted u) (holds (s.member k).committed u) ((f.members k).active u os.0 os.1).apart).1 in
          let here : holds (s.member k).committed u ≡ true = (λ i. holds (s.member (p.0 i)).committed (p.1 i)) ∙ d in
          let z : true ≡ false = sym here ∙ none in cc
  install_never s f _ g d = refl

  pub installs_once : (hs : List Happening) (s : Federation) → Facts s → AreTrueVerdicts hs s → AtMostOnce (forces_install t m) (moves_along hs s)
  installs_once = run_once (forces_install t m) IsCommitted install_done (λ s f move g d. (move_onward s f move g).committed m t d) install_never (λ s d. d)

module _ (t : ℕ) where
  abbrev IsDone : Federation → Type 0
  IsDone s = is_decided s.decided t ≡ true

  decision_done : (s : Federation) → Facts s → (move : Move) → Guard s move → forces_decision t move ≡ true → IsDone (effect s move)
  decision_done s f (Decide u c) g h = or_left (u == t) (is_decided s.decided t) h
  decision_done s f (CommitLocally u k) g h = by (look s.sessions u)
    where
      by : (z : Option Session) → ((u == t) || is_decided (with_member (marked_over s u z) k (local_state (s.member k) u (count_at (told_of s u) k))).decided t) ≡ true
      by None = or_left (u == t) (is_decided s.decided t) h
      by (Some session) = or_left (u == t) (is_decided s.decided t) h
  decision_done s f _ g h = clash h

  decision_never : (s : Federation) → Facts s → (move : Move) → Guard s move → IsDone s → forces_decision t move ≡ false
  decision_never s f (Decide u c) g d = false_from_ne_true _ (λ h. by (eqb-true u t h) g)
    where
      undecided : u ≡ t → is_decided s.decided u ≡ false → ⊥
      undecided e n = let z : true ≡ false = sym d ∙ ap (is_decided s.decided) (sym e) ∙ n in cc

      by : u ≡ t → Guard s (Decide u c) → ⊥
      by e (inl p) = undecided e ((f.coords c).idle u p.0).undecided
      by e (inr p) = undecided e ((f.coords c).collecting u p.0 p.1 p.3).still.undecided
  decision_never s f (CommitLocally u k) g d = false_from_ne_true _ (λ h. by (eqb-true u t h) (look s.sessions u) refl g.0)
    where
      by : u ≡ t → (o : Option Session) → look s.sessions u ≡ o → session_by_member o k → ⊥
      by e None q b = b
      by e (Some session) q b =
          let asked = f.numbers.local_asked u k session q b (ap (is_decided s.decided) e ∙ d) in
          let z : false ≡ true = sym g.1 ∙ ap asked_in q ∙ asked in cc
  decision_never s f _ g d = refl

  pub decisions_once : (hs : List Happening) (s : Federation) → Facts s → AreTrueVerdicts hs s → AtMostOnce (forces_decision t) (moves_along hs s)
  decisions_once = run_once (forces_decision t) IsDone decision_done (λ s f move g d. (move_onward s f move g).decided t d) decision_never (λ s d. d)

pub forced_once : (kinds : List Kind) (coords : ℕ) (fm fc : ℕ → Found) (hs : List Happening) → AreOpenable kinds coords fm fc → AreTrueVerdicts hs (opened kinds coords fm fc) →
    AreForcedOnce (moves_along hs (opened kinds coords fm fc))
forced_once kinds coords fm fc hs g v =
    let s = opened kinds coords fm fc in
    let f = start_facts kinds coords fm fc g in
    record { votes = λ t m. votes_once t m hs s f v; installs = λ t m. installs_once t m hs s f v; decisions = λ t. decisions_once t hs s f v }
