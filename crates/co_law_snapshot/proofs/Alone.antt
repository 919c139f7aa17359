-- A member decides a transaction of its own: it is cast, decided and installed at once.
use Rattle.std.proofs.Common.{◌≡◌, ◌≢◌, ◌⊎◌, inl, inr, ℕ, Bool, true, false, ◌==◌, ◌≤◌, if◌then◌else◌, [], Option, None, Some, refl, sym, ap, ◌∙◌, subst}
use Rattle.std.proofs.lemmas.Bool.{or_left, eqb-true, eqb-false, eq-eqb}
use Rattle.co_base.specs.declared.node.Node.TheVariants as node
use Rattle.co_state.specs.declared.engine_state.Vote.{Vote}
use Rattle.co_state.specs.EngineState.{operations_of}
use Rattle.co_state.specs.Keys.{reads_meet, writes_meet}
use Rattle.co_state.specs.Table.{look, put, holds}
use Rattle.co_plain.specs.declared.member_state.MemberState.{MemberState}
use Rattle.co_plain.specs.declared.session.Decided.{Decided}
use Rattle.co_plain.specs.declared.session.Session.{Session}
use Rattle.co_plain.specs.Decisions.{is_decided, told_of, told_in}
use Rattle.co_plain.specs.Federation.{Federation, with_member}
use Rattle.co_plain.specs.Invariants.{Side, Memory, Stable, view, told_changes}
use Rattle.co_plain.specs.MemberView.{cast_in, install_in}
use Rattle.co_plain.specs.Moves.{CommitLocally, effect, marked_over, session_by_member, with_decision}
use Rattle.co_plain.specs.Sessions.{count_at, told_at, asked_to_end}
use Rattle.co_law_engine.proofs.YesTells.{yes_apart, yes_sees}
use Rattle.co_law_base.proofs.Facts.{rest_of, told_here, ActiveFacts, Facts}
use Rattle.co_law_base.proofs.Locally.{MayCommitLocally, keeps_local, local_vote, member_after}
use Rattle.co_law_base.proofs.Lookups.{put_here, put_cases, found_holds}
use Rattle.co_law_base.proofs.ToldRuns.{CastReplays, cast_replays}
use Rattle.co_law_base.proofs.TwoViews.{both_sides}
use Rattle.co_law_base.proofs.ViewMoves.{each_map, each_decided, holds_put}
use Rattle.co_law_base.proofs.ViewRules.{three_parts, apart_ways}
use Rattle.co_law_base.proofs.VoteMoves.{active_found}
use Rattle.co_law_snapshot.specs.Snapshot.{SnapshotFacts, SnapshotInvariants}
use Rattle.co_law_snapshot.proofs.Laying.{changed_at}
use Rattle.co_law_snapshot.proofs.Steady.{nothing_at, not_opened, nowhere, open_vote}
use Rattle.co_law_snapshot.proofs.Views.{SameRun, settled_by, cast as cast_view, decide as decide_view, CameToVote, InRun, install as install_view}

module _ (s : Federation) (f : Facts s) (i : SnapshotInvariants s) (t m : ℕ) (g : MayCommitLocally s t m) where
  -- the state after it, by what the session was and by the vote
  abbrev after : Option Session → Option Vote → Federation
  after p o = with_decision (with_member (marked_over s t p) m (member_after s t m o)) t

  voted : look (put (s.member m).engine.voted t (local_vote s t m)) t ≡ Some (local_vote s t m)
  voted = put_here (s.member m).engine.voted t (local_vote s t m)

  is_active : ActiveFacts (rest_of s) m (s.member m) t (operations_of (s.member m).engine t)
  is_active = (f.members m).active t (operations_of (s.member m).engine t) (active_found (s.member m).engine t (subst (λ k. 1 ≤ k) (sym g.3.count) g.2))

  replayed : CastReplays (view Memory (s.member m)).records (operations_of (s.member m).engine t) (told_here (rest_of s) m t)
  replayed =
      cast_replays (s.member m).engine (operations_of (s.member m).engine t) (told_here (rest_of s) m t) is_active.kept
      (yes_sees (s.member m).engine t (count_at (told_of s t) m) g.3)

  module _ (old : Session) (here : look s.sessions t ≡ Some old) (own : old.by ≡ node.Member m) where
    abbrev decision : Decided
    decision = record { txn = t; told = told_in (look (put s.sessions t (asked_to_end old)) t) }

    abbrev mine : MemberState
    mine = member_after s t m (Some (local_vote s t m))

    abbrev z : Federation
    z = after (Some old) (Some (local_vote s t m))

    same_run : SameRun s z
    same_run = record { members = refl; coords = refl; begun = λ u h. holds_put s.sessions t (asked_to_end old) u h }

    same_told : decision.told ≡ told_of s t
    same_told = ap told_in (put_here s.sessions t (asked_to_end old)) ∙ sym (ap told_in here)

    later : Facts z
    later = subst (λ o. Facts (after (Some old) o)) voted (subst (λ p. Facts (after p (look (put (s.member m).engine.voted t (local_vote s t m)) t))) here (keeps_local s f t m g))

    undecided : is_decided s.decided t ≡ false
    undecided = later.numbers.once.0

    begun : holds s.sessions t ≡ true
    begun = found_holds s.sessions t old here

    wrote : (local_vote s t m).sets.writes ≡ changed_at m decision
    wrote = replayed.writes ∙ ap (λ ts. told_changes (told_at ts m)) (sym same_told)

    -- each vote that was settled before meets nothing that it wrote
    leaves : (u : ℕ) (a : Vote) → ((t ≡ u) × (local_vote s t m ≡ a)) ⊎ ((t ≢ u) × (look (s.member m).engine.voted u ≡ Some a)) →
        settled_by s.opened_coord s.decided u a ≡ true → writes_meet a.sets.writes (changed_at m decision) ≡ false
    leaves u a (inl p) k = absurd (let e : true ≡ false = sym k ∙ ap (λ n. settled_by s.opened_coord s.decided n a) (sym p.0) ∙ open_vote s f t begun undecided a in cc)
    leaves u a (inr p) k =
        ap (writes_meet a.sets.writes) (sym wrote)
        ∙ (three_parts (reads_meet a.sets.reads (local_vote s t m).sets.writes) (reads_meet (local_vote s t m).sets.reads a.sets.writes) (writes_meet a.sets.writes (local_vote s t m).sets.writes)
        (apart_ways (local_vote s t m).sets a.sets (yes_apart (s.member m).engine t (count_at (told_of s t) m) u a g.3 p.0 p.1)).1).2

    middle : SnapshotFacts z m (cast_in (view Memory (s.member m)) t (local_vote s t m))
    middle =
        decide_view s m (cast_in (view Memory (s.member m)) t (local_vote s t m))
        (cast_view s m (view Memory (s.member m)) (i.views m Memory) t (local_vote s t m) begun (open_vote s f t begun undecided (local_vote s t m)))
        z same_run decision refl (nowhere s f t begun undecided m Memory)
        (λ u a h k. leaves u a (put_cases (s.member m).engine.voted t (local_vote s t m) u a h) k)

    came : CameToVote z m t (local_vote s t m)
    came =
        InRun (or_left (t == t) (is_decided s.decided t) (eq-eqb t t refl)) (
          (λ e. sym wrote),
          each_map (λ d. is_decided s.decided d.txn ≡ true) (λ d. t ≡ d.txn → changed_at m d ≡ (local_vote s t m).sets.writes) s.decided
              (λ d h e. absurd (let q : true ≡ false = sym h ∙ ap (is_decided s.decided) (sym e) ∙ undecided in cc)) (each_decided s.decided),
        )
        (not_opened s f.numbers t m begun)

    memory : SnapshotFacts z m (view Memory mine)
    memory =
        install_view z m (cast_in (view Memory (s.member m)) t (local_vote s t m)) middle t (local_vote s t m) voted
        (nowhere s f t begun undecided m Memory) later.numbers.once (i.opened_free m) came

    same_views : view Stable mine ≡ view Memory mine
    same_views =
        ap (λ v. install_in (cast_in v t (local_vote s t m)) t (look (cast_in v t (local_vote s t m)).voted t)) (f.members m).logged
        ∙ ap (install_in (cast_in (view Memory (s.member m)) t (local_vote s t m)) t) voted

    -- nothing was told elsewhere
    elsewhere : (k : ℕ) → m ≢ k → changed_at k decision ≡ []
    elsewhere k n =
        ap told_changes (nothing_at decision.told k
        (ap (λ ts. count_at ts k) same_told ∙ ap (λ o. count_at (told_in o) k) here ∙ f.numbers.local t m k old here own (λ e. n (sym e))))

    each : (k : ℕ) (b : Bool) → (m == k) ≡ b → (side : Side) → SnapshotFacts z k (view side (if b then mine else s.member k))
    each k true e side = subst (λ n. SnapshotFacts z n (view side mine)) (eqb-true m k e) (both_sides (SnapshotFacts z m) mine same_views memory side)
    each k false e side =
        decide_view s k (view side (s.member k)) (i.views k side) z same_run decision refl (nowhere s f t begun undecided k side)
        (λ u a h q. ap (writes_meet a.sets.writes) (elsewhere k (eqb-false m k e)))

    decided_alone : SnapshotInvariants z
    decided_alone = record { views = λ k side. each k (m == k) refl side; opened_free = i.opened_free }

  pub local : SnapshotInvariants (effect s (CommitLocally t m))
  local = by (look s.sessions t) refl g.0
    where
      by : (p : Option Session) → look s.sessions t ≡ p → session_by_member p m → SnapshotInvariants (effect s (CommitLocally t m))
      by None e h = absurd h
      by (Some old) e h =
          subst (λ p. SnapshotInvariants (after p (look (put (s.member m).engine.voted t (local_vote s t m)) t))) (sym e)
          (subst (λ o. SnapshotInvariants (after (Some old) o)) (sym voted) (decided_alone old e h))
