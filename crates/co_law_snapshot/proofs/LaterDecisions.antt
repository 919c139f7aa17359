-- What is decided when a run goes on was installed nowhere before.
use Rattle.std.proofs.Common.{◌≡◌, ◌⊎◌, inl, inr, ℕ, true, false, cond, ◌==◌, List, [], ◌∷◌, Option, None, Some, refl, sym, ap, ◌∙◌, subst}
use Rattle.std.proofs.lemmas.Bool.{or_left, eq-eqb, false_from_ne_true}
use Rattle.co_plain.specs.AllInvariants.{AllInvariants}
use Rattle.co_plain.specs.declared.coord_state.Entry.{Entry}
use Rattle.co_plain.specs.declared.coord_state.Entry.TheVariants as entry
use Rattle.co_plain.specs.declared.happening.Happening.{Happening}
use Rattle.co_plain.specs.declared.happening.Happening.TheVariants as happening
use Rattle.co_plain.specs.declared.session.Decided.{Decided}
use Rattle.co_plain.specs.declared.session.Session.{Session}
use Rattle.co_state.specs.Effects.{with_operation}
use Rattle.co_state.specs.Table.{look, holds}
use Rattle.co_plain.specs.Decisions.{is_decided, told_of}
use Rattle.co_plain.specs.Federation.{Federation, with_member}
use Rattle.co_plain.specs.Invariants.{Memory}
use Rattle.co_plain.specs.MemberStep.{with_engine}
use Rattle.co_plain.specs.MemberView.{Numbers}
use Rattle.co_plain.specs.Moves.{Move, Operate, CommitLocally, RecordYes, Decide, RecordAck, AskEnd, Guard, GuardsHold, effect, all_effects, entered_reply, marked_over, session_by_member, record_yes, record_ack, entry_at, with_decision, local_state}
use Rattle.co_plain.specs.Premises.{AreTrueVerdicts, IsTrueVerdict}
use Rattle.co_plain.specs.Promises.{AreDecidedOnce}
use Rattle.co_plain.specs.Runs.{run}
use Rattle.co_plain.specs.Sessions.{count_at}
use Rattle.co_plain.specs.Step.{step}
use Rattle.co_law_base.proofs.Facts.{Facts}
use Rattle.co_law_base.proofs.Lookups.{found_holds}
use Rattle.co_law_base.proofs.AtCoord.{keeps_decide}
use Rattle.co_law_moves.specs.EventMoves.{moves_of}
use Rattle.co_law_moves.proofs.MoveByMove.{move_keeps}
use Rattle.co_law_moves.proofs.MoveOnward.{move_onward}
use Rattle.co_law_moves.proofs.StepsMade.{event_made}
use Rattle.co_law.proofs.AllBack.{all_back}
use Rattle.co_law.proofs.AllFacts.{AllFacts, all_move, all_step}
use Rattle.co_law_snapshot.specs.Snapshot.{decided_among}
use Rattle.co_law_snapshot.proofs.Steady.{nowhere}

-- a move decides nothing, or one more transaction that was begun before
abbrev Decides : Federation → List Decided → Type 0
Decides s ds = (ds ≡ s.decided) ⊎ ((d : Decided) × (ds ≡ d ∷ s.decided) × (holds s.sessions d.txn ≡ true))

move_decides : (s : Federation) → Facts s → (move : Move) → Guard s move → Decides s (effect s move).decided
move_decides s f (Operate t m o) g = by (look s.sessions t)
  where
    by : (p : Option Session) → Decides s (with_member (entered_reply s t m o p) m (with_engine (s.member m) (with_operation (s.member m).engine t o))).decided
    by None = inl refl
    by (Some session) = inl refl
move_decides s f (CommitLocally t m) g = by (look s.sessions t) refl g.0
  where
    by : (p : Option Session) → look s.sessions t ≡ p → session_by_member p m →
        Decides s (with_decision (with_member (marked_over s t p) m (local_state (s.member m) t (count_at (told_of s t) m))) t).decided
    by None e h = absurd h
    by (Some session) e h = inr (_, refl, found_holds s.sessions t session e)
move_decides s f (Decide t c) g =
    inr (_, refl, (keeps_decide s f t c g).numbers.decided_begun t (or_left (t == t) (is_decided s.decided t) (eq-eqb t t refl)))
move_decides s f (RecordYes t c m) g = by (entry_at s t c)
  where
    by : (o : Option Entry) → Decides s (record_yes s t c m o).decided
    by None = inl refl
    by (Some entry.Idle) = inl refl
    by (Some (entry.Collecting parts yeses)) = inl refl
    by (Some (entry.Committed members acks)) = inl refl
move_decides s f (RecordAck t c m) g = by (entry_at s t c)
  where
    by : (o : Option Entry) → Decides s (record_ack s t c m o).decided
    by None = inl refl
    by (Some entry.Idle) = inl refl
    by (Some (entry.Collecting parts yeses)) = inl refl
    by (Some (entry.Committed members acks)) = inl refl
move_decides s f (AskEnd t) g = by (look s.sessions t)
  where
    by : (p : Option Session) → Decides s (marked_over s t p).decided
    by None = inl refl
    by (Some session) = inl refl
move_decides s f _ g = inl refl

-- the transactions of these numbers are installed at the member
abbrev pub AreInstalled : Federation → ℕ → Numbers → Type 0
AreInstalled s m numbers = (t : ℕ) → holds numbers t ≡ true → holds (s.member m).committed t ≡ true

-- one more state, in which the same ones are decided among them
record GoesOn (s z : Federation) (m : ℕ) (numbers : Numbers) : Type 0 where
  same : decided_among numbers z.decided ≡ decided_among numbers s.decided
  installed : AreInstalled z m numbers

move_goes_on : (s : Federation) → Facts s → (move : Move) → Guard s move → (m : ℕ) (numbers : Numbers) → AreInstalled s m numbers → GoesOn s (effect s move) m numbers
move_goes_on s f move g m numbers k =
    record {
      same = by (move_decides s f move g);
      installed = λ t h. (move_onward s f move g).committed m t (k t h);
    }
  where
    by : Decides s (effect s move).decided → decided_among numbers (effect s move).decided ≡ decided_among numbers s.decided
    by (inl e) = ap (decided_among numbers) e
    by (inr p) = ap (decided_among numbers) p.1 ∙ ap (λ b. cond b (p.0 ∷ decided_among numbers s.decided) (decided_among numbers s.decided)) new
      where
        undecided : is_decided s.decided p.0.txn ≡ false
        undecided = (subst AreDecidedOnce p.1 (move_keeps s f move g).numbers.once).0

        new : holds numbers p.0.txn ≡ false
        new =
            false_from_ne_true (holds numbers p.0.txn)
            (λ h. let z : true ≡ false = sym (k p.0.txn h) ∙ nowhere s f p.0.txn p.2 undecided m Memory in cc)

moves_go_on : (moves : List Move) (s : Federation) → AllFacts s → GuardsHold moves s → (m : ℕ) (numbers : Numbers) → AreInstalled s m numbers → GoesOn s (all_effects moves s) m numbers
moves_go_on [] s a g m numbers k = record { same = refl; installed = k }
moves_go_on (move ∷ moves) s a g m numbers k =
    let first = move_goes_on s a.facts move g.0 m numbers k in
    let rest = moves_go_on moves (effect s move) (all_move s a move g.0) g.1 m numbers first.installed in
    record { same = rest.same ∙ first.same; installed = rest.installed }

step_goes_on : (s : Federation) → AllFacts s → (h : Happening) → IsTrueVerdict s h → (m : ℕ) (numbers : Numbers) → AreInstalled s m numbers → GoesOn s (step s h).state m numbers
step_goes_on s a (happening.Line e) v m numbers k =
    let made = event_made s a.facts (happening.Line e) (λ q. let z : happening.Line e ≡ happening.Disarm = q in cc) v in
    subst (λ z. GoesOn s z m numbers) made.same (moves_go_on (moves_of s (happening.Line e)) s a made.guards m numbers k)
step_goes_on s a (happening.Hand t n commit) v m numbers k =
    let made = event_made s a.facts (happening.Hand t n commit) (λ q. let z : happening.Hand t n commit ≡ happening.Disarm = q in cc) v in
    subst (λ z. GoesOn s z m numbers) made.same (moves_go_on (moves_of s (happening.Hand t n commit)) s a made.guards m numbers k)
step_goes_on s a happening.Disarm v m numbers k = record { same = refl; installed = k }

run_goes_on : (hs : List Happening) (s : Federation) → AllFacts s → AreTrueVerdicts hs s → (m : ℕ) (numbers : Numbers) → AreInstalled s m numbers → GoesOn s (run hs s) m numbers
run_goes_on [] s a v m numbers k = record { same = refl; installed = k }
run_goes_on (h ∷ hs) s a v m numbers k =
    let first = step_goes_on s a h v.0 m numbers k in
    let rest = run_goes_on hs (step s h).state (all_step s a h v.0) v.1 m numbers first.installed in
    record { same = rest.same ∙ first.same; installed = rest.installed }

pub later_among : (s : Federation) → AllFacts s → (more : List Happening) → AreTrueVerdicts more s → (m : ℕ) →
    decided_among (s.member m).committed (run more s).decided ≡ decided_among (s.member m).committed s.decided
later_among s a more v m = (run_goes_on more s a v m (s.member m).committed (λ t h. h)).same

pub later_decided : (s : Federation) (more : List Happening) (m : ℕ) → AllInvariants s → AreTrueVerdicts more s →
    decided_among (s.member m).committed (run more s).decided ≡ decided_among (s.member m).committed s.decided
later_decided s more m i v = later_among s (all_back s i) more v m
