-- Which events decide a transaction, and what none changes.
use Rattle.std.proofs.Common.{◌≡◌, ◌≢◌, ℕ, Bool, true, false, ◌||◌, List, [], ◌∷◌, Option, None, Some, refl, sym, ap, ◌∙◌, subst}
use Rattle.co_base.specs.declared.head.Kind.{Kind}
use Rattle.co_message.specs.declared.event.Event.{Event}
use Rattle.co_state.specs.Table.{look}
use Rattle.co_plain.specs.AllInvariants.{AllInvariants}
use Rattle.co_plain.specs.declared.coord_state.Entry.{Entry}
use Rattle.co_plain.specs.declared.coord_state.Entry.TheVariants as entry
use Rattle.co_plain.specs.declared.happening.Happening.{Happening}
use Rattle.co_plain.specs.declared.happening.Happening.TheVariants as happening
use Rattle.co_plain.specs.declared.session.Session.{Session}
use Rattle.co_plain.specs.Decisions.{is_decided, told_of}
use Rattle.co_plain.specs.Federation.{Federation, with_member}
use Rattle.co_plain.specs.Member.{coord_of}
use Rattle.co_plain.specs.MemberStep.{with_engine}
use Rattle.co_plain.specs.Moves.{Move, Operate, CommitLocally, RecordYes, RecordAck, AskEnd, effect, all_effects, entered_reply, marked_over, with_decision, local_state, entry_at, record_yes, record_ack}
use Rattle.co_plain.specs.Opening.{Found, opened}
use Rattle.co_plain.specs.Premises.{AreOpenable, AreTrueVerdicts, IsTrueVerdict}
use Rattle.co_plain.specs.Runs.{run}
use Rattle.co_plain.specs.Sessions.{count_at}
use Rattle.co_plain.specs.Step.{step, step_line}
use Rattle.co_state.specs.Effects.{with_operation}
use Rattle.co_law_moves.specs.EventMoves.{moves_of, line_moves, decision_moves}
use Rattle.co_law_moves.specs.MoveTraces.{IsItsMoves}
use Rattle.co_law_node.specs.Causes.{Exactly}
use Rattle.co_law.proofs.EveryEvent.{every_event}
use Rattle.co_law.proofs.EveryInvariant.{start_invariants, step_invariants}
use Rattle.co_law_exact.specs.Deciding.{HasNodesOf, IsDecidedBy}
use Rattle.co_law_exact.proofs.QuietMoves.{is_deciding, decides_in, up_quiet, decision_quiet}
use Rattle.co_law_exact.proofs.DecidingMoves.{moves_exact}

-- what a move does to the decisions, and what it leaves
record MoveLeaves (s : Federation) (move : Move) (z : Federation) : Type 0 where
  decided : (t : ℕ) → is_decided z.decided t ≡ (is_deciding t move || is_decided s.decided t)
  used : z.used ≡ s.used
  kinds : z.kinds ≡ s.kinds
  coordinators : z.coordinators ≡ s.coordinators

move_leaves : (s : Federation) (move : Move) → MoveLeaves s move (effect s move)
move_leaves s (Operate t m o) = by (look s.sessions t)
  where
    by : (z : Option Session) → MoveLeaves s (Operate t m o) (with_member (entered_reply s t m o z) m (with_engine (s.member m) (with_operation (s.member m).engine t o)))
    by None = record { decided = λ u. refl; used = refl; kinds = refl; coordinators = refl }
    by (Some session) = record { decided = λ u. refl; used = refl; kinds = refl; coordinators = refl }
move_leaves s (CommitLocally t m) = by (look s.sessions t)
  where
    by : (z : Option Session) → MoveLeaves s (CommitLocally t m) (with_decision (with_member (marked_over s t z) m (local_state (s.member m) t (count_at (told_of s t) m))) t)
    by None = record { decided = λ u. refl; used = refl; kinds = refl; coordinators = refl }
    by (Some session) = record { decided = λ u. refl; used = refl; kinds = refl; coordinators = refl }
move_leaves s (RecordYes t c m) = by (entry_at s t c)
  where
    by : (o : Option Entry) → MoveLeaves s (RecordYes t c m) (record_yes s t c m o)
    by None = record { decided = λ u. refl; used = refl; kinds = refl; coordinators = refl }
    by (Some entry.Idle) = record { decided = λ u. refl; used = refl; kinds = refl; coordinators = refl }
    by (Some (entry.Collecting parts yeses)) = record { decided = λ u. refl; used = refl; kinds = refl; coordinators = refl }
    by (Some (entry.Committed members acks)) = record { decided = λ u. refl; used = refl; kinds = refl; coordinators = refl }
move_leaves s (RecordAck t c m) = by (entry_at s t c)
  where
    by : (o : Option Entry) → MoveLeaves s (RecordAck t c m) (record_ack s t c m o)
    by None = record { decided = λ u. refl; used = refl; kinds = refl; coordinators = refl }
    by (Some entry.Idle) = record { decided = λ u. refl; used = refl; kinds = refl; coordinators = refl }
    by (Some (entry.Collecting parts yeses)) = record { decided = λ u. refl; used = refl; kinds = refl; coordinators = refl }
    by (Some (entry.Committed members acks)) = record { decided = λ u. refl; used = refl; kinds = refl; coordinators = refl }
move_leaves s (AskEnd t) = by (look s.sessions t)
  where
    by : (z : Option Session) → MoveLeaves s (AskEnd t) (marked_over s t z)
    by None = record { decided = λ u. refl; used = refl; kinds = refl; coordinators = refl }
    by (Some session) = record { decided = λ u. refl; used = refl; kinds = refl; coordinators = refl }
move_leaves s _ = record { decided = λ u. refl; used = refl; kinds = refl; coordinators = refl }

-- and so do moves one after another
all_decided : (moves : List Move) (s : Federation) (t : ℕ) → is_decided (all_effects moves s).decided t ≡ (decides_in t moves || is_decided s.decided t)
all_decided [] s t = refl
all_decided (move ∷ moves) s t =
    all_decided moves (effect s move) t ∙ ap (λ b. decides_in t moves || b) ((move_leaves s move).decided t) ∙ turned (decides_in t moves) (is_deciding t move) (is_decided s.decided t)
  where
    turned : (a b c : Bool) → (a || (b || c)) ≡ ((b || a) || c)
    turned true true c = refl
    turned true false c = refl
    turned false true c = refl
    turned false false c = refl

all_leave : (moves : List Move) (s : Federation) → HasNodesOf s (all_effects moves s)
all_leave [] s = record { used = refl; kinds = refl; coordinators = refl }
all_leave (move ∷ moves) s =
    let a = move_leaves s move in
    let b = all_leave moves (effect s move) in
    record { used = b.used ∙ a.used; kinds = b.kinds ∙ a.kinds; coordinators = b.coordinators ∙ a.coordinators }

no_disarm : (e : Event) → happening.Line e ≢ happening.Disarm
no_disarm e h = let z : true ≡ false = ap is_line h in cc
  where
    is_line : Happening → Bool
    is_line (happening.Line e) = true
    is_line (happening.Hand t m commit) = true
    is_line happening.Disarm = false

no_disarm_hand : (t m : ℕ) (commit : Bool) → happening.Hand t m commit ≢ happening.Disarm
no_disarm_hand t m commit h = let z : true ≡ false = ap is_hand h in cc
  where
    is_hand : Happening → Bool
    is_hand (happening.Line e) = true
    is_hand (happening.Hand t m commit) = true
    is_hand happening.Disarm = false

pub decided_exactly : (s : Federation) (e : Event) (t : ℕ) → AllInvariants s → is_decided s.decided t ≡ false → Exactly (is_decided (step_line s e).state.decided t ≡ true) (IsDecidedBy s t e)
decided_exactly s e t i n = (λ h. x.0 (sym same ∙ h), λ p. same ∙ x.1 p)
  where
    x : Exactly (decides_in t (line_moves s e) ≡ true) (IsDecidedBy s t e)
    x = moves_exact t s e

    made : IsItsMoves s (happening.Line e)
    made = every_event s (happening.Line e) i tt (no_disarm e)

    or_false : (a : Bool) → (a || false) ≡ a
    or_false true = refl
    or_false false = refl

    same : is_decided (step_line s e).state.decided t ≡ decides_in t (line_moves s e)
    same =
        sym (ap (λ z. is_decided z.decided t) made.leaves) ∙ all_decided (line_moves s e) s t ∙ ap (λ b. decides_in t (line_moves s e) || b) n
        ∙ or_false (decides_in t (line_moves s e))

pub handed_decides_nothing : (s : Federation) (t m u : ℕ) (commit : Bool) → AllInvariants s → IsTrueVerdict s (happening.Hand t m commit) →
    is_decided (step s (happening.Hand t m commit)).state.decided u ≡ is_decided s.decided u
handed_decides_nothing s t m u commit i v =
    sym (ap (λ z. is_decided z.decided u) (every_event s (happening.Hand t m commit) i v (no_disarm_hand t m commit)).leaves)
    ∙ all_decided (moves_of s (happening.Hand t m commit)) s u
    ∙ ap (λ b. b || is_decided s.decided u) (up_quiet u (s.member m).up (decision_moves (s.member m) t m (coord_of (s.member m) t) commit) (decision_quiet u (s.member m) t m (coord_of (s.member m) t) commit))

step_leaves : (s : Federation) (h : Happening) → AllInvariants s → IsTrueVerdict s h → HasNodesOf s (step s h).state
step_leaves s (happening.Line e) i v = subst (HasNodesOf s) (every_event s (happening.Line e) i v (no_disarm e)).leaves (all_leave (line_moves s e) s)
step_leaves s (happening.Hand t m commit) i v =
    subst (HasNodesOf s) (every_event s (happening.Hand t m commit) i v (no_disarm_hand t m commit)).leaves (all_leave (moves_of s (happening.Hand t m commit)) s)
step_leaves s happening.Disarm i v = record { used = refl; kinds = refl; coordinators = refl }

run_leaves : (hs : List Happening) (s : Federation) → AllInvariants s → AreTrueVerdicts hs s → HasNodesOf s (run hs s)
run_leaves [] s i v = record { used = refl; kinds = refl; coordinators = refl }
run_leaves (h ∷ hs) s i v =
    let a = step_leaves s h i v.0 in
    let b = run_leaves hs (step s h).state (step_invariants s h i v.0) v.1 in
    record { used = b.used ∙ a.used; kinds = b.kinds ∙ a.kinds; coordinators = b.coordinators ∙ a.coordinators }

pub numbers_stay : (kinds : List Kind) (coords : ℕ) (fm fc : ℕ → Found) (hs : List Happening) → AreOpenable kinds coords fm fc → AreTrueVerdicts hs (opened kinds coords fm fc) →
    HasNodesOf (opened kinds coords fm fc) (run hs (opened kinds coords fm fc))
numbers_stay kinds coords fm fc hs g v = run_leaves hs (opened kinds coords fm fc) (start_invariants kinds coords fm fc g) v
