-- A member that lost a transaction never votes yes on it, nor commits it: an operation or a vote finds fewer kept than told.
use Rattle.std.proofs.Common.{◌≡◌, ◌≢◌, ℕ, Bool, true, false, ◌||◌, ◌&&◌, ◌==◌, ◌≤◌, List, [], ◌∷◌, ◌++◌, Option, None, Some, refl, sym, ap, ◌∙◌, subst, arith}
use Rattle.std.specs.Option.{is_some}
use Rattle.std.proofs.lemmas.Bool.{or_from, or_parts, eqb-true, eqb-false, false_from_ne_true}
use Rattle.co_base.specs.declared.node.Node.{Node}
use Rattle.co_base.specs.declared.node.Node.TheVariants as node
use Rattle.co_base.specs.declared.op.Op.{Op}
use Rattle.co_message.specs.declared.item.ItemKind.{ItemKind}
use Rattle.co_message.specs.declared.item.ItemKind.TheVariants as item
use Rattle.co_message.specs.declared.message.Message.TheVariants as message
use Rattle.co_state.specs.declared.engine_state.Vote.{Vote}
use Rattle.co_state.specs.Changes.{sets_of}
use Rattle.co_state.specs.Effects.{after_cast, install_vote}
use Rattle.co_state.specs.EngineState.{operations_of}
use Rattle.co_state.specs.Table.{look, put, holds}
use Rattle.co_plain.specs.declared.happening.Happening.{Happening}
use Rattle.co_plain.specs.declared.happening.Happening.TheVariants as happening
use Rattle.co_plain.specs.declared.member_state.MemberState.{MemberState}
use Rattle.co_plain.specs.declared.session.Session.{Session}
use Rattle.co_plain.specs.CommitmentOrder.{Trace, Began, Operated, Committed, trace_of}
use Rattle.co_plain.specs.Decisions.{told_of}
use Rattle.co_plain.specs.Federation.{Federation, with_member}
use Rattle.co_plain.specs.Invariants.{Side, Memory, Stable, view, stands}
use Rattle.co_plain.specs.LocalCommit.{local_coord}
use Rattle.co_plain.specs.LogWrite.{generation_of}
use Rattle.co_plain.specs.MemberStep.{with_engine}
use Rattle.co_plain.specs.MemberView.{cast_in, install_in}
use Rattle.co_plain.specs.Moves.{Move, Operate, MarkAsked, Cast, DropActive, DropVoted, Install, CommitLocally, CrashMember, RestartMember, ArmMember, CloseMemberSpare, FillMemberSpare, Begin, Collect, RecordYes, Decide, Leave, RecordAck, End, CrashCoord, RestartCoord, ArmCoord, CloseCoordSpare, FillCoordSpare, BeginLocal, AskEnd, Send, Guard, GuardsHold, effect, entered_reply, marked_over, record_yes, record_ack, cast_state, install_state, local_state}
use Rattle.co_plain.specs.Numbers.{counted, next_generation}
use Rattle.co_plain.specs.Runs.{run}
use Rattle.co_plain.specs.Sessions.{count_at}
use Rattle.co_base.specs.Nodes.{same_node}
use Rattle.co_plain.specs.Step.{disarmed, step}
use Rattle.co_state.specs.Effects.{with_operation}
use Rattle.co_law_base.proofs.Carrying.{at_each}
use Rattle.co_law_base.proofs.Facts.{rest_of, Facts}
use Rattle.co_law_base.proofs.Lookups.{holds_found, look_none, put_here, put_there}
use Rattle.co_law_base.proofs.TwoViews.{memory_to_stable}
use Rattle.co_plain.specs.Premises.{IsTrueVerdict, AreTrueVerdicts}
use Rattle.co_law_moves.proofs.Steps.{step_keeps, run_keeps}
use Rattle.co_law_base.proofs.Filling.{spare_tells}
use Rattle.co_law_moves.specs.EventMoves.{moves_of}
use Rattle.co_law_moves.specs.MoveTraces.{move_trace, moves_trace, told_with, items_along}
use Rattle.co_law_moves.proofs.ByMoves.{step_leaves, run_leaves}
use Rattle.co_law_moves.proofs.MoveByMove.{move_keeps}
use Rattle.co_law_moves.proofs.MoveOnward.{move_onward}
use Rattle.co_law_moves.proofs.Onward.{Onward, nothing_kept, absent_votes, none_without, holds_put_off}
use Rattle.co_law_moves.proofs.StepsMade.{event_made}
use Rattle.co_law_moves.proofs.StepsTold.{step_told}
use Rattle.co_law_runs.specs.Finality.{IsLostAt, StaysLost, tells_yes, tells_commit_at}
use Rattle.co_law_runs.proofs.YesStands.{step_silent}

-- neither active nor in the stable records; so it is not in memory either
record GoneIn (x : MemberState) (t : ℕ) : Type 0 where
  idle : holds x.engine.active t ≡ false
  stable : stands (view Stable x) t ≡ false

record Gone (s : Federation) (t m : ℕ) : Type 0 where
  told : 1 ≤ count_at (told_of s t) m
  here : GoneIn (s.member m) t

memory_gone : (s : Federation) → Facts s → (t m : ℕ) → Gone s t m → stands (view Memory (s.member m)) t ≡ false
memory_gone s f t m g =
    false_from_ne_true _ (λ h. let z : true ≡ false = sym (memory_to_stable (rest_of s) m (s.member m) (f.members m) t h) ∙ g.here.stable in cc)

as_gone : (s : Federation) (t m : ℕ) → IsLostAt s t m → Gone s t m
as_gone s t m l = record { told = l.told; here = record { idle = l.idle; stable = l.nowhere Stable } }

as_lost : (s : Federation) → Facts s → (t m : ℕ) → Gone s t m → IsLostAt s t m
as_lost s f t m g = record { told = g.told; idle = g.here.idle; nowhere = nowhere }
  where
    nowhere : (side : Side) → stands (view side (s.member m)) t ≡ false
    nowhere Memory = memory_gone s f t m g
    nowhere Stable = g.here.stable

module _ (s : Federation) (f : Facts s) (t m : ℕ) (g : Gone s t m) where
  -- other members stay as they are
  at_member : (k : ℕ) (x : MemberState) → (k ≡ m → GoneIn x t) → (z : Federation) → Onward s z → z.member ≡ (with_member s k x).member → Gone z t m
  at_member k x new z o e =
      record {
        told = let more = o.counts t m in let some = g.told in omega (arith, more, some);
        here = subst (λ f. GoneIn (f m) t) (sym e) (at_each (λ j y. j ≡ m → GoneIn y t) s.member k x new (λ j q. subst (λ i. GoneIn (s.member i) t) (sym q) g.here) m refl);
      }

  elsewhere : (z : Federation) → Onward s z → z.member ≡ s.member → Gone z t m
  elsewhere z o e =
      record {
        told = let more = o.counts t m in let some = g.told in omega (arith, more, some);
        here = subst (λ f. GoneIn (f m) t) (sym e) g.here;
      }

  -- the member by its own number
  mine : (k : ℕ) → k ≡ m → GoneIn (s.member k) t
  mine k e = subst (λ i. GoneIn (s.member i) t) (sym e) g.here

  in_memory : (k : ℕ) → k ≡ m → stands (view Memory (s.member k)) t ≡ false
  in_memory k e = subst (λ i. stands (view Memory (s.member i)) t ≡ false) (sym e) (memory_gone s f t m g)

  told_at_it : (k : ℕ) → k ≡ m → 1 ≤ count_at (told_of s t) k
  told_at_it k e = subst (λ i. 1 ≤ count_at (told_of s t) i) (sym e) g.told

  operates : (u k : ℕ) (op : Op) → Guard s (Operate u k op) → k ≡ m → GoneIn (with_engine (s.member k) (with_operation (s.member k).engine u op)) t
  operates u k op h e = record { idle = by (u == t) refl; stable = (mine k e).stable }
    where
      by : (b : Bool) → (u == t) ≡ b → holds (with_operation (s.member k).engine u op).active t ≡ false
      by true q =
          let same : u ≡ t = eqb-true u t q in
          let none : 0 ≡ count_at (told_of s t) k =
          sym (nothing_kept (s.member k).engine u (ap (holds (s.member k).engine.active) same ∙ (mine k e).idle)) ∙ h.1 ∙ ap (λ j. count_at (told_of s j) k) same in
          let some = told_at_it k e in
          absurd (omega (arith, none, some))
      by false q = ap is_some (put_there (s.member k).engine.active u _ t (eqb-false u t q)) ∙ (mine k e).idle

  -- it never votes
  casts_not : (u k c n : ℕ) → Guard s (Cast u k c n) → k ≡ m → u ≡ t → ⊥
  casts_not u k c n h e same =
      let p = f.sent.prepares_count u c k n h.0 in
      absent_votes (s.member k).engine u n h.1 p.1 (ap (holds (s.member k).engine.active) same ∙ (mine k e).idle)

  locally_not : (u k : ℕ) → Guard s (CommitLocally u k) → k ≡ m → u ≡ t → ⊥
  locally_not u k h e same = absent_votes (s.member k).engine u (count_at (told_of s u) k) h.3 h.2 (ap (holds (s.member k).engine.active) same ∙ (mine k e).idle)

  installs_not : (u k : ℕ) → Guard s (Install u k) → k ≡ m → u ≡ t → ⊥
  installs_not u k h e same =
      let z : true ≡ false = sym h.0 ∙ ap (holds (s.member k).engine.voted) same ∙ (or_parts _ _ (in_memory k e)).0 in cc

  casts : (u k c n : ℕ) → Guard s (Cast u k c n) → k ≡ m → GoneIn (cast_state (s.member k) u c n) t
  casts u k c n h e =
      record {
        idle = none_without (s.member k).engine.active u t (mine k e).idle;
        stable = ap (λ v. stands (cast_in v u vote) t) (f.members k).logged ∙ or_from _ _ (holds_put_off (s.member k).engine.voted u vote t (casts_not u k c n h e) ∙ q.0) q.1;
      }
    where
      vote : Vote
      vote = record { coord = c; count = n; sets = sets_of (operations_of (s.member k).engine u) }

      q : (holds (s.member k).engine.voted t ≡ false) × (holds (s.member k).committed t ≡ false)
      q = or_parts _ _ (in_memory k e)

  installs : (u k : ℕ) → Guard s (Install u k) → k ≡ m → GoneIn (install_state (s.member k) u) t
  installs u k h e =
      record {
        idle = ap (λ o. holds (install_vote (s.member k).engine u o).active t) found.1 ∙ (mine k e).idle;
        stable = ap (λ v. stands (install_in v u (look v.voted u)) t) (f.members k).logged
            ∙ ap (λ o. stands (install_in (view Memory (s.member k)) u o) t) found.1
            ∙ or_from _ _ (none_without (s.member k).engine.voted u t q.0) (holds_put_off (s.member k).committed u tt t (installs_not u k h e) ∙ q.1);
      }
    where
      found : (vote : Vote) × (look (s.member k).engine.voted u ≡ Some vote)
      found = holds_found (s.member k).engine.voted u h.0

      q : (holds (s.member k).engine.voted t ≡ false) × (holds (s.member k).committed t ≡ false)
      q = or_parts _ _ (in_memory k e)

  locally : (u k n : ℕ) → (k ≡ m → u ≡ t → ⊥) → k ≡ m → GoneIn (local_state (s.member k) u n) t
  locally u k n apart e =
      record {
        idle = ap (λ o. holds (install_vote (after_cast (s.member k).engine u local_coord (counted n)) u o).active t) (put_here (s.member k).engine.voted u vote)
            ∙ none_without (s.member k).engine.active u t (mine k e).idle;
        stable = ap (λ v. stands (install_in (cast_in v u vote) u (look (put v.voted u vote) u)) t) (f.members k).logged
            ∙ ap (λ o. stands (install_in (cast_in (view Memory (s.member k)) u vote) u o) t) (put_here (s.member k).engine.voted u vote)
            ∙ or_from _ _ (none_without (put (s.member k).engine.voted u vote) u t (holds_put_off (s.member k).engine.voted u vote t (apart e) ∙ q.0))
            (holds_put_off (s.member k).committed u tt t (apart e) ∙ q.1);
      }
    where
      vote : Vote
      vote = record { coord = local_coord; count = counted n; sets = sets_of (operations_of (s.member k).engine u) }

      q : (holds (s.member k).engine.voted t ≡ false) × (holds (s.member k).committed t ≡ false)
      q = or_parts _ _ (in_memory k e)

  move_gone : (move : Move) → Guard s move → Gone (effect s move) t m
  move_gone move h = by move h (move_onward s f move h)
    where
      by : (move : Move) → Guard s move → Onward s (effect s move) → Gone (effect s move) t m
      by (Operate u k op) h o = now (look s.sessions u) refl
        where
          x : MemberState
          x = with_engine (s.member k) (with_operation (s.member k).engine u op)

          now : (z : Option Session) → look s.sessions u ≡ z → Gone (effect s (Operate u k op)) t m
          now None e = at_member k x (operates u k op h) (effect s (Operate u k op)) o (ap (λ z. (with_member (entered_reply s u k op z) k x).member) e)
          now (Some session) e = at_member k x (operates u k op h) (effect s (Operate u k op)) o (ap (λ z. (with_member (entered_reply s u k op z) k x).member) e)
      by (Cast u k c n) h o = at_member k (cast_state (s.member k) u c n) (casts u k c n h) (effect s (Cast u k c n)) o refl
      by (Install u k) h o = at_member k (install_state (s.member k) u) (installs u k h) (effect s (Install u k)) o refl
      by (CommitLocally u k) h o = now (look s.sessions u) refl
        where
          x : MemberState
          x = local_state (s.member k) u (count_at (told_of s u) k)

          now : (z : Option Session) → look s.sessions u ≡ z → Gone (effect s (CommitLocally u k)) t m
          now None e = at_member k x (locally u k (count_at (told_of s u) k) (locally_not u k h)) (effect s (CommitLocally u k)) o (ap (λ z. (with_member (marked_over s u z) k x).member) e)
          now (Some session) e = at_member k x (locally u k (count_at (told_of s u) k) (locally_not u k h)) (effect s (CommitLocally u k)) o (ap (λ z. (with_member (marked_over s u z) k x).member) e)
      by (DropActive u k) h o = at_member k _ (λ e. record { idle = none_without (s.member k).engine.active u t (mine k e).idle; stable = (mine k e).stable }) (effect s (DropActive u k)) o refl
      by (DropVoted u k) h o = at_member k _ (λ e. record { idle = none_without (s.member k).engine.active u t (mine k e).idle; stable = (mine k e).stable }) (effect s (DropVoted u k)) o refl
      by (CrashMember k) h o = at_member k _ (λ e. record { idle = ap is_some (look_none t); stable = (mine k e).stable }) (effect s (CrashMember k)) o refl
      by (FillMemberSpare k) h o =
          at_member k _
          (λ e. record { idle = (mine k e).idle; stable = ap (λ v. stands v t) (spare_tells k (s.member k) (next_generation (generation_of (s.member k).log.stable))) ∙ in_memory k e })
          (effect s (FillMemberSpare k)) o refl
      by (MarkAsked u k c n) h o = at_member k _ (λ e. record { idle = (mine k e).idle; stable = (mine k e).stable }) (effect s (MarkAsked u k c n)) o refl
      by (RestartMember k) h o = at_member k _ (λ e. record { idle = (mine k e).idle; stable = (mine k e).stable }) (effect s (RestartMember k)) o refl
      by (ArmMember k stop) h o = at_member k _ (λ e. record { idle = (mine k e).idle; stable = (mine k e).stable }) (effect s (ArmMember k stop)) o refl
      by (CloseMemberSpare k closed) h o = at_member k _ (λ e. record { idle = (mine k e).idle; stable = (mine k e).stable }) (effect s (CloseMemberSpare k closed)) o refl
      by (Begin u c) h o = elsewhere (effect s (Begin u c)) o refl
      by (Collect u c) h o = elsewhere (effect s (Collect u c)) o refl
      by (RecordYes u c k) h o = elsewhere (effect s (RecordYes u c k)) o (ap (λ z. (record_yes s u c k z).member) h.2)
      by (RecordAck u c k) h o = elsewhere (effect s (RecordAck u c k)) o (ap (λ z. (record_ack s u c k z).member) h.2)
      by (Decide u c) h o = elsewhere (effect s (Decide u c)) o refl
      by (Leave u c) h o = elsewhere (effect s (Leave u c)) o refl
      by (End u c) h o = elsewhere (effect s (End u c)) o refl
      by (CrashCoord c) h o = elsewhere (effect s (CrashCoord c)) o refl
      by (RestartCoord c) h o = elsewhere (effect s (RestartCoord c)) o refl
      by (ArmCoord c stop) h o = elsewhere (effect s (ArmCoord c stop)) o refl
      by (CloseCoordSpare c closed) h o = elsewhere (effect s (CloseCoordSpare c closed)) o refl
      by (FillCoordSpare c) h o = elsewhere (effect s (FillCoordSpare c)) o refl
      by (BeginLocal u k) h o = elsewhere (effect s (BeginLocal u k)) o refl
      by (AskEnd u) h o = now (look s.sessions u) refl
        where
          now : (z : Option Session) → look s.sessions u ≡ z → Gone (effect s (AskEnd u)) t m
          now None e = elsewhere (effect s (AskEnd u)) o (ap (λ z. (marked_over s u z).member) e)
          now (Some session) e = elsewhere (effect s (AskEnd u)) o (ap (λ z. (marked_over s u z).member) e)
      by (Send note) h o = elsewhere (effect s (Send note)) o refl

disarm_gone : (s : Federation) (t m : ℕ) → Gone s t m → Gone (disarmed s) t m
disarm_gone s t m g = record { told = g.told; here = record { idle = g.here.idle; stable = g.here.stable } }

step_gone : (s : Federation) → Facts s → (h : Happening) → IsTrueVerdict s h → (t m : ℕ) → Gone s t m → Gone (step s h).state t m
step_gone =
    step_leaves (λ s z. (t m : ℕ) → Gone s t m → Gone z t m) (λ s t m g. g) (λ s z w p q t m g. q t m (p t m g)) (λ s f move h t m g. move_gone s f t m g move h) (λ s f. disarm_gone s)

-- ---- commit records
unless_both : (a b : Bool) → (a ≡ true → b ≡ true → ⊥) → ((a && b) || false) ≡ false
unless_both true true h = absurd (h refl refl)
unless_both true false h = refl
unless_both false b h = refl

move_tells_none_at : (s : Federation) → Facts s → (t m : ℕ) → Gone s t m → (move : Move) → Guard s move → tells_commit_at (move_trace s move) (node.Member m) t ≡ false
move_tells_none_at s f t m g (Install u k) h = unless_both (k == m) (u == t) (λ a b. installs_not s f t m g u k h (eqb-true k m a) (eqb-true u t b))
move_tells_none_at s f t m g (CommitLocally u k) h = unless_both (k == m) (u == t) (λ a b. locally_not s f t m g u k h (eqb-true k m a) (eqb-true u t b))
move_tells_none_at s f t m g _ h = refl

more_at : (xs ys : List Trace) (at : Node) (t : ℕ) → tells_commit_at xs at t ≡ false → tells_commit_at ys at t ≡ false → tells_commit_at (xs ++ ys) at t ≡ false
more_at [] ys at t p q = q
more_at (Began u by ∷ xs) ys at t p q = more_at xs ys at t p q
more_at (Operated u m o reply ∷ xs) ys at t p q = more_at xs ys at t p q
more_at (Committed by u ∷ xs) ys at t p q =
    let k = or_parts (same_node by at && (u == t)) (tells_commit_at xs at t) p in or_from _ _ k.0 (more_at xs ys at t k.1 q)

moves_tell_none_at : (moves : List Move) (s : Federation) → Facts s → (t m : ℕ) → Gone s t m → GuardsHold moves s → tells_commit_at (moves_trace moves s) (node.Member m) t ≡ false
moves_tell_none_at [] s f t m g h = refl
moves_tell_none_at (move ∷ moves) s f t m g h =
    more_at (move_trace s move) (moves_trace moves (effect s move)) (node.Member m) t (move_tells_none_at s f t m g move h.0)
    (moves_tell_none_at moves (effect s move) (move_keeps s f move h.0) t m (move_gone s f t m g move h.0) h.1)

event_tells_none_at : (s : Federation) → Facts s → (t m : ℕ) → Gone s t m → (h : Happening) → h ≢ happening.Disarm → IsTrueVerdict s h → tells_commit_at (moves_trace (moves_of s h) s) (node.Member m) t ≡ false
event_tells_none_at s f t m g h n v = moves_tell_none_at (moves_of s h) s f t m g (event_made s f h n v).guards

step_tells_none_at : (s : Federation) → Facts s → (t m : ℕ) → Gone s t m → (h : Happening) → IsTrueVerdict s h → tells_commit_at (moves_trace (moves_of s h) s) (node.Member m) t ≡ false
step_tells_none_at s f t m g (happening.Line e) v = event_tells_none_at s f t m g (happening.Line e) (λ n. let z : happening.Line e ≡ happening.Disarm = n in cc) v
step_tells_none_at s f t m g (happening.Hand u k commit) v = event_tells_none_at s f t m g (happening.Hand u k commit) (λ n. let z : happening.Hand u k commit ≡ happening.Disarm = n in cc) v
step_tells_none_at s f t m g happening.Disarm v = refl

run_tells_none_at : (hs : List Happening) (s : Federation) → Facts s → (t m : ℕ) → Gone s t m → AreTrueVerdicts hs s → tells_commit_at (trace_of (items_along hs s)) (node.Member m) t ≡ false
run_tells_none_at [] s f t m g v = refl
run_tells_none_at (h ∷ hs) s f t m g v =
    ap (λ k. tells_commit_at k (node.Member m) t) (step_told s f h (items_along hs (step s h).state))
    ∙ more_at (moves_trace (moves_of s h) s) (trace_of (items_along hs (step s h).state)) (node.Member m) t (step_tells_none_at s f t m g h v.0)
    (run_tells_none_at hs (step s h).state (step_keeps s f h v.0) t m (step_gone s f h v.0 t m g) v.1)

-- ---- yeses
yes_more : (xs ys : List ItemKind) (t m : ℕ) → tells_yes xs t m ≡ false → tells_yes ys t m ≡ false → tells_yes (xs ++ ys) t m ≡ false
yes_more [] ys t m p q = q
yes_more (item.Head a ∷ xs) ys t m p q = yes_more xs ys t m p q
yes_more (item.Event a ∷ xs) ys t m p q = yes_more xs ys t m p q
yes_more (item.Log a ∷ xs) ys t m p q = yes_more xs ys t m p q
yes_more (item.Answered a ∷ xs) ys t m p q = yes_more xs ys t m p q
yes_more (item.Sent (message.Prepare a b c d) ∷ xs) ys t m p q = yes_more xs ys t m p q
yes_more (item.Sent (message.Decide a b c d) ∷ xs) ys t m p q = yes_more xs ys t m p q
yes_more (item.Sent (message.Ask a b c) ∷ xs) ys t m p q = yes_more xs ys t m p q
yes_more (item.Sent (message.Ack a b c) ∷ xs) ys t m p q = yes_more xs ys t m p q
yes_more (item.Sent (message.Vote u k c false) ∷ xs) ys t m p q = yes_more xs ys t m p q
yes_more (item.Sent (message.Vote u k c true) ∷ xs) ys t m p q =
    let z = or_parts ((u == t) && (k == m)) (tells_yes xs t m) p in or_from _ _ z.0 (yes_more xs ys t m z.1 q)

told_yes : (h : Happening) (items : List ItemKind) (t m : ℕ) → tells_yes (told_with h items) t m ≡ tells_yes items t m
told_yes (happening.Line e) items t m = refl
told_yes (happening.Hand u k commit) items t m = refl
told_yes happening.Disarm items t m = refl

run_tells_no_yes : (hs : List Happening) (s : Federation) → Facts s → (t m : ℕ) → Gone s t m → AreTrueVerdicts hs s → tells_yes (items_along hs s) t m ≡ false
run_tells_no_yes [] s f t m g v = refl
run_tells_no_yes (h ∷ hs) s f t m g v =
    let next = step_gone s f h v.0 t m g in
    yes_more (told_with h (step s h).items) (items_along hs (step s h).state) t m
    (told_yes h (step s h).items t m ∙ step_silent s h t m (memory_gone (step s h).state (step_keeps s f h v.0) t m next))
    (run_tells_no_yes hs (step s h).state (step_keeps s f h v.0) t m next v.1)

-- the whole: it stays lost, and in no continuation the member votes yes or commits
pub run_lost : (hs : List Happening) (s : Federation) → Facts s → (t m : ℕ) → IsLostAt s t m → AreTrueVerdicts hs s → StaysLost s hs t m
run_lost hs s f t m l v =
    record {
      lost = as_lost (run hs s) (run_keeps hs s f v) t m
          (run_leaves (λ s z. (t m : ℕ) → Gone s t m → Gone z t m) (λ s t m g. g) (λ s z w p q t m g. q t m (p t m g)) (λ s f move h t m g. move_gone s f t m g move h) (λ s f. disarm_gone s) hs s f v t m (as_gone s t m l));
      no_yes = run_tells_no_yes hs s f t m (as_gone s t m l) v;
      no_commit = run_tells_none_at hs s f t m (as_gone s t m l) v;
    }
