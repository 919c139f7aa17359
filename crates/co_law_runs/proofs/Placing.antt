-- Where in a run its decisions and operations are done.
use Rattle.std.proofs.Common.{◌≡◌, ◌⊎◌, inl, inr, ℕ, Bool, true, false, ◌≤◌, List, [], ◌∷◌, ◌++◌, Option, None, Some, refl, sym, ap, ◌∙◌, subst, arith}
use Rattle.std.proofs.lemmas.Bool.{false_from_ne_true}
use Rattle.co_base.specs.declared.head.Kind.{Kind}
use Rattle.co_base.specs.declared.node.Node.{Node}
use Rattle.co_base.specs.declared.node.Node.TheVariants as node
use Rattle.co_base.specs.declared.op.Op.{Op}
use Rattle.co_state.specs.Table.{look, holds}
use Rattle.co_plain.specs.Numbers.{has_number}
use Rattle.co_plain.specs.Sessions.{count_at}
use Rattle.co_plain.specs.Federation.{Federation}
use Rattle.co_plain.specs.Decisions.{told_of}
use Rattle.co_plain.specs.CommitmentOrder.{Trace, Operated, Committed, decides_at, decisions_in, installs, OperatedIn, WritesKey}
use Rattle.co_plain.specs.Invariants.{Memory}
use Rattle.co_plain.specs.Member.{coord_of}
use Rattle.co_plain.specs.Moves.{Operate, Install, CommitLocally, Decide, Guard, effect}
use Rattle.co_law_base.proofs.Facts.{rest_of, belongs, Facts}
use Rattle.co_law_base.proofs.LogMoves.{local_apart}
use Rattle.co_law_moves.proofs.Standings.{votes_own}
use Rattle.co_law_moves.proofs.Onward.{Onward}
use Rattle.co_law_runs.proofs.Acts.{Act, Moves, after_act, act_guard, acts_trace, run_acts, ActsHold, act_keeps, acts_keep, acts_more, hold_parts, trace_more, Placed, placed}
use Rattle.co_law_runs.proofs.Deciders.{committed_at, decider_in, decided_in, decided_number, homed_session, same_home}
use Rattle.co_law_runs.proofs.TraceStates.{Traced}
use Rattle.co_law_runs.proofs.Traced.{acts_traced}
use Rattle.co_law_runs.proofs.ToldOn.{ToldOn, writes_told}
use Rattle.co_law_runs.proofs.Orders.{has_decided, committed_stands, decide_act, member_act, operate_act, Places, Same, First, Second, places}
use Rattle.co_law_runs.proofs.AtDecision.{Fresh, decision, decision_tells, decision_decides, between, counts_now, onward, told, writes_now}

module _ (kinds : List Kind) (s : Federation) (fresh : Fresh kinds s) (acts : List Act) (g : ActsHold acts s) where
  abbrev whole : List Trace
  whole = acts_trace acts s

  pub hold : (front back : List Act) → acts ≡ front ++ back → ActsHold front s
  hold front back e = (between acts s g front back e).before

  pub facts_at : (front back : List Act) → acts ≡ front ++ back → Facts (run_acts front s)
  facts_at front back e = acts_keep front s fresh.facts (hold front back e)

  pub traced_at : (front back : List Act) → acts ≡ front ++ back → Traced (acts_trace front s) (run_acts front s)
  traced_at front back e = acts_traced front s fresh.facts [] fresh.traced (hold front back e)

  -- a decision, as an act
  pub record DecidedAt (t : ℕ) : Type 0 where
    pub front : List Act
    pub back : List Act
    pub at : Node
    pub place : acts ≡ front ++ Moves (decision at t) ∷ back
    pub home : decides_at (decider_in whole t) at ≡ true

  -- an answered operation, as an act
  pub record DoneAt (t m : ℕ) (o : Op) (before : List Trace) : Type 0 where
    pub front : List Act
    pub back : List Act
    pub place : acts ≡ front ++ Moves (Operate t m o) ∷ back
    pub first : acts_trace front s ≡ before

  pub traced_all : Traced whole (run_acts acts s)
  traced_all = acts_traced acts s fresh.facts [] fresh.traced g

  -- who is decided at a member is not installed there as one of a coordinator
  not_installed : (t m : ℕ) → decides_at (decider_in whole t) (node.Member m) ≡ true → (front back : List Act) → acts ≡ front ++ Moves (Install t m) ∷ back → ⊥
  not_installed t m d front back e = now (decider_in whole t) refl d
    where
      z : Federation
      z = run_acts front s

      h : ActsHold (Moves (Install t m) ∷ back) z
      h = (between acts s g front (Moves (Install t m) ∷ back) e).after

      fz : Facts z
      fz = facts_at front (Moves (Install t m) ∷ back) e

      theirs : belongs (rest_of z) t (coord_of (z.member m) t)
      theirs = ((fz.members m).views Memory).named t (coord_of (z.member m) t) (votes_own z m t h.0.0)

      last : Onward z (run_acts acts s)
      last = subst (Onward z) (sym (ap (λ x. run_acts x s) e ∙ acts_more front (Moves (Install t m) ∷ back) s)) (onward (Moves (Install t m) ∷ back) z fz h)

      now : (o : Option Node) → decider_in whole t ≡ o → decides_at o (node.Member m) ≡ true → ⊥
      now None q k = let y : false ≡ true = k in cc
      now (Some by) q k =
          let p = homed_session (look (run_acts acts s).sessions t) by (traced_all.by_some t by q) in
          local_apart (run_acts acts s) (acts_keep acts s fresh.facts g).numbers t (coord_of (z.member m) t) m p.0 (last.belongs_on t (coord_of (z.member m) t) theirs) p.1
          (p.2 ∙ same_home by (node.Member m) k)

  pub decided_at : (t : ℕ) → has_number (decided_in whole whole) t ≡ true → DecidedAt t
  decided_at t h = by (has_decided whole whole t h)
    where
      made : (at : Node) → decides_at (decider_in whole t) at ≡ true → (before : List Trace) (q : Placed acts s before (Committed at t)) → q.act ≡ Moves (decision at t)
      made (node.Coord c) d before q = decide_act (run_acts q.front s) q.act t c q.here
      made (node.Member m) d before q = now (member_act (run_acts q.front s) q.act t m q.here)
        where
          now : (q.act ≡ Moves (CommitLocally t m)) ⊎ (q.act ≡ Moves (Install t m)) → q.act ≡ Moves (CommitLocally t m)
          now (inl e) = e
          now (inr e) = absurd (not_installed t m d q.front q.back (q.whole ∙ ap (λ a. q.front ++ a ∷ q.back) e))

      by : (at : Node) × (decides_at (decider_in whole t) at ≡ true) × (committed_at whole at t ≡ true) → DecidedAt t
      by p =
          let stood = committed_stands whole p.0 t p.2 in
          let q = placed acts s stood.before (Committed p.0 t) stood.rest stood.place in
          record { front = q.front; back = q.back; at = p.0; place = q.whole ∙ ap (λ a. q.front ++ a ∷ q.back) (made p.0 p.1 stood.before q); home = p.1 }

  pub done_at : (t m : ℕ) (o : Op) (before : List Trace) → OperatedIn whole t m o before → DoneAt t m o before
  done_at t m o before x =
      let q = placed acts s before (Operated t m o x.reply) x.rest x.place in
      record { front = q.front; back = q.back; place = q.whole ∙ ap (λ a. q.front ++ a ∷ q.back) (operate_act (run_acts q.front s) q.act t m o x.reply q.here); first = q.first }

  -- from one state to a later one
  pub record Reach (z w : Federation) : Type 0 where
    pub mid : List Act
    pub facts : Facts z
    pub guarded : ActsHold mid z
    pub leaves : run_acts mid z ≡ w

  pub record StepTo (front : List Act) (a : Act) (w : Federation) : Type 0 where
    pub guard : act_guard (run_acts front s) a
    pub reach : Reach (after_act (run_acts front s) a) w

  pub step_to : (front back later rest : List Act) (a : Act) → acts ≡ front ++ a ∷ back → acts ≡ later ++ rest → (mid : List Act) → later ≡ front ++ a ∷ mid → StepTo front a (run_acts later s)
  step_to front back later rest a e k mid q =
      let h = hold_parts front (a ∷ mid) s (subst (λ x. ActsHold x s) q (hold later rest k)) in
      record {
        guard = h.1.0;
        reach = record {
          mid = mid;
          facts = act_keeps (run_acts front s) (facts_at front (a ∷ back) e) a h.1.0;
          guarded = h.1.1;
          leaves = sym (ap (λ x. run_acts x s) q ∙ acts_more front (a ∷ mid) s);
        };
      }

  pub reach_onward : (z w : Federation) → Reach z w → Onward z w
  reach_onward z w r = subst (Onward z) r.leaves (onward r.mid z r.facts r.guarded)

  pub reach_told : (z w : Federation) → Reach z w → ToldOn z w
  reach_told z w r = subst (ToldOn z) r.leaves (told r.mid z r.facts r.guarded)

  -- a decision is no operation, and is of one transaction
  abbrev is_operate : Act → Bool
  is_operate (Moves (Operate t m o)) = true
  is_operate _ = false

  abbrev pub decided_txn : Act → ℕ
  decided_txn (Moves (Decide t c)) = t
  decided_txn (Moves (CommitLocally t m)) = t
  decided_txn _ = 0

  no_operation : (at : Node) (t u m : ℕ) (o : Op) → Moves (Operate u m o) ≡ Moves (decision at t) → ⊥
  no_operation (node.Coord c) t u m o e = let z : true ≡ false = ap is_operate e in cc
  no_operation (node.Member k) t u m o e = let z : true ≡ false = ap is_operate e in cc

  pub decided_txn_is : (at : Node) (t : ℕ) → decided_txn (Moves (decision at t)) ≡ t
  decided_txn_is (node.Coord c) t = refl
  decided_txn_is (node.Member m) t = refl

  -- the trace of a front in which a decision stands
  pub tells_decision : (later front mid : List Act) (t : ℕ) (at : Node) → later ≡ front ++ Moves (decision at t) ∷ mid →
      acts_trace later s ≡ acts_trace front s ++ Committed at t ∷ acts_trace mid (effect (run_acts front s) (decision at t))
  tells_decision later front mid t at e =
      ap (λ k. acts_trace k s) e ∙ trace_more front (Moves (decision at t) ∷ mid) s
      ∙ ap (λ k. acts_trace front s ++ (k ++ acts_trace mid (effect (run_acts front s) (decision at t)))) (decision_tells (run_acts front s) at t)

  -- an operation that was answered before the decision
  pub before_decision : (t m : ℕ) (o : Op) (before : List Trace) (d : DecidedAt t) (x : DoneAt t m o before) → has_number (decisions_in before) t ≡ false → StepTo x.front (Moves (Operate t m o)) (run_acts d.front s)
  before_decision t m o before d x n = by (places x.front (Moves (Operate t m o)) x.back d.front (Moves (decision d.at t)) d.back (sym x.place ∙ d.place))
    where
      by : Places x.front (Moves (Operate t m o)) d.front (Moves (decision d.at t)) → StepTo x.front (Moves (Operate t m o)) (run_acts d.front s)
      by (Same e) = absurd (no_operation d.at t t m o e)
      by (First mid e) = step_to x.front x.back d.front (Moves (decision d.at t) ∷ d.back) (Moves (Operate t m o)) x.place d.place mid e
      by (Second mid e) =
          let to = step_to d.front d.back x.front (Moves (Operate t m o) ∷ x.back) (Moves (decision d.at t)) d.place x.place mid e in
          let z : true ≡ false =
          sym (decided_number (run_acts x.front s).decided t ((reach_onward (effect (run_acts d.front s) (decision d.at t)) (run_acts x.front s) to.reach).decided t (decision_decides (run_acts d.front s) d.at t)))
          ∙ sym (ap (λ k. has_number k t) (traced_at x.front (Moves (Operate t m o) ∷ x.back) x.place).decisions) ∙ ap (λ k. has_number (decisions_in k) t) x.first ∙ n in
          absurd (let y : true ≡ false = z in cc)

  pub guard_at : (t : ℕ) (d : DecidedAt t) → Guard (run_acts d.front s) (decision d.at t)
  guard_at t d = (between acts s g d.front (Moves (decision d.at t) ∷ d.back) d.place).after.0

  pub decided_facts : (t : ℕ) (d : DecidedAt t) → Facts (run_acts d.front s)
  decided_facts t d = facts_at d.front (Moves (decision d.at t) ∷ d.back) d.place

  -- a write and a read before the decision, at the decision
  pub written : (t m : ℕ) (key : List ℕ) (d : DecidedAt t) → WritesKey whole t m key → (writes_told (run_acts d.front s) t m key ≡ true) × (1 ≤ count_at (told_of (run_acts d.front s) t) m)
  written t m key d w = by (done_at t m w.o w.before w.operated)
    where
      by : DoneAt t m w.o w.before → (writes_told (run_acts d.front s) t m key ≡ true) × (1 ≤ count_at (told_of (run_acts d.front s) t) m)
      by x =
          let to = before_decision t m w.o w.before d x w.operated.undecided in
          let f = facts_at x.front (Moves (Operate t m w.o) ∷ x.back) x.place in
          let z = effect (run_acts x.front s) (Operate t m w.o) in
          let one = counts_now (run_acts x.front s) f t m w.o to.guard in
          let more = (reach_onward z (run_acts d.front s) to.reach).counts t m in
          ((reach_told z (run_acts d.front s) to.reach).writes t m key (writes_now (run_acts x.front s) f t m w.o w.change key to.guard w.writes w.same), omega (arith, one, more))

  -- who is not installed in a trace is not committed
  pub not_committed : (front back : List Act) → acts ≡ front ++ back → (m u : ℕ) → installs (acts_trace front s) m u ≡ false → holds (run_acts front s).used u ≡ false → holds ((run_acts front s).member m).committed u ≡ false
  not_committed front back e m u none unused = false_from_ne_true _ (λ c. by ((traced_at front back e).was_installed u m c))
    where
      by : (installs (acts_trace front s) m u ≡ true) ⊎ (holds (run_acts front s).used u ≡ true) → ⊥
      by (inl i) = let z : true ≡ false = sym i ∙ none in cc
      by (inr i) = let z : true ≡ false = sym i ∙ unused in cc
