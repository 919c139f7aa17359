-- The run is commitment ordered.
use Rattle.std.proofs.Common.{◌≡◌, ◌≢◌, ◌⊎◌, inl, inr, ℕ, true, false, ◌≤◌, if◌then◌else◌, List, ◌∷◌, ◌++◌, length, Some, refl, sym, ap, ◌∙◌, subst, arith}
use Rattle.std.proofs.lemmas.Bool.{or_cases, or_left, or_parts, and_from, eq-eqb}
use Rattle.co_base.specs.declared.head.Kind.{Kind}
use Rattle.co_base.specs.declared.head.Kind.TheVariants.{Lock, Occ, Mv}
use Rattle.co_base.specs.declared.op.Op.{Op}
use Rattle.co_base.specs.Span.{Span, span_has}
use Rattle.co_state.specs.Table.{look, holds}
use Rattle.co_state.specs.Changes.{span_read}
use Rattle.co_state.specs.EngineState.{operations_of}
use Rattle.co_state.specs.ReadRule.{snapshot_of}
use Rattle.co_plain.specs.Numbers.{has_number}
use Rattle.co_plain.specs.Opening.{kind_of}
use Rattle.co_plain.specs.Sessions.{count_at}
use Rattle.co_plain.specs.Federation.{Federation}
use Rattle.co_plain.specs.Decisions.{told_of, is_decided}
use Rattle.co_plain.specs.CommitmentOrder.{Trace, Committed, decisions_in, installs, before_first, part_seen, sees, ReadsKey, WritesKey, InstalledFirst, Before, Precedes, ReadAfter, ReadBefore, WroteBefore, StandsBefore, Stands}
use Rattle.co_plain.specs.Invariants.{Memory, view, stands}
use Rattle.co_plain.specs.Moves.{Operate, Guard, effect}
use Rattle.co_law_base.proofs.Facts.{rest_of, Here, Facts}
use Rattle.co_law_base.proofs.Carrying.{LivesOn, settled_alive}
use Rattle.co_law_base.proofs.VoteMoves.{active_found}
use Rattle.co_law_moves.proofs.ItemsTold.{more}
use Rattle.co_law_moves.proofs.MoveOnward.{move_onward}
use Rattle.co_law_runs.proofs.Acts.{Act, Moves, acts_trace, run_acts, ActsHold, acts_more, hold_parts, Cut, cut, Fronts, Shorter, Longer, fronts}
use Rattle.co_law_runs.proofs.Deciders.{decided_in, decided_more}
use Rattle.co_law_runs.proofs.TraceStates.{Traced}
use Rattle.co_law_runs.proofs.ToldOn.{ToldOn, act_told, writes_told}
use Rattle.co_law_runs.proofs.Installs.{act_installs}
use Rattle.co_law_runs.proofs.Seen.{Seen, since, read_at, reads_op}
use Rattle.co_law_runs.proofs.Unread.{Unread}
use Rattle.co_law_runs.proofs.KindStays.{act_kinds}
use Rattle.co_law_runs.proofs.Orders.{is_in_order, Places, Same, First, Second, places, FirstAt, first_at, first_installs}
use Rattle.co_law_runs.proofs.AtDecision.{member_now, seen_now, HeadStamp, Fresh, decision, decision_decides, decision_stands, Deciding, deciding, head_grows, heads_stay, installs_stay, kinds_stay, onward, reads_now, told, unread_stays}
use Rattle.co_law_runs.proofs.Placing.{hold, facts_at, traced_at, DecidedAt, DoneAt, traced_all, decided_at, done_at, StepTo, step_to, reach_onward, reach_told, decided_txn, decided_txn_is, tells_decision, before_decision, guard_at, decided_facts, written, not_committed}

module _ (kinds : List Kind) (s : Federation) (fresh : Fresh kinds s) (acts : List Act) (g : ActsHold acts s) where
  -- a read, and an install that it does not see
  unread_now : (t u m : ℕ) (key : List ℕ) (o : Op) (span : Span) (front back : List Act) → acts ≡ front ++ Moves (Operate t m o) ∷ back → span_read o ≡ Some span → span_has span key ≡ true →
      Guard (run_acts front s) (Operate t m o) → holds (effect (run_acts front s) (Operate t m o)).used t ≡ false → holds (effect (run_acts front s) (Operate t m o)).used u ≡ false →
      (k : Kind) → kind_of kinds m ≡ k → installs (part_seen k (acts_trace front s) m t) m u ≡ false → Unread t u m key (effect (run_acts front s) (Operate t m o))
  unread_now t u m key o span front back place reads has gd ut uu = by
    where
      f : Facts (run_acts front s)
      f = (facts_at kinds s fresh acts g) front (Moves (Operate t m o) ∷ back) place

      told' : ToldOn (run_acts front s) (effect (run_acts front s) (Operate t m o))
      told' = act_told (run_acts front s) f (Moves (Operate t m o)) gd

      good : read_at (record { op = o; stamp = snapshot_of ((run_acts front s).member m).engine t } ∷ operations_of ((run_acts front s).member m).engine t) key (snapshot_of ((run_acts front s).member m).engine t) ≡ true
      good = or_left _ _ (and_from _ _ (ap (λ k. reads_op k key) reads ∙ has) (eq-eqb (snapshot_of ((run_acts front s).member m).engine t) (snapshot_of ((run_acts front s).member m).engine t) refl))

      made : (holds ((run_acts front s).member m).committed u ≡ true → since ((run_acts front s).member m).engine.installed (snapshot_of ((run_acts front s).member m).engine t) u ≡ true) →
          (holds ((run_acts front s).member m).engine.voted t ≡ true → holds ((run_acts front s).member m).committed u ≡ true → ⊥) → Unread t u m key (effect (run_acts front s) (Operate t m o))
      made after unvoted =
          record {
            seen = seen_now (λ os τ. read_at os key τ ≡ true) (run_acts front s) f t u m o gd good after;
            read = reads_now (run_acts front s) f t m o span key gd reads has;
            installs = act_installs (run_acts front s) f (Moves (Operate t m o)) gd (installs_stay front s fresh.facts ((hold kinds s fresh acts g) front (Moves (Operate t m o) ∷ back) place) fresh.installs);
            unused_t = ut;
            unused_u = uu;
            voted = λ l v c. absurd (unvoted (ap (λ x. holds x.engine.voted t) (sym (member_now (run_acts front s) t m o)) ∙ v) (ap (λ x. holds x.committed u) (sym (member_now (run_acts front s) t m o)) ∙ c));
          }

      none : holds ((run_acts front s).member m).committed u ≡ false → Unread t u m key (effect (run_acts front s) (Operate t m o))
      none n = made (λ c. absurd (let y : true ≡ false = sym c ∙ n in cc)) (λ v c. let y : true ≡ false = sym c ∙ n in cc)

      unused : holds (run_acts front s).used u ≡ false
      unused = sym (told'.used u) ∙ uu

      unseen : installs (acts_trace front s) m u ≡ false → Unread t u m key (effect (run_acts front s) (Operate t m o))
      unseen i = none ((not_committed kinds s fresh acts g) front (Moves (Operate t m o) ∷ back) place m u i unused)

      -- a multiversion member reads at its first operation
      first : kind_of kinds m ≡ Mv → (before_first (acts_trace front s) m t ≡ acts_trace front s) ⊎ FirstAt front s m t → installs (before_first (acts_trace front s) m t) m u ≡ false → Unread t u m key (effect (run_acts front s) (Operate t m o))
      first e (inl q) i = unseen (ap (λ k. installs k m u) (sym q) ∙ i)
      first e (inr p) i = made (λ c. later.3 c) (λ v c. let y : true ≡ false = sym v ∙ (or_parts _ _ ((f.members m).active t (operations_of ((run_acts front s).member m).engine t) active).apart).0 in cc)
        where
          place' : acts ≡ p.front ++ Moves (Operate t m p.op) ∷ (p.back ++ Moves (Operate t m o) ∷ back)
          place' = place ∙ ap (λ k. k ++ Moves (Operate t m o) ∷ back) p.whole ∙ more p.front (Moves (Operate t m p.op) ∷ p.back) (Moves (Operate t m o) ∷ back)

          to : (StepTo kinds s fresh acts g) p.front (Moves (Operate t m p.op)) (run_acts front s)
          to = (step_to kinds s fresh acts g) p.front (p.back ++ Moves (Operate t m o) ∷ back) front (Moves (Operate t m o) ∷ back) (Moves (Operate t m p.op)) place' place p.back p.whole

          f' : Facts (run_acts p.front s)
          f' = (facts_at kinds s fresh acts g) p.front (Moves (Operate t m p.op) ∷ (p.back ++ Moves (Operate t m o) ∷ back)) place'

          unused' : holds (run_acts p.front s).used u ≡ false
          unused' = sym ((act_told (run_acts p.front s) f' (Moves (Operate t m p.op)) to.guard).used u) ∙ sym (((reach_told kinds s fresh acts g) (effect (run_acts p.front s) (Operate t m p.op)) (run_acts front s) to.reach).used u) ∙ unused

          uncommitted : holds ((run_acts p.front s).member m).committed u ≡ false
          uncommitted = (not_committed kinds s fresh acts g) p.front (Moves (Operate t m p.op) ∷ (p.back ++ Moves (Operate t m o) ∷ back)) place' m u (ap (λ k. installs k m u) (sym p.first) ∙ i) unused'

          kind' : ((effect (run_acts p.front s) (Operate t m p.op)).member m).engine.kind ≡ Mv
          kind' = act_kinds (run_acts p.front s) (Moves (Operate t m p.op)) to.guard m ∙ kinds_stay p.front s fresh.facts ((hold kinds s fresh acts g) p.front (Moves (Operate t m p.op) ∷ (p.back ++ Moves (Operate t m o) ∷ back)) place') m ∙ fresh.kind m ∙ e

          kind : ((run_acts front s).member m).engine.kind ≡ Mv
          kind = kinds_stay front s fresh.facts ((hold kinds s fresh acts g) front (Moves (Operate t m o) ∷ back) place) m ∙ fresh.kind m ∙ e

          heads : Seen HeadStamp t u m (run_acts front s)
          heads =
              subst (Seen HeadStamp t u m) to.reach.leaves
              (heads_stay t u m to.reach.mid (effect (run_acts p.front s) (Operate t m p.op)) to.reach.facts to.reach.guarded kind'
              (seen_now HeadStamp (run_acts p.front s) f' t u m p.op to.guard refl (λ c. absurd (let y : true ≡ false = sym c ∙ uncommitted in cc))))

          active : look ((run_acts front s).member m).engine.active t ≡ Some (operations_of ((run_acts front s).member m).engine t)
          active = active_found ((run_acts front s).member m).engine t (subst (λ k. 1 ≤ k) (sym gd.1) heads.worked)

          old : (τ : ℕ) × HeadStamp (operations_of ((run_acts front s).member m).engine t) τ × (τ ≤ length ((run_acts front s).member m).engine.installed) ×
              (holds ((run_acts front s).member m).committed u ≡ true → since ((run_acts front s).member m).engine.installed τ u ≡ true)
          old = heads.seen (operations_of ((run_acts front s).member m).engine t) active

          same : snapshot_of ((run_acts front s).member m).engine t ≡ old.0
          same = head_grows ((run_acts front s).member m).engine kind t old.0 o (operations_of ((run_acts front s).member m).engine t) active old.1

          later : (τ : ℕ) × (snapshot_of ((run_acts front s).member m).engine t ≡ τ) × (0 ≤ τ) × (holds ((run_acts front s).member m).committed u ≡ true → since ((run_acts front s).member m).engine.installed (snapshot_of ((run_acts front s).member m).engine t) u ≡ true)
          later = (old.0, same, omega arith, λ c. subst (λ τ. since ((run_acts front s).member m).engine.installed τ u ≡ true) (sym same) (old.3 c))

      by : (k : Kind) → kind_of kinds m ≡ k → installs (part_seen k (acts_trace front s) m t) m u ≡ false → Unread t u m key (effect (run_acts front s) (Operate t m o))
      by Lock e i = unseen i
      by Occ e i = unseen i
      by Mv e i = first e (first_at front s m t) i

  -- The later one's decision is at a state in which the other one is decided.
  module _ (t u m : ℕ) (apart : t ≢ u) (dt : (DecidedAt kinds s fresh acts g) t) (du : (DecidedAt kinds s fresh acts g) u) (mid : List Act) (first : dt.front ≡ du.front ++ Moves (decision du.at u) ∷ mid) where
    abbrev last : Federation
    last = run_acts dt.front s

    to_last : (StepTo kinds s fresh acts g) du.front (Moves (decision du.at u)) (run_acts dt.front s)
    to_last = (step_to kinds s fresh acts g) du.front du.back dt.front (Moves (decision dt.at t) ∷ dt.back) (Moves (decision du.at u)) du.place dt.place mid first

    ft : Facts (run_acts dt.front s)
    ft = (decided_facts kinds s fresh acts g) t dt

    dec : Deciding (run_acts dt.front s) t
    dec = deciding (run_acts dt.front s) ft t dt.at ((guard_at kinds s fresh acts g) t dt)

    decided_u : is_decided (run_acts dt.front s).decided u ≡ true
    decided_u = ((reach_onward kinds s fresh acts g) (effect (run_acts du.front s) (decision du.at u)) last to_last.reach).decided u (decision_decides (run_acts du.front s) du.at u)

    begun_u : holds (run_acts dt.front s).sessions u ≡ true
    begun_u = ft.numbers.decided_begun u decided_u

    begun_t : holds (run_acts dt.front s).sessions t ≡ true
    begun_t = dec.begun_now

    unused_t : holds (run_acts dt.front s).used t ≡ false
    unused_t = ft.numbers.new t begun_t

    unused_u : holds (run_acts dt.front s).used u ≡ false
    unused_u = ft.numbers.new u begun_u

    lives_u : LivesOn (rest_of (run_acts dt.front s)) u
    lives_u c b = settled_alive (rest_of last) ft.numbers u c b (Here decided_u)

    uncommitted_t : holds ((run_acts dt.front s).member m).committed t ≡ false
    uncommitted_t = dec.uncommitted m

    -- what u wrote
    wrote_u : (key : List ℕ) → WritesKey (acts_trace acts s) u m key → (writes_told (run_acts dt.front s) u m key ≡ true) × (stands (view Memory ((run_acts dt.front s).member m)) u ≡ true)
    wrote_u key w =
        let p = (written kinds s fresh acts g) u m key du w in
        let z = effect (run_acts du.front s) (decision du.at u) in
        let fu = (decided_facts kinds s fresh acts g) u du in (
          ((reach_told kinds s fresh acts g) z last to_last.reach).writes u m key ((act_told (run_acts du.front s) fu (Moves (decision du.at u)) to_last.guard).writes u m key p.0),
          ((reach_onward kinds s fresh acts g) z last to_last.reach).stand m u lives_u (decision_stands (run_acts du.front s) fu u m du.at to_last.guard p.1),
        )

    -- both wrote one key
    not_both : (key : List ℕ) → WritesKey (acts_trace acts s) t m key → WritesKey (acts_trace acts s) u m key → InstalledFirst (acts_trace acts s) m t u → ⊥
    not_both key wt wu (Before before rest e it iu) = by (or_cases _ _ pu.1)
      where
        pt : (writes_told (run_acts dt.front s) t m key ≡ true) × (1 ≤ count_at (told_of (run_acts dt.front s) t) m)
        pt = (written kinds s fresh acts g) t m key dt wt

        pu : (writes_told (run_acts dt.front s) u m key ≡ true) × (stands (view Memory ((run_acts dt.front s).member m)) u ≡ true)
        pu = wrote_u key wu

        q : Cut acts s before
        q = cut acts s before rest e

        fq : Facts (run_acts q.front s)
        fq = (facts_at kinds s fresh acts g) q.front q.back q.whole

        tq : Traced (acts_trace q.front s) (run_acts q.front s)
        tq = (traced_at kinds s fresh acts g) q.front q.back q.whole

        installed_t : holds ((run_acts q.front s).member m).committed t ≡ true
        installed_t = tq.installed t m (ap (λ k. installs k m t) q.first ∙ it)

        -- the fronts, compared
        compare : holds ((run_acts dt.front s).member m).committed u ≡ true → Fronts q.front dt.front → ⊥
        compare cu (Shorter back k) =
            let h = hold_parts q.front back s (subst (λ x. ActsHold x s) k ((hold kinds s fresh acts g) dt.front (Moves (decision dt.at t) ∷ dt.back) dt.place)) in
            let on = onward back (run_acts q.front s) fq h.1 in
            let c = subst (λ x. holds (x.member m).committed t ≡ true) (sym (ap (λ x. run_acts x s) k ∙ acts_more q.front back s)) (on.committed m t installed_t) in
            let z : true ≡ false = sym c ∙ uncommitted_t in cc
        compare cu (Longer back k) =
            let h = hold_parts dt.front back s (subst (λ x. ActsHold x s) k ((hold kinds s fresh acts g) q.front q.back q.whole)) in
            let on = onward back (run_acts dt.front s) ft h.1 in
            let on' = told back (run_acts dt.front s) ft h.1 in
            let same = ap (λ x. run_acts x s) k ∙ acts_more dt.front back s in
            let c = subst (λ x. holds (x.member m).committed u ≡ true) (sym same) (on.committed m u cu) in
            was (tq.was_installed u m c) (subst (λ x. holds x.used u ≡ false) (sym same) (on'.used u ∙ unused_u))
          where
            was : (installs (acts_trace q.front s) m u ≡ true) ⊎ (holds (run_acts q.front s).used u ≡ true) → holds (run_acts q.front s).used u ≡ false → ⊥
            was (inl i) n = let z : true ≡ false = sym i ∙ ap (λ k. installs k m u) q.first ∙ iu in cc
            was (inr i) n = let z : true ≡ false = sym i ∙ n in cc

        by : (holds ((run_acts dt.front s).member m).engine.voted u ≡ true) ⊎ (holds ((run_acts dt.front s).member m).committed u ≡ true) → ⊥
        by (inl v) = dec.writes_apart u m key apart begun_u v pt.1 pt.0 pu.0
        by (inr c) = compare c (fronts q.front q.back dt.front (Moves (decision dt.at t) ∷ dt.back) (sym q.whole ∙ dt.place))

    -- u read what t had (written kinds s fresh acts g)
    not_after : (key : List ℕ) → (r : ReadsKey (acts_trace acts s) u m key) → sees kinds r.before u m t ≡ true → ⊥
    not_after key r i = by ((done_at kinds s fresh acts g) u m r.o r.before r.operated)
      where
        seen : (k : Kind) (tr : List Trace) → installs (part_seen k tr m u) m t ≡ true → installs tr m t ≡ true
        seen Lock tr h = h
        seen Occ tr h = h
        seen Mv tr h = first_installs tr m u m t h

        by : (DoneAt kinds s fresh acts g) u m r.o r.before → ⊥
        by x =
            let to = (before_decision kinds s fresh acts g) u m r.o r.before du x r.operated.undecided in
            let fx = (facts_at kinds s fresh acts g) x.front (Moves (Operate u m r.o) ∷ x.back) x.place in
            let tx = (traced_at kinds s fresh acts g) x.front (Moves (Operate u m r.o) ∷ x.back) x.place in
            let c = tx.installed t m (ap (λ k. installs k m t) x.first ∙ seen (kind_of kinds m) r.before i) in
            let c1 = (move_onward (run_acts x.front s) fx (Operate u m r.o) to.guard).committed m t c in
            let c2 = ((reach_onward kinds s fresh acts g) (effect (run_acts x.front s) (Operate u m r.o)) (run_acts du.front s) to.reach).committed m t c1 in
            let c3 = (move_onward (run_acts du.front s) ((decided_facts kinds s fresh acts g) u du) (decision du.at u) to_last.guard).committed m t c2 in
            let c4 = ((reach_onward kinds s fresh acts g) (effect (run_acts du.front s) (decision du.at u)) last to_last.reach).committed m t c3 in
            let z : true ≡ false = sym c4 ∙ uncommitted_t in cc

    -- t read what u overwrote later
    not_before : (key : List ℕ) → (r : ReadsKey (acts_trace acts s) t m key) → sees kinds r.before t m u ≡ false → WritesKey (acts_trace acts s) u m key → ⊥
    not_before key r i wu = by ((done_at kinds s fresh acts g) t m r.o r.before r.operated)
      where
        pu : (writes_told (run_acts dt.front s) u m key ≡ true) × (stands (view Memory ((run_acts dt.front s).member m)) u ≡ true)
        pu = wrote_u key wu

        ends : Unread t u m key (run_acts dt.front s) → ⊥
        ends q = now (or_cases _ _ pu.1)
          where
            now : (holds ((run_acts dt.front s).member m).engine.voted u ≡ true) ⊎ (holds ((run_acts dt.front s).member m).committed u ≡ true) → ⊥
            now (inl v) = dec.reads_apart u m key apart begun_u v q.seen.worked q.read pu.0
            now (inr c) = let z : true ≡ false = sym pu.0 ∙ dec.unread_by u m key q c in cc

        by : (DoneAt kinds s fresh acts g) t m r.o r.before → ⊥
        by x =
            let to = (before_decision kinds s fresh acts g) t m r.o r.before dt x r.operated.undecided in
            let z = effect (run_acts x.front s) (Operate t m r.o) in
            let used = ((reach_told kinds s fresh acts g) z last to.reach).used in
            let q = unread_now t u m key r.o r.span x.front x.back x.place r.reads r.has to.guard (sym (used t) ∙ unused_t) (sym (used u) ∙ unused_u) (kind_of kinds m) refl
            (ap (λ k. installs (part_seen (kind_of kinds m) k m t) m u) x.first ∙ i) in
            ends (subst (Unread t u m key) to.reach.leaves (unread_stays t u m key to.reach.mid z to.reach.facts to.reach.guarded q))

    never : Precedes kinds (acts_trace acts s) t u m → ⊥
    never (ReadAfter key w r i) = not_after key r i
    never (ReadBefore key r i w) = not_before key r i w
    never (WroteBefore key w v i) = not_both key w v i

  in_order : (t u m : ℕ) → t ≢ u → has_number (decided_in (acts_trace acts s) (acts_trace acts s)) t ≡ true → has_number (decided_in (acts_trace acts s) (acts_trace acts s)) u ≡ true → Precedes kinds (acts_trace acts s) t u m → StandsBefore (decided_in (acts_trace acts s) (acts_trace acts s)) t u
  in_order t u m n ht hu p = by ((decided_at kinds s fresh acts g) t ht) ((decided_at kinds s fresh acts g) u hu)
    where
      back : (DecidedAt kinds s fresh acts g) u → List Trace
      back du = acts_trace du.back (effect (run_acts du.front s) (decision du.at u))

      earlier : (dt : (DecidedAt kinds s fresh acts g) t) (du : (DecidedAt kinds s fresh acts g) u) (mid : List Act) → du.front ≡ dt.front ++ Moves (decision dt.at t) ∷ mid → StandsBefore (decided_in (acts_trace acts s) (acts_trace acts s)) t u
      earlier dt du mid e =
          Stands (decided_in (acts_trace acts s) (acts_trace du.front s)) (decided_in (acts_trace acts s) (back du))
          (ap (decided_in (acts_trace acts s)) ((tells_decision kinds s fresh acts g) acts du.front du.back u du.at du.place) ∙ decided_more (acts_trace acts s) (acts_trace du.front s) (Committed du.at u ∷ back du)
          ∙ ap (λ b. decided_in (acts_trace acts s) (acts_trace du.front s) ++ (if b then u ∷ decided_in (acts_trace acts s) (back du) else decided_in (acts_trace acts s) (back du))) du.home)
          (is_in_order (acts_trace acts s) (acts_trace du.front s) t dt.at dt.home (acts_trace dt.front s) (acts_trace mid (effect (run_acts dt.front s) (decision dt.at t))) ((tells_decision kinds s fresh acts g) du.front dt.front mid t dt.at e))

      by : (DecidedAt kinds s fresh acts g) t → (DecidedAt kinds s fresh acts g) u → StandsBefore (decided_in (acts_trace acts s) (acts_trace acts s)) t u
      by dt du = now (places du.front (Moves (decision du.at u)) du.back dt.front (Moves (decision dt.at t)) dt.back (sym du.place ∙ dt.place))
        where
          now : Places du.front (Moves (decision du.at u)) dt.front (Moves (decision dt.at t)) → StandsBefore (decided_in (acts_trace acts s) (acts_trace acts s)) t u
          now (Same e) = absurd (n (sym (sym ((decided_txn_is kinds s fresh acts g) du.at u) ∙ ap (decided_txn kinds s fresh acts g) e ∙ (decided_txn_is kinds s fresh acts g) dt.at t)))
          now (First mid e) = absurd (never t u m n dt du mid e p)
          now (Second mid e) = earlier dt du mid e

  pub ordered : (t u m : ℕ) → t ≢ u → has_number (decisions_in (acts_trace acts s)) t ≡ true → has_number (decisions_in (acts_trace acts s)) u ≡ true → Precedes kinds (acts_trace acts s) t u m → StandsBefore (decisions_in (acts_trace acts s)) t u
  ordered t u m n ht hu p =
      subst (λ k. StandsBefore k t u) (sym same) (in_order t u m n (sym (ap (λ k. has_number k t) same) ∙ ht) (sym (ap (λ k. has_number k u) same) ∙ hu) p)
    where
      same : decisions_in (acts_trace acts s) ≡ decided_in (acts_trace acts s) (acts_trace acts s)
      same = (traced_all kinds s fresh acts g).decisions ∙ sym (traced_all kinds s fresh acts g).order
