-- The timers and restarts of settling.
use Rattle.std.proofs.Common.{◌≡◌, inl, ℕ, suc, Bool, true, false, ◌==◌, ◌≤◌, if◌then◌else◌, None, Some, refl, sym, ap, ◌∙◌, subst, arith}
use Rattle.std.proofs.lemmas.Bool.{eqb-true, eqb-false, false_from_ne_true}
use Rattle.co_base.specs.declared.node.Node.TheVariants as node
use Rattle.co_message.specs.declared.event.Event.TheVariants as event
use Rattle.co_state.specs.Table.{look, holds, without}
use Rattle.co_plain.specs.declared.coord_state.Entry.TheVariants as entry
use Rattle.co_plain.specs.declared.coord_step.CoordStep.{CoordStep}
use Rattle.co_plain.specs.declared.happening.Happening.TheVariants as happening
use Rattle.co_plain.specs.declared.member_step.MemberStep.{MemberStep}
use Rattle.co_plain.specs.declared.standing.Standing.TheVariants.{IsActive}
use Rattle.co_plain.specs.MemberStep.{standing_by}
use Rattle.co_plain.specs.Member.{timer_by}
use Rattle.co_plain.specs.MemberLog.{restart_by}
use Rattle.co_plain.specs.Coordinator.{timer_entry}
use Rattle.co_plain.specs.CoordLog.{coord_restart_by}
use Rattle.co_plain.specs.Federation.{Federation, at_member, at_coord}
use Rattle.co_plain.specs.Step.{step_line, up_member, up_coord}
use Rattle.co_plain.specs.Quiet.{IsMember, IsCoordinator, busy_in, IsBusy, BusyAt, BusyIn}
use Rattle.co_plain.specs.Settling.{is_idle}
use Rattle.co_law_base.proofs.Facts.{Facts}
use Rattle.co_law_base.proofs.Carrying.{at_here}
use Rattle.co_law_base.proofs.Lookups.{without_here}
use Rattle.co_law_moves.proofs.Steps.{step_keeps}
use Rattle.co_law_settle.specs.SettlingTurns.{AllUp}
use Rattle.co_law_settle.specs.SettlingMeasure.{any_to, weight, left_between, left_idle, yes_lacking, ack_lacking, weight_at}
use Rattle.co_law_settle.proofs.Falling.{Calm, Falls, any_found, found_any, MemberFalls, member_calm, member_falls, member_wakes, CoordFalls, coord_calm, coord_falls, coord_wakes}
use Rattle.co_law_settle.proofs.Homes.{in_table, elsewhere}
use Rattle.co_law_settle.proofs.AtMember.{dropped_falls, dropped_weight, dropped_idle}
use Rattle.co_law_settle.proofs.AtCoord.{idle_ends}
use Rattle.co_law_settle.proofs.Lowering.{Next, Lowered, member_next, coord_next}
use Rattle.co_law_settle.proofs.Prepares.{here, few_left}

-- the timer of an idle transaction is gone
pub record IdleLowered (s : Federation) (t : ℕ) (z : Federation) : Type 0 where
  pub next : Next s z
  pub lower : suc (left_idle z t) ≤ left_idle s t

active_left : (a k v y b : Bool) → a ≡ true → 2 ≤ weight a k v y b
active_left true true v y b e = omega arith
active_left true false v y b e = omega arith
active_left false k v y b e = absurd (let z : false ≡ true = e in cc)

module _ (s : Federation) (calm : Calm s) (up : AllUp s) where
  pub active_timer : (t m : ℕ) → IsMember s m → holds (s.member m).engine.active t ≡ true → Lowered s t m (step_line s (event.Timer t (node.Member m))).state
  active_timer t m i a = subst (λ z. Lowered s t m z.state) (sym same) (record { next = next; lower = lower })
    where
      did : MemberStep
      did = timer_by (s.member m) t IsActive

      same : step_line s (event.Timer t (node.Member m)) ≡ at_member s m did
      same = λ j. up_member s m (up (node.Member m) i j) (timer_by (s.member m) t (standing_by (a j) (holds (s.member m).engine.voted t) (holds (s.member m).committed t)))

      next : Next s (at_member s m did).state
      next = member_next s s (here s calm up) m t (event.Timer t (node.Member m)) did same (dropped_falls (s.member m) t (s.member m).log (calm.members m))
          (λ j b. absurd (let z : false ≡ true = sym (dropped_idle (s.member m) t (s.member m).log) ∙ b in cc))

      lower : suc (left_between (at_member s m did).state t m) ≤ left_between s t m
      lower =
          let z = (at_member s m did).state in
          let now = ap (λ x. weight_at x t (yes_lacking z t m) (ack_lacking z t m)) (at_here s.member m did.state) ∙ dropped_weight (s.member m) t (s.member m).log (yes_lacking z t m) (ack_lacking z t m) in
          let few = few_left (holds (without (s.member m).asked t) t) (yes_lacking z t m) (ack_lacking z t m) in
          let was = active_left (holds (s.member m).engine.active t) (holds (s.member m).asked t) (holds (s.member m).engine.voted t) (yes_lacking s t m) (ack_lacking s t m) a in
          omega (arith, now, few, was)

  pub idle_timer : (t c : ℕ) → IsCoordinator s c → look (s.coord c).table t ≡ Some entry.Idle → IdleLowered s t (step_line s (event.Timer t (node.Coord c))).state
  idle_timer t c i e = subst (λ z. IdleLowered s t z.state) (sym same) (record { next = next; lower = lower })
    where
      did : CoordStep
      did = timer_entry c (s.coord c) t (Some entry.Idle)

      same : step_line s (event.Timer t (node.Coord c)) ≡ at_coord s c did
      same = λ j. up_coord s c (up (node.Coord c) i j) (timer_entry c (s.coord c) t (e j))

      next : Next s (at_coord s c did).state
      next = coord_next s s (here s calm up) c t (event.Timer t (node.Coord c)) did same (idle_ends s calm.facts c t 0 (calm.coords c))
          (λ j b. absurd (let z : false ≡ true = sym (ap busy_in (without_here (s.coord c).table t)) ∙ b in cc))

      z : Federation
      z = (at_coord s c (timer_entry c (s.coord c) t (Some entry.Idle))).state

      none : (d : ℕ) (b : Bool) → (c == d) ≡ b → look (z.coord d).table t ≡ None
      none d true q = ap (λ k. look (z.coord k).table t) (sym (eqb-true c d q)) ∙ ap (λ y. look y.table t) (at_here s.coord c did.state) ∙ without_here (s.coord c).table t
      none d false q = elsewhere z next.calm.facts t c (in_table s calm.facts t c entry.Idle e) d (eqb-false c d q)

      gone : any_to z.coordinators (λ d. is_idle (look (z.coord d).table t)) ≡ false
      gone = false_from_ne_true _ (λ h.
          let found = any_found z.coordinators (λ d. is_idle (look (z.coord d).table t)) h in
          let q : false ≡ true = ap is_idle (sym (none found.0 (c == found.0) refl)) ∙ found.3 in cc)

      was : any_to s.coordinators (λ d. is_idle (look (s.coord d).table t)) ≡ true
      was = found_any s.coordinators (λ d. is_idle (look (s.coord d).table t)) c i.0 i.1 (ap is_idle e)

      lower : suc (left_idle (at_coord s c did).state t) ≤ left_idle s t
      lower =
          let now = ap {B = ℕ} (λ b. if b then 1 else 0) gone in
          let before = ap {B = ℕ} (λ b. if b then 1 else 0) was in
          omega (arith, now, before)

-- a restart leaves all but that the node is up
pub record Restarted (s z : Federation) : Type 0 where
  pub calm : Calm z
  pub falls : Falls s z
  pub busy : (u : ℕ) → IsBusy z u → IsBusy s u

module _ (s : Federation) (calm : Calm s) where
  pub member_restarts : (m : ℕ) → (s.member m).up ≡ false → Restarted s (at_member s m (restart_by (s.member m) false)).state
  member_restarts m d =
      record {
        calm = member_calm s m 0 did same calm (subst (λ k. Facts k.state) is (step_keeps s calm.facts (happening.Line (event.Restart (node.Member m))) tt));
        falls = member_falls s m 0 did same;
        busy = member_wakes s m 0 did same (IsBusy s) (λ i b. BusyAt m i b) (λ u h. h);
      }
    where
      did : MemberStep
      did = restart_by (s.member m) false

      is : step_line s (event.Restart (node.Member m)) ≡ at_member s m did
      is = ap (λ b. at_member s m (restart_by (s.member m) b)) d

      same : MemberFalls 0 (s.member m) did.state
      same = record { unarmed = calm.members m; up = λ u. refl; others = λ u n a b. refl; as_busy = λ u n. refl; falls = λ a b. omega arith }

  pub coord_restarts : (c : ℕ) → (s.coord c).up ≡ false → Restarted s (at_coord s c (coord_restart_by (s.coord c) false)).state
  coord_restarts c d =
      record {
        calm = coord_calm s c 0 did same calm (subst (λ k. Facts k.state) is (step_keeps s calm.facts (happening.Line (event.Restart (node.Coord c))) tt));
        falls = coord_falls s c 0 did same;
        busy = coord_wakes s c 0 did same (IsBusy s) (λ i b. BusyIn c i b) (λ u h. h);
      }
    where
      did : CoordStep
      did = coord_restart_by (s.coord c) false

      is : step_line s (event.Restart (node.Coord c)) ≡ at_coord s c did
      is = ap (λ b. at_coord s c (coord_restart_by (s.coord c) b)) d

      same : CoordFalls s 0 (s.coord c) did.state
      same = record { unarmed = calm.coords c; up = λ u. refl; others = λ u n. refl; votes = λ m h. h; acks = λ m h. inl h; idles = λ h. h }
