-- The armed stops of the nodes up to a place are taken away.
use Rattle.std.proofs.Common.{◌≡◌, ◌<◌, ◌≤◌, ◌+◌, ◌-◌, ◌≢◌, ◌⊎◌, inl, inr, ℕ, suc, List, length, set, slice_get, Option, None, Some, true, true≢false, refl, sym, ap, ◌∙◌, subst, arith, length-set}
use Rattle.co_base.specs.declared.head.Kind.{Kind}
use Rattle.co_base.specs.declared.node.Node.TheVariants as node
use Rattle.co_outside.specs.Home.{HomeView}
use Rattle.co_log.specs.LogView.{IsHeld}
use Rattle.co_plain.specs.CoordStep.{with_coord_log}
use Rattle.co_plain.specs.Federation.{Federation}
use Rattle.co_plain.specs.LogWrite.{with_stop}
use Rattle.co_plain.specs.MemberStep.{with_log}
use Rattle.co_plain.specs.Step.{disarmed}
use Rattle.co_plain.specs.declared.coord_state.CoordState.{CoordState}
use Rattle.co_plain.specs.declared.member_state.MemberState.{MemberState}
use Rattle.co_state.specs.Table.{Table}
use Rattle.co_state.specs.declared.engine_state.EngineState.{EngineState}
use Rattle.co_coord.specs.declared.coord.Coord.{Coord}
use Rattle.co_coord.specs.Standing.{RepresentsCoord, IsSame as IsSameCoord}
use Rattle.co_member.specs.declared.member.Member.{Member}
use Rattle.co_member.specs.Pins.{PinsStay as MemberPinsStay}
use Rattle.co_member.specs.Standing.{RepresentsMember, IsSame as IsSameMember}
use Rattle.co_opening.specs.Nodes.{IsKept}
use Rattle.co_cluster.specs.Pins.{PinsStay, is_up_there, pins_there}
use Rattle.co_cluster.specs.Standing.{RepresentsCluster, AreHeld}
use Rattle.co_cluster.specs.declared.cluster.Cluster.{Cluster}
use Rattle.co_cluster.proofs.Places.{set_cases, set_other, within_list}

-- ---- a list of which each entry below a place was changed

pub record IsDoneTo {M : Type 0} (R : M → M → Type 0) (old new : List M) (k : ℕ) : Type 0 where
  pub len : length new ≡ length old
  pub done : (p : ℕ) (m : M) → p < k → slice_get new p ≡ Some m → (n : M) × (slice_get old p ≡ Some n) × R n m
  pub left : (p : ℕ) → k ≤ p → slice_get new p ≡ slice_get old p

module _ {M : Type 0} (R : M → M → Type 0) where
  pub none_done : (old : List M) → IsDoneTo R old old 0
  none_done old = record { len = refl; done = λ p m l. absurd (omega (arith, l)); left = λ p l. refl }

  pub one_done : (old new : List M) (k : ℕ) (n q : M) → IsDoneTo R old new k → slice_get new k ≡ Some n → R n q → IsDoneTo R old (set new k q) (k + 1)
  one_done old new k n q d is r =
      record {
        len = length-set new k q ∙ d.len;
        done = λ p m l at. by p m l (set_cases new k p q m at);
        left = λ p l. let other : k ≢ p = λ e. let z : ⊥ = omega (arith, l, e) in z in set_other new k p q other ∙ d.left p (omega (arith, l));
      }
    where
      by : (p : ℕ) (m : M) → p < k + 1 → ((k ≡ p) × (q ≡ m)) ⊎ ((k ≢ p) × (slice_get new p ≡ Some m)) → (o : M) × (slice_get old p ≡ Some o) × R o m
      by p m l (inl two) = (n, sym (d.left p (omega (arith, two.0))) ∙ subst (λ j. slice_get new j ≡ Some n) two.0 is, subst (R n) two.1 r)
      by p m l (inr two) = let other : k ≢ p = two.0 in let below : p < k = omega (arith, l, other) in d.done p m below two.1

-- ---- the nodes

pub record MemberDisarmed {E : Type 0} (stands_for : E → EngineState → Type 0) (pins : E → Table ℕ) (n m : Member E) : Type 0 where
  pub did : (x : MemberState) → RepresentsMember stands_for n x → RepresentsMember stands_for m (with_log x (with_stop x.log None))
  pub held : (home : HomeView) → IsHeld home n.log → IsHeld home m.log
  pub same : IsSameMember n m
  pub stay : MemberPinsStay pins n m

pub record CoordDisarmed (n m : Coord) : Type 0 where
  pub did : (y : CoordState) → RepresentsCoord n y → RepresentsCoord m (with_coord_log y (with_stop y.log None))
  pub held : (home : HomeView) → IsHeld home n.log → IsHeld home m.log
  pub same : IsSameCoord n m

pub record IsDisarmedTo {E : Type 0} (stands_for : E → EngineState → Type 0) (pins : E → Table ℕ) (old new : Cluster E) (k j : ℕ) : Type 0 where
  pub members : IsDoneTo (MemberDisarmed stands_for pins) old.members.items new.members.items k
  pub coords : IsDoneTo CoordDisarmed old.coords.items new.coords.items j

module _ {E : Type 0} (takes : Kind → Type 0) (stands_for : E → EngineState → Type 0) (pins : E → Table ℕ) (old new : Cluster E) (d : IsDisarmedTo stands_for pins old new (length new.members.items) (length new.coords.items)) where
  pub disarmed_stands : (s : Federation) → RepresentsCluster takes stands_for old s → RepresentsCluster takes stands_for new (disarmed s)
  disarmed_stands s r =
      record {
        kinds = d.members.len ∙ r.kinds;
        coordinators = d.coords.len ∙ r.coordinators;
        few_members = r.few_members;
        few_coordinators = r.few_coordinators;
        member = λ p m is.
            let x = d.members.done p m (within_list new.members.items p m is) is in
            let was = r.member p x.0 x.1 in
            record {
              number = x.2.same.number ∙ was.number;
              coords_are = x.2.same.coords ∙ was.coords_are;
              taken = subst takes (sym x.2.same.kind) was.taken;
              stands = x.2.did (s.member (suc p)) was.stands;
            };
        coord = λ p c is.
            let x = d.coords.done p c (within_list new.coords.items p c is) is in
            let was = r.coord p x.0 x.1 in
            record { number = x.2.same.number ∙ was.number; members_are = x.2.same.members ∙ was.members_are; stands = x.2.did (s.coord (suc p)) was.stands };
      }

  pub disarmed_held : (home : HomeView) → AreHeld home old → AreHeld home new
  disarmed_held home held =
      record {
        member = λ p m is.
            let x = d.members.done p m (within_list new.members.items p m is) is in
            let was = held.member p x.0 x.1 in
            subst (λ n. IsKept home (node.Member n) m.log) (sym x.2.same.number) (record { held = x.2.held home was.held; within = was.within });
        coord = λ p c is.
            let x = d.coords.done p c (within_list new.coords.items p c is) is in
            let was = held.coord p x.0 x.1 in
            subst (λ n. IsKept home (node.Coord n) c.log) (sym x.2.same.number) (record { held = x.2.held home was.held; within = was.within });
      }

  pub disarmed_pins : PinsStay pins old new
  disarmed_pins k = by (k - 1) (slice_get new.members.items (k - 1)) refl
    where
      by : (p : ℕ) (o : Option (Member E)) → slice_get new.members.items p ≡ o → is_up_there o ≡ true → pins_there pins o ≡ pins_there pins (slice_get old.members.items p)
      by p None is up = absurd (true≢false (sym up))
      by p (Some m) is up =
          let x = d.members.done p m (within_list new.members.items p m is) is in
          x.2.stay up ∙ ap (pins_there pins) (sym x.1)
