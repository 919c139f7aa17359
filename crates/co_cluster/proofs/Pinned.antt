-- The pins of the members, where one member is another one.
use Rattle.std.proofs.Common.{◌≡◌, ◌≢◌, ◌≤◌, ◌-◌, ◌⊎◌, inl, inr, ℕ, zero, suc, Bool, true, false, T, eqb→eq, eq-eqb, List, [], ◌∷◌, length, set, slice_get, Option, None, Some, is_some, cond, refl, sym, ap, ◌∙◌, subst, arith, length-set, true≢false}
use Rattle.std.specs.FinMap.{get-empty}
use Rattle.std.specs.Ordering.{nat_cmp, eq_by_cmp}
use Rattle.std.specs.Prelude.{◌==◌}
use Rattle.co_base.specs.declared.head.Kind.{Kind}
use Rattle.co_coord.specs.declared.coord.Coord.{Coord}
use Rattle.co_member.specs.Pins.{PinsStay as MemberPinsStay, pins_of, pins_where}
use Rattle.co_member.specs.Standing.{RepresentsMember, is_up}
use Rattle.co_member.specs.declared.member.Member.{Member}
use Rattle.co_member.specs.declared.running.Running.{Running}
use Rattle.co_opening.specs.Nodes.{IsMemberAt}
use Rattle.co_plain.specs.Federation.{Federation}
use Rattle.co_state.proofs.Tables.{look-without, same_table}
use Rattle.co_state.specs.Table.{Table, no_entries, without}
use Rattle.co_state.specs.declared.engine_state.EngineState.{EngineState}
use Rattle.co_cluster.specs.Pins.{PinsStay, OtherPinsStay, is_up_there, pins_at, pins_there}
use Rattle.co_cluster.specs.Standing.{RepresentsCluster}
use Rattle.co_cluster.specs.declared.cluster.Cluster.{Cluster}
use Rattle.co_cluster.proofs.Operated.{IsChangedAt}
use Rattle.co_cluster.proofs.Places.{set_cases, set_other}

-- the new node is found at its place
set_here : {M : Type 0} (ms : List M) (p : ℕ) (m n : M) → slice_get ms p ≡ Some m → slice_get (set ms p n) p ≡ Some n
set_here [] p m n is = absurd (let w : None ≡ Some m = is in cc)
set_here (x ∷ ms) zero m n is = refl
set_here (x ∷ ms) (suc p) m n is = set_here ms p m n is

-- a member that is down has no pins
pub no_pins : {E : Type 0} (pins : E → Table ℕ) (m : Member E) → is_up m ≡ false → pins_of pins m ≡ no_entries
no_pins {E} pins m down = by m.running refl
  where
    by : (r : Option (Running E)) → m.running ≡ r → pins_where pins m.running ≡ no_entries
    by None is = ap (pins_where pins) is
    by (Some r) is = absurd (true≢false (sym (ap is_some is) ∙ down))

-- and none can be taken away
pub none_left : (id : ℕ) → without (no_entries {X = ℕ}) id ≡ no_entries
none_left id =
    same_table _ _ (λ q. look-without no_entries id q ∙ ap (cond (eq_by_cmp nat_cmp q id) None) (get-empty nat_cmp q) ∙ either (eq_by_cmp nat_cmp q id) None ∙ sym (get-empty nat_cmp q))
  where
    either : (b : Bool) (o : Option ℕ) → cond b o o ≡ o
    either true o = refl
    either false o = refl

-- the pins of the member of a number
pub pins_of_place : {E : Type 0} (pins : E → Table ℕ) (w : Cluster E) (p : ℕ) (m : Member E) → slice_get w.members.items p ≡ Some m → (k : ℕ) → p ≡ k - 1 → pins_at pins w k ≡ pins_of pins m
pins_of_place pins w p m here k place = ap (λ i. pins_there pins (slice_get w.members.items i)) (sym place) ∙ ap (pins_there pins) here

module _ {E : Type 0} (pins : E → Table ℕ) (w after : Cluster E) (p : ℕ) (m n : Member E) (here : slice_get w.members.items p ≡ Some m) (members : after.members.items ≡ set w.members.items p n) where
  -- a member whose pins stay
  pub changed_pins : MemberPinsStay pins m n → PinsStay pins w after
  changed_pins stay k = subst (λ (ms : List (Member E)). is_up_there (slice_get ms (k - 1)) ≡ true → pins_there pins (slice_get ms (k - 1)) ≡ pins_at pins w k) (sym members) (by (k - 1) (p == (k - 1)) refl)
    where
      by : (i : ℕ) (b : Bool) → (p == i) ≡ b → is_up_there (slice_get (set w.members.items p n) i) ≡ true → pins_there pins (slice_get (set w.members.items p n) i) ≡ pins_there pins (slice_get w.members.items i)
      by i true e =
          let same : p ≡ i = eqb→eq p i (subst T (sym e) tt) in
          subst (λ j. is_up_there (slice_get (set w.members.items p n) j) ≡ true → pins_there pins (slice_get (set w.members.items p n) j) ≡ pins_there pins (slice_get w.members.items j)) same
          (λ up.
          let now = set_here w.members.items p m n here in
          ap (pins_there pins) now ∙ stay (sym (ap is_up_there now) ∙ up) ∙ ap (pins_there pins) (sym here))
      by i false e = λ up.
          let other : p ≢ i = λ same. let z : (p == i) ≡ true = eq-eqb p i same in absurd (let y : false ≡ true = sym e ∙ z in cc) in
          ap (pins_there pins) (set_other w.members.items p i n other)

  -- the pins of the other members
  pub others_stay : (k : ℕ) → p ≡ k - 1 → 1 ≤ k → OtherPinsStay pins k w after
  others_stay k place least i one differs =
      let other : p ≢ i - 1 = λ same. let z : i ≡ k = omega (arith, place, least, one, same) in differs z in
      ap (λ (ms : List (Member E)). pins_there pins (slice_get ms (i - 1))) members ∙ ap (pins_there pins) (set_other w.members.items p (i - 1) n other)

  -- the pins of the member before and after
  pub pins_before : (k : ℕ) → p ≡ k - 1 → pins_at pins w k ≡ pins_of pins m
  pins_before = pins_of_place pins w p m here

  pub pins_after : (k : ℕ) → p ≡ k - 1 → pins_at pins after k ≡ pins_of pins n
  pins_after = pins_of_place pins after p n (ap (λ (ms : List (Member E)). slice_get ms p) members ∙ set_here w.members.items p m n here)

-- a member that stands for the same plain one
pub same_stands : {E : Type 0} (takes : Kind → Type 0) (stands_for : E → EngineState → Type 0) (w after : Cluster E) (p : ℕ) (m n : Member E) → IsChangedAt w after p m n → (s : Federation) → RepresentsCluster takes stands_for w s →
    RepresentsMember stands_for n (s.member (suc p)) → RepresentsCluster takes stands_for after s
same_stands {E} takes stands_for w after p m n changed s r now =
    record {
      kinds = ap length changed.members ∙ length-set w.members.items p n ∙ r.kinds;
      coordinators = ap length changed.coords ∙ r.coordinators;
      few_members = r.few_members;
      few_coordinators = r.few_coordinators;
      member = λ i q is. at i q (set_cases w.members.items p i n q (subst (λ (ms : List (Member E)). slice_get ms i ≡ Some q) changed.members is));
      coord = λ i c is. r.coord i c (subst (λ (cs : List Coord). slice_get cs i ≡ Some c) changed.coords is);
    }
  where
    new : IsMemberAt takes stands_for s.coordinators p n (s.member (suc p))
    new =
        let old = r.member p m changed.here in
        record {
          number = changed.same.number ∙ old.number;
          coords_are = changed.same.coords ∙ old.coords_are;
          taken = subst takes (sym changed.same.kind) old.taken;
          stands = now;
        }

    at : (i : ℕ) (q : Member E) → ((p ≡ i) × (n ≡ q)) ⊎ ((p ≢ i) × (slice_get w.members.items i ≡ Some q)) → IsMemberAt takes stands_for s.coordinators i q (s.member (suc i))
    at i q (inl is) = subst (λ (j : ℕ). IsMemberAt takes stands_for s.coordinators j q (s.member (suc j))) is.0 (subst (λ (z : Member E). IsMemberAt takes stands_for s.coordinators p z (s.member (suc p))) is.1 new)
    at i q (inr is) = r.member i q is.1
