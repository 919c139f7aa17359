-- What one node does, as a change of the federation that it is in.
use Rattle.std.proofs.Common.{◌≡◌, ℕ, suc, List, length, set, slice_get, Some, sym, ap, subst, ◌∙◌, arith, length-set}
use Rattle.std.specs.Prelude.{is_some}
use Rattle.co_base.specs.declared.head.Kind.{Kind}
use Rattle.co_plain.specs.Federation.{Federation, with_member, with_coord}
use Rattle.co_plain.specs.declared.coord_state.CoordState.{CoordState}
use Rattle.co_plain.specs.declared.member_state.MemberState.{MemberState}
use Rattle.co_state.specs.declared.engine_state.EngineState.{EngineState}
use Rattle.co_coord.specs.Standing.{RepresentsCoord, HasDone as HasDoneCoord, IsSame as IsSameCoord}
use Rattle.co_coord.specs.declared.coord.Coord.{Coord}
use Rattle.co_coord.specs.declared.step.CoordStep.{CoordStep}
use Rattle.co_member.specs.Standing.{RepresentsMember, HasDone as HasDoneMember, IsSame as IsSameMember}
use Rattle.co_member.specs.declared.member.Member.{Member}
use Rattle.co_member.specs.declared.step.MemberStep.{MemberStep}
use Rattle.co_opening.specs.Nodes.{IsMemberAt, IsCoordAt}
use Rattle.co_cluster.specs.Calls.{member_does, coord_does, MemberMay, CoordMay}
use Rattle.co_cluster.specs.Standing.{RepresentsCluster}
use Rattle.co_cluster.specs.Telling.{IsTold, IsToldBy}
use Rattle.co_cluster.specs.declared.calls.CoordCall.{CoordCall}
use Rattle.co_cluster.specs.declared.calls.MemberCall.{MemberCall}
use Rattle.co_cluster.specs.declared.cluster.Cluster.{Cluster}
use Rattle.co_cluster.proofs.Kept.{AreNumbered}
use Rattle.co_cluster.proofs.Places.{each_changed}

module _ {E : Type 0} (takes : Kind → Type 0) (stands_for : E → EngineState → Type 0) where
  -- the nodes of a federation that stands have the next numbers and their own logs
  pub are_numbered : (w : Cluster E) (s : Federation) → RepresentsCluster takes stands_for w s → AreNumbered w.members.items w.coords.items
  are_numbered w s r =
      record {
        few_members = omega (arith, r.kinds, r.few_members);
        few_coords = omega (arith, r.coordinators, r.few_coordinators);
        member = λ p m is. let here = r.member p m is in (here.number, here.stands.log.owned);
        coord = λ p c is. let here = r.coord p c is in (here.number, here.stands.log.owned);
      }

  -- whether the node at a place is up
  pub member_up_is : (w : Cluster E) (s : Federation) (p : ℕ) (m : Member E) → RepresentsCluster takes stands_for w s → slice_get w.members.items p ≡ Some m → (s.member (suc p)).up ≡ is_some m.running
  member_up_is w s p m r is = (r.member p m is).stands.up

  pub coord_up_is : (w : Cluster E) (s : Federation) (p : ℕ) (c : Coord) → RepresentsCluster takes stands_for w s → slice_get w.coords.items p ≡ Some c → (s.coord (suc p)).up ≡ is_some c.table
  coord_up_is w s p c r is = (r.coord p c is).stands.up

  -- ---- a member

  -- what the member at a place is asked to be
  pub record IsAskedMember (s : Federation) (m : Member E) (call : MemberCall) : Type 0 where
    pub taken : takes m.kind
    pub stands : (x : MemberState) × RepresentsMember stands_for m x × MemberMay m.coords call x

  pub member_asked : (w : Cluster E) (s : Federation) (p : ℕ) (m : Member E) (call : MemberCall) → RepresentsCluster takes stands_for w s → slice_get w.members.items p ≡ Some m → MemberMay s.coordinators call (s.member (suc p)) → IsAskedMember s m call
  member_asked w s p m call r is may =
      let here = r.member p m is in
      record {
        taken = here.taken;
        stands = (s.member (suc p), here.stands, subst (λ (n : ℕ). MemberMay n call (s.member (suc p))) (sym here.coords_are) may);
      }

  -- what the member at a place did
  pub record HasMemberDone (w after : Cluster E) (s : Federation) (k : ℕ) (call : MemberCall) (d : MemberStep) : Type 0 where
    pub told : IsTold (member_does k call (s.member k)) d
    pub stands : RepresentsCluster takes stands_for after (with_member s k (member_does k call (s.member k)).state)

  member_has_done : (w after : Cluster E) (s : Federation) (p : ℕ) (m n : Member E) (call : MemberCall) (d : MemberStep) → RepresentsCluster takes stands_for w s → slice_get w.members.items p ≡ Some m
      → after.members.items ≡ set w.members.items p n → after.coords.items ≡ w.coords.items → IsSameMember m n
      → HasDoneMember stands_for (member_does m.number call (s.member (suc p))) d n → HasMemberDone w after s (suc p) call d
  member_has_done w after s p m n call d r is members coords same done =
      let here = r.member p m is in
      let did = subst (λ (j : ℕ). HasDoneMember stands_for (member_does j call (s.member (suc p))) d n) here.number done in
      let x = (member_does (suc p) call (s.member (suc p))).state in
      let now : IsMemberAt takes stands_for s.coordinators p n x = record {
        number = same.number ∙ here.number;
        coords_are = same.coords ∙ here.coords_are;
        taken = subst takes (sym same.kind) here.taken;
        stands = did.state;
      } in
      let each = each_changed (IsMemberAt takes stands_for s.coordinators) w.members.items s.member p n x r.member now in
      record {
        told = record { answer = did.answer; sent = did.sent; marks = did.marks };
        stands = record {
          kinds = ap length members ∙ length-set w.members.items p n ∙ r.kinds;
          coordinators = ap length coords ∙ r.coordinators;
          few_members = r.few_members;
          few_coordinators = r.few_coordinators;
          member = λ i q at. each i q (subst (λ (ms : List (Member E)). slice_get ms i ≡ Some q) members at);
          coord = λ i c at. r.coord i c (subst (λ (cs : List Coord). slice_get cs i ≡ Some c) coords at);
        };
      }

  -- the member of a number did it
  pub member_did : (w after : Cluster E) (s : Federation) (k p : ℕ) (m n : Member E) (call : MemberCall) (d : MemberStep) → suc p ≡ k → RepresentsCluster takes stands_for w s → slice_get w.members.items p ≡ Some m
      → after.members.items ≡ set w.members.items p n → after.coords.items ≡ w.coords.items → IsSameMember m n
      → ((x : MemberState) → RepresentsMember stands_for m x → HasDoneMember stands_for (member_does m.number call x) d n) → HasMemberDone w after s k call d
  member_did w after s k p m n call d number r is members coords same done =
      subst (λ (j : ℕ). HasMemberDone w after s j call d) number (member_has_done w after s p m n call d r is members coords same (done (s.member (suc p)) (r.member p m is).stands))

  -- ---- a coordinator

  pub coord_asked : (w : Cluster E) (s : Federation) (p : ℕ) (c : Coord) (call : CoordCall) → RepresentsCluster takes stands_for w s → slice_get w.coords.items p ≡ Some c → CoordMay (length s.kinds) (suc p) call (s.coord (suc p))
      → (y : CoordState) × RepresentsCoord c y × CoordMay c.members c.number call y
  coord_asked w s p c call r is may =
      let here = r.coord p c is in
      let numbered = subst (λ (j : ℕ). CoordMay (length s.kinds) j call (s.coord (suc p))) (sym here.number) may in
      (s.coord (suc p), here.stands, subst (λ (n : ℕ). CoordMay n c.number call (s.coord (suc p))) (sym here.members_are) numbered)

  pub record HasCoordDone (w after : Cluster E) (s : Federation) (k : ℕ) (call : CoordCall) (d : CoordStep) : Type 0 where
    pub told : IsToldBy (coord_does k call (s.coord k)) d
    pub stands : RepresentsCluster takes stands_for after (with_coord s k (coord_does k call (s.coord k)).state)

  coord_has_done : (w after : Cluster E) (s : Federation) (p : ℕ) (c n : Coord) (call : CoordCall) (d : CoordStep) → RepresentsCluster takes stands_for w s → slice_get w.coords.items p ≡ Some c
      → after.coords.items ≡ set w.coords.items p n → after.members.items ≡ w.members.items → IsSameCoord c n
      → HasDoneCoord (coord_does c.number call (s.coord (suc p))) d n → HasCoordDone w after s (suc p) call d
  coord_has_done w after s p c n call d r is coords members same done =
      let here = r.coord p c is in
      let did = subst (λ (j : ℕ). HasDoneCoord (coord_does j call (s.coord (suc p))) d n) here.number done in
      let y = (coord_does (suc p) call (s.coord (suc p))).state in
      let now : IsCoordAt (length s.kinds) p n y = record { number = same.number ∙ here.number; members_are = same.members ∙ here.members_are; stands = did.state } in
      let each = each_changed (IsCoordAt (length s.kinds)) w.coords.items s.coord p n y r.coord now in
      record {
        told = record { answer = did.answer; sent = did.sent; marks = did.marks };
        stands = record {
          kinds = ap length members ∙ r.kinds;
          coordinators = ap length coords ∙ length-set w.coords.items p n ∙ r.coordinators;
          few_members = r.few_members;
          few_coordinators = r.few_coordinators;
          member = λ i m at. r.member i m (subst (λ (ms : List (Member E)). slice_get ms i ≡ Some m) members at);
          coord = λ i q at. each i q (subst (λ (cs : List Coord). slice_get cs i ≡ Some q) coords at);
        };
      }

  pub coord_did : (w after : Cluster E) (s : Federation) (k p : ℕ) (c n : Coord) (call : CoordCall) (d : CoordStep) → suc p ≡ k → RepresentsCluster takes stands_for w s → slice_get w.coords.items p ≡ Some c
      → after.coords.items ≡ set w.coords.items p n → after.members.items ≡ w.members.items → IsSameCoord c n
      → ((y : CoordState) → RepresentsCoord c y → HasDoneCoord (coord_does c.number call y) d n) → HasCoordDone w after s k call d
  coord_did w after s k p c n call d number r is coords members same done =
      subst (λ (j : ℕ). HasCoordDone w after s j call d) number (coord_has_done w after s p c n call d r is coords members same (done (s.coord (suc p)) (r.coord p c is).stands))
