-- An operation at one member, as a change of the federation that it is in.
use Rattle.std.specs.Prelude.{IsTrue, false}
use Rattle.std.proofs.Common.{◌≡◌, ◌≢◌, ◌⊎◌, inl, inr, ℕ, suc, List, length, set, slice_get, Some, sym, ap, subst, ◌∙◌, length-set}
use Rattle.co_base.specs.declared.head.Kind.{Kind}
use Rattle.co_base.specs.declared.op.Op.{Op}
use Rattle.co_base.specs.declared.node.Node.TheVariants as node
use Rattle.co_coord.specs.declared.coord.Coord.{Coord}
use Rattle.co_log.specs.LogView.{LogView}
use Rattle.co_engine.specs.Calls.{may_operate}
use Rattle.co_member.specs.Standing.{RepresentsMember, HasAnswered, IsSame}
use Rattle.co_member.specs.declared.member.Member.{Member}
use Rattle.co_message.specs.declared.answer.Answer.{Answer}
use Rattle.co_opening.specs.Nodes.{IsMemberAt, IsKept}
use Rattle.co_outside.specs.Home.{HomeView}
use Rattle.co_plain.specs.Federation.{Federation, with_member}
use Rattle.co_plain.specs.Invariants.{Memory, view, stands}
use Rattle.co_plain.specs.Member.{member_op}
use Rattle.co_plain.specs.declared.member_state.MemberState.{MemberState}
use Rattle.co_state.specs.declared.engine_state.EngineState.{EngineState}
use Rattle.co_cluster.specs.Standing.{RepresentsCluster, AreHeld}
use Rattle.co_cluster.specs.declared.cluster.Cluster.{Cluster}
use Rattle.co_cluster.specs.Conditions.{IsReady}
use Rattle.co_cluster.proofs.Places.{each_changed, set_cases}
use Rattle.co_cluster.proofs.Ready.{operable}

-- one member is another one, and all else is the same
pub record IsChangedAt {E : Type 0} (w after : Cluster E) (p : ℕ) (m n : Member E) : Type 0 where
  pub here : slice_get w.members.items p ≡ Some m
  pub members : after.members.items ≡ set w.members.items p n
  pub coords : after.coords.items ≡ w.coords.items
  pub same : IsSame m n

module _ {E : Type 0} (w after : Cluster E) (p : ℕ) (m n : Member E) (changed : IsChangedAt w after p m n) where
  pub changed_stands : (takes : Kind → Type 0) (stands_for : E → EngineState → Type 0) (s : Federation) (k : ℕ) (x : MemberState) → suc p ≡ k → RepresentsCluster takes stands_for w s →
      RepresentsMember stands_for n x → RepresentsCluster takes stands_for after (with_member s k x)
  changed_stands takes stands_for s k x number r now =
      subst (λ (j : ℕ). RepresentsCluster takes stands_for after (with_member s j x)) number
      (record {
        kinds = ap length changed.members ∙ length-set w.members.items p n ∙ r.kinds;
        coordinators = ap length changed.coords ∙ r.coordinators;
        few_members = r.few_members;
        few_coordinators = r.few_coordinators;
        member = λ i q at. each_changed (IsMemberAt takes stands_for s.coordinators) w.members.items s.member p n x r.member new i q (subst (λ (ms : List (Member E)). slice_get ms i ≡ Some q) changed.members at);
        coord = λ i c at. r.coord i c (subst (λ (cs : List Coord). slice_get cs i ≡ Some c) changed.coords at);
      })
    where
      old : IsMemberAt takes stands_for s.coordinators p m (s.member (suc p))
      old = r.member p m changed.here

      new : IsMemberAt takes stands_for s.coordinators p n x
      new =
          record {
            number = changed.same.number ∙ old.number;
            coords_are = changed.same.coords ∙ old.coords_are;
            taken = subst takes (sym changed.same.kind) old.taken;
            stands = now;
          }

  -- a log that is the same one is held as before
  pub changed_held : (home : HomeView) → n.log ≡ m.log → AreHeld home w → AreHeld home after
  changed_held home same held =
      record {
        member = λ i q is. at i q (set_cases w.members.items p i n q (subst (λ (ms : List (Member E)). slice_get ms i ≡ Some q) changed.members is));
        coord = λ i c is. held.coord i c (subst (λ (cs : List Coord). slice_get cs i ≡ Some c) changed.coords is);
      }
    where
      now : IsKept home (node.Member n.number) n.log
      now =
          subst (λ (k : ℕ). IsKept home (node.Member k) n.log) (sym changed.same.number)
          (subst (λ (l : LogView). IsKept home (node.Member m.number) l) (sym same) (held.member p m changed.here))

      at : (i : ℕ) (q : Member E) → ((p ≡ i) × (n ≡ q)) ⊎ ((p ≢ i) × (slice_get w.members.items i ≡ Some q)) → IsKept home (node.Member q.number) q.log
      at i q (inl is) = subst (λ (z : Member E). IsKept home (node.Member z.number) z.log) is.1 now
      at i q (inr is) = held.member i q is.1

  -- what the member of a number answered, and what the federation is after it
  pub record HasOperated (takes : Kind → Type 0) (stands_for : E → EngineState → Type 0) (s : Federation) (k t carried : ℕ) (op : Op) (a : Answer) : Type 0 where
    pub answer : a ≡ (member_op (s.member k) t carried op).answer
    pub state : RepresentsCluster takes stands_for after (with_member s k (member_op (s.member k) t carried op).state)

  pub operated_at : (takes : Kind → Type 0) (stands_for : E → EngineState → Type 0) (s : Federation) (k t carried : ℕ) (op : Op) (a : Answer) → suc p ≡ k → RepresentsCluster takes stands_for w s → IsReady s →
      stands (view Memory (s.member k)) t ≡ false →
      ((x : MemberState) → RepresentsMember stands_for m x → IsTrue (may_operate x.engine t) → HasAnswered stands_for (member_op x t carried op) a n) → HasOperated takes stands_for s k t carried op a
  operated_at takes stands_for s k t carried op a number r ready none did =
      let here = subst (λ (j : ℕ). RepresentsMember stands_for m (s.member j)) number (r.member p m changed.here).stands in
      let done = did (s.member k) here (operable s.coordinators (s.member k) t (ready.whole.member k) none) in
      record { answer = done.answer; state = changed_stands takes stands_for s k (member_op (s.member k) t carried op).state number r done.state }
