-- What the nodes of a federation tell, as what the plain ones have.
use Rattle.std.proofs.Common.{◌≡◌, ◌≤◌, ℕ, zero, suc, true, length, Option, sym, ap, ◌∙◌, arith}
use Rattle.std.specs.Prelude.{is_some}
use Rattle.co_base.specs.declared.head.Kind.{Kind}
use Rattle.co_base.specs.declared.node.Node.TheVariants as node
use Rattle.co_plain.specs.Federation.{Federation}
use Rattle.co_plain.specs.Quiet.{IsMember, IsCoordinator}
use Rattle.co_state.specs.Table.{lesser}
use Rattle.co_state.specs.declared.engine_state.EngineState.{EngineState}
use Rattle.co_coord.specs.declared.coord.Coord.{Coord}
use Rattle.co_member.specs.declared.member.Member.{Member}
use Rattle.co_opening.specs.Nodes.{IsMemberAt, IsCoordAt}
use Rattle.co_cluster.specs.Readings.{StandsUp, least_to}
use Rattle.co_cluster.specs.Standing.{RepresentsCluster}
use Rattle.co_cluster.specs.declared.cluster.Cluster.{Cluster}

module _ {E : Type 0} (takes : Kind → Type 0) (stands_for : E → EngineState → Type 0) (w : Cluster E) where
  pub is_member : (s : Federation) → RepresentsCluster takes stands_for w s → (k : ℕ) → 1 ≤ k → k ≤ length w.members.items → IsMember s k
  is_member s r k from to = (from, let e = r.kinds in omega (arith, e, to))

  pub is_coord : (s : Federation) → RepresentsCluster takes stands_for w s → (k : ℕ) → 1 ≤ k → k ≤ length w.coords.items → IsCoordinator s k
  is_coord s r k from to = (from, let e = r.coordinators in omega (arith, e, to))

  -- the nodes of a federation that is up run
  pub member_runs : StandsUp takes stands_for w → (k p : ℕ) (m : Member E) → 1 ≤ k → k ≤ length w.members.items →
      ((s : Federation) → RepresentsCluster takes stands_for w s → IsMemberAt takes stands_for s.coordinators p m (s.member k)) → is_some m.running ≡ true
  member_runs up k p m from to here = let x = here up.0 up.1 in sym x.stands.up ∙ up.3 (node.Member k) (is_member up.0 up.1 k from to)

  pub coord_runs : StandsUp takes stands_for w → (k p : ℕ) (c : Coord) → 1 ≤ k → k ≤ length w.coords.items →
      ((s : Federation) → RepresentsCluster takes stands_for w s → IsCoordAt (length s.kinds) p c (s.coord k)) → is_some c.table ≡ true
  coord_runs up k p c from to here = let x = here up.0 up.1 in sym x.stands.up ∙ up.3 (node.Coord k) (is_coord up.0 up.1 k from to)

-- one node more
pub least_more : (f : ℕ → Option ℕ) (n k : ℕ) → k ≡ suc n → least_to k f ≡ lesser (least_to n f) (f k)
least_more f n zero e = absurd (omega (arith, e))
least_more f n (suc k) e = let same : k ≡ n = omega (arith, e) in ap (λ i. lesser (least_to i f) (f (suc k))) same
