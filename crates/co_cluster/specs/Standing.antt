-- For which plain nodes the nodes of a federation stand.
use Rattle.std.specs.Prelude.{ℕ, suc, ◌≡◌, ◌≤◌, length, slice_get, Some}
use Rattle.co_base.specs.declared.head.Kind.{Kind}
use Rattle.co_base.specs.Limits.{most_coordinators, most_members}
use Rattle.co_outside.specs.Home.{HomeView}
use Rattle.co_plain.specs.Federation.{Federation}
use Rattle.co_state.specs.declared.engine_state.EngineState.{EngineState}
use Rattle.co_coord.specs.declared.coord.Coord.{Coord}
use Rattle.co_member.specs.declared.member.Member.{Member}
use Rattle.co_opening.specs.Nodes.{IsMemberAt, IsCoordAt, AreKept}
use Rattle.co_cluster.specs.declared.cluster.Cluster.{Cluster}

-- There is a member and a coordinator for each plain one. What clients did, what was sent and what was decided is not theirs.
pub record RepresentsCluster {E : Type 0} (takes : Kind → Type 0) (stands_for : E → EngineState → Type 0) (w : Cluster E) (s : Federation) : Type 0 where
  pub kinds : length w.members.items ≡ length s.kinds
  pub coordinators : length w.coords.items ≡ s.coordinators
  pub few_members : length s.kinds ≤ most_members
  pub few_coordinators : s.coordinators ≤ most_coordinators
  pub member : (p : ℕ) (m : Member E) → slice_get w.members.items p ≡ Some m → IsMemberAt takes stands_for s.coordinators p m (s.member (suc p))
  pub coord : (p : ℕ) (c : Coord) → slice_get w.coords.items p ≡ Some c → IsCoordAt (length s.kinds) p c (s.coord (suc p))

-- the directory holds the log of every node
abbrev pub AreHeld : {E : Type 0} → HomeView → Cluster E → Type 0
AreHeld home w = AreKept home w.members.items w.coords.items
