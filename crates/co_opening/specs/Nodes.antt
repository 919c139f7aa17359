-- For which plain nodes the nodes of a federation stand, and which directory holds their logs.
use Rattle.std.specs.Prelude.{ℕ, suc, ◌≡◌, List, slice_get, Some}
use Rattle.co_base.specs.declared.head.Kind.{Kind}
use Rattle.co_base.specs.declared.node.Node.{Node}
use Rattle.co_base.specs.declared.node.Node.TheVariants as node
use Rattle.co_outside.specs.Home.{HomeView}
use Rattle.co_log.specs.LogView.{LogView, IsHeld}
use Rattle.co_node.specs.Answers.{AreWithin}
use Rattle.co_plain.specs.declared.coord_state.CoordState.{CoordState}
use Rattle.co_plain.specs.declared.member_state.MemberState.{MemberState}
use Rattle.co_state.specs.declared.engine_state.EngineState.{EngineState}
use Rattle.co_coord.specs.declared.coord.Coord.{Coord}
use Rattle.co_coord.specs.Standing.{RepresentsCoord}
use Rattle.co_member.specs.declared.member.Member.{Member}
use Rattle.co_member.specs.Standing.{RepresentsMember}

-- the member at a place has the next number, knows how many coordinators there are, and stands for the plain one
pub record IsMemberAt {E : Type 0} (takes : Kind → Type 0) (stands_for : E → EngineState → Type 0) (coords p : ℕ) (m : Member E) (x : MemberState) : Type 0 where
  pub number : m.number ≡ suc p
  pub coords_are : m.coords ≡ coords
  pub taken : takes m.kind
  pub stands : RepresentsMember stands_for m x

-- so for a coordinator
pub record IsCoordAt (members p : ℕ) (c : Coord) (y : CoordState) : Type 0 where
  pub number : c.number ≡ suc p
  pub members_are : c.members ≡ members
  pub stands : RepresentsCoord c y

-- the directory holds the log of this node, and neither of its files is too long
pub record IsKept (home : HomeView) (owner : Node) (log : LogView) : Type 0 where
  pub held : IsHeld home log
  pub within : AreWithin home.file owner

-- the directory holds the logs of all nodes
pub record AreKept {E : Type 0} (home : HomeView) (members : List (Member E)) (coords : List Coord) : Type 0 where
  pub member : (p : ℕ) (m : Member E) → slice_get members p ≡ Some m → IsKept home (node.Member m.number) m.log
  pub coord : (p : ℕ) (c : Coord) → slice_get coords p ≡ Some c → IsKept home (node.Coord c.number) c.log
