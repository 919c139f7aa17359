-- Nodes that were opened, by their places.
use Rattle.std.specs.Prelude.{ℕ, suc, List}
use Rattle.co_base.specs.declared.head.Kind.{Kind}
use Rattle.co_base.specs.declared.node.Node.TheVariants as node
use Rattle.co_outside.specs.Home.{HomeView}
use Rattle.co_plain.specs.Opening.{Found, opened_member, opened_coord}
use Rattle.co_state.specs.declared.engine_state.EngineState.{EngineState}
use Rattle.co_coord.specs.declared.coord.Coord.{Coord}
use Rattle.co_member.specs.declared.member.Member.{Member}
use Rattle.co_opening.specs.From.{AllFrom}
use Rattle.co_opening.specs.Kept.{IsOwnLog}
use Rattle.co_opening.specs.Nodes.{IsMemberAt, IsCoordAt}

abbrev pub AreMembersAt : {E : Type 0} → (Kind → Type 0) → (E → EngineState → Type 0) → List Kind → ℕ → (ℕ → Found) → List (Member E) → Type 0
AreMembersAt takes stands_for kinds coords found members = AllFrom (λ p m. IsMemberAt takes stands_for coords p m (opened_member kinds (suc p) (found (suc p)))) 0 members

abbrev pub AreCoordsAt : ℕ → (ℕ → Found) → List Coord → Type 0
AreCoordsAt members found coords = AllFrom (λ p c. IsCoordAt members p c (opened_coord (suc p) (found (suc p)))) 0 coords

-- the directory keeps the logs of these nodes
abbrev pub AreOwnMembers : {E : Type 0} → HomeView → List (Member E) → Type 0
AreOwnMembers home members = AllFrom (λ p m. IsOwnLog home (node.Member (suc p)) m.log) 0 members

abbrev pub AreOwnCoords : HomeView → List Coord → Type 0
AreOwnCoords home coords = AllFrom (λ p c. IsOwnLog home (node.Coord (suc p)) c.log) 0 coords
