-- The nodes of a federation: members before coordinators, and each by its number.
use Rattle.std.specs.Prelude.{ℕ, zero, suc, List, [], ◌∷◌, ◌++◌}
use Rattle.co_base.specs.declared.node.Node.{Node}
use Rattle.co_base.specs.declared.node.Node.TheVariants.{Member, Coord}

-- so many of a sort, numbered from 1 on
abbrev pub numbered : {A : Type 0} → (ℕ → A) → ℕ → List A
numbered one zero = []
numbered one (suc count) = numbered one count ++ one (suc count) ∷ []

abbrev pub member_nodes : ℕ → List Node
member_nodes count = numbered Member count

abbrev pub coord_nodes : ℕ → List Node
coord_nodes count = numbered Coord count

abbrev pub nodes_of : ℕ → ℕ → List Node
nodes_of members coords = member_nodes members ++ coord_nodes coords
