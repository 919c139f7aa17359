-- Each node has one column.
use Rattle.std.proofs.Common.{◌≡◌, ℕ, zero, suc, ◌+◌, ◌≤◌, ◌<◌, Bool, true, false, ◌==◌, ◌||◌, List, [], ◌∷◌, ◌++◌, length, map, Option, None, Some, refl, ap, arith}
use Rattle.co_base.specs.Nodes.{same_node}
use Rattle.co_base.specs.declared.head.Head.{Head}
use Rattle.co_base.specs.declared.node.Node.{Node}
use Rattle.co_base.specs.declared.node.Node.TheVariants.{Member, Coord}
use Rattle.co_table.specs.Laws.{one_if, cells_with, IsInOneCell}
use Rattle.co_table.specs.Place.{coords_to, members_to, nodes_of, has_node}
use Rattle.co_table.specs.declared.place.Place.TheVariants.{Beside, At}

-- how often a node is among them
times : Node → List Node → ℕ
times node [] = 0
times node (other ∷ others) = one_if (same_node other node) + times node others

times-append : (node : Node) (xs ys : List Node) → times node (xs ++ ys) ≡ times node xs + times node ys
unfolding times
times-append node [] ys = omega arith
times-append node (x ∷ xs) ys = omega (arith, times-append node xs ys)

-- one more node at the end
times_one_more : (node other : Node) (xs : List Node) → times node (xs ++ other ∷ []) ≡ times node xs + one_if (same_node other node)
unfolding times
times_one_more node other xs = omega (arith, times-append node xs (other ∷ []))

-- ---- coordinators

greater_no : (n k : ℕ) → n < k → one_if (n == k) ≡ 0
greater_no n k more = grind arith

coords_below : (count k : ℕ) → count < k → times (Coord k) (coords_to count) ≡ 0
unfolding times
coords_below zero k more = refl
coords_below (suc count) k more =
    omega (arith, times_one_more (Coord k) (Coord (suc count)) (coords_to count), coords_below count k (omega (arith, more)), greater_no (suc count) k more)

one_or_none : (n k seen : ℕ) → (n ≡ k → seen ≡ 0) → seen ≤ 1 → seen + one_if (n == k) ≤ 1
one_or_none n k seen first few = grind arith

coords_once : (count k : ℕ) → times (Coord k) (coords_to count) ≤ 1
unfolding times
coords_once zero k = omega arith
coords_once (suc count) k =
    omega (
      arith,
      times_one_more (Coord k) (Coord (suc count)) (coords_to count),
      one_or_none (suc count) k (times (Coord k) (coords_to count)) (λ same. coords_below count k (omega (arith, same))) (coords_once count k),
    )

coords_no_member : (count k : ℕ) → times (Member k) (coords_to count) ≡ 0
unfolding times
coords_no_member zero k = refl
coords_no_member (suc count) k = omega (arith, times_one_more (Member k) (Coord (suc count)) (coords_to count), coords_no_member count k)

-- ---- members

members_below : (count k : ℕ) → count < k → times (Member k) (members_to count) ≡ 0
unfolding times
members_below zero k more = refl
members_below (suc count) k more =
    omega (arith, times_one_more (Member k) (Member (suc count)) (members_to count), members_below count k (omega (arith, more)), greater_no (suc count) k more)

members_once : (count k : ℕ) → times (Member k) (members_to count) ≤ 1
unfolding times
members_once zero k = omega arith
members_once (suc count) k =
    omega (
      arith,
      times_one_more (Member k) (Member (suc count)) (members_to count),
      one_or_none (suc count) k (times (Member k) (members_to count)) (λ same. members_below count k (omega (arith, same))) (members_once count k),
    )

members_no_coord : (count k : ℕ) → times (Coord k) (members_to count) ≡ 0
unfolding times
members_no_coord zero k = refl
members_no_coord (suc count) k = omega (arith, times_one_more (Coord k) (Member (suc count)) (members_to count), members_no_coord count k)

-- ---- all

nodes_once : (head : Option Head) (node : Node) → times node (nodes_of head) ≤ 1
unfolding times
nodes_once None node = omega arith
nodes_once (Some head) (Coord k) =
    omega (arith, times-append (Coord k) (coords_to head.coords) (members_to (length head.kinds)), coords_once head.coords k, members_no_coord (length head.kinds) k)
nodes_once (Some head) (Member k) =
    omega (arith, times-append (Member k) (coords_to head.coords) (members_to (length head.kinds)), coords_no_member head.coords k, members_once (length head.kinds) k)

here_or_later : (node other : Node) (others : List Node) (same : Bool) → same_node other node ≡ same → (has_node others node ≡ true → 1 ≤ times node others) →
    (same || has_node others node) ≡ true → 1 ≤ one_if same + times node others
here_or_later node other others true is later has = omega arith
here_or_later node other others false is later has = omega (arith, later has)

has_one : (node : Node) (nodes : List Node) → has_node nodes node ≡ true → 1 ≤ times node nodes
unfolding times
has_one node [] has = absurd (let e : false ≡ true = has in cc)
has_one node (other ∷ others) has = here_or_later node other others (same_node other node) refl (has_one node others) has

cells_are_times : (node : Node) (nodes : List Node) → cells_with (At node) (map At nodes) ≡ times node nodes
unfolding times
cells_are_times node [] = refl
cells_are_times node (other ∷ others) = ap (λ n. one_if (same_node other node) + n) (cells_are_times node others)

no_node_beside : (nodes : List Node) → cells_with Beside (map At nodes) ≡ 0
no_node_beside [] = refl
no_node_beside (other ∷ others) = omega (arith, no_node_beside others)

-- beside the event is one cell
pub beside_once : (nodes : List Node) → IsInOneCell nodes Beside
beside_once nodes = omega (arith, no_node_beside nodes)

-- a node that has a column has one
pub column_once : (head : Option Head) (node : Node) → has_node (nodes_of head) node ≡ true → IsInOneCell (nodes_of head) (At node)
column_once head node has = omega (arith, cells_are_times node (nodes_of head), nodes_once head node, has_one node (nodes_of head) has)
