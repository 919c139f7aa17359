-- Where the items of a transcript stand in its table.
use Rattle.std.specs.Prelude.{ℕ, Bool, true, false, if◌then◌else◌, List, [], ◌∷◌, ◌++◌, length, zero, suc, Option, None, Some}
use Rattle.std.specs.List.{list_any}
use Rattle.co_base.specs.Nodes.{same_node}
use Rattle.co_base.specs.declared.head.Head.{Head}
use Rattle.co_base.specs.declared.node.Node.{Node}
use Rattle.co_base.specs.declared.node.Node.TheVariants.{Member, Coord}
use Rattle.co_message.specs.declared.answer.Answer.{Answer}
use Rattle.co_message.specs.declared.answer.Answer.TheVariants as answer
use Rattle.co_message.specs.declared.item.ItemKind.{ItemKind}
use Rattle.co_message.specs.declared.item.ItemKind.TheVariants as item
use Rattle.co_picture.specs.Lanes.{sender}
use Rattle.co_picture.specs.declared.course.Course.{Course}
use Rattle.co_table.specs.declared.place.Place.{Place}
use Rattle.co_table.specs.declared.place.Place.TheVariants.{Front, Beside, At, Nowhere}

-- ---- the columns

abbrev pub coords_to : ℕ → List Node
coords_to zero = []
coords_to (suc count) = coords_to count ++ Coord (suc count) ∷ []

abbrev pub members_to : ℕ → List Node
members_to zero = []
members_to (suc count) = members_to count ++ Member (suc count) ∷ []

-- the nodes of a head: coordinators, then members
abbrev pub nodes_of : Option Head → List Node
nodes_of None = []
nodes_of (Some head) = coords_to head.coords ++ members_to (length head.kinds)

abbrev pub has_node : List Node → Node → Bool
has_node nodes node = list_any (λ other. same_node other node) nodes

-- ---- the place of an item

-- the column of a node, or beside the event where it has none
abbrev pub place_of_node : List Node → Node → Place
place_of_node nodes node = if has_node nodes node then At node else Beside

abbrev pub place_where : List Node → Option Node → Place
place_where nodes None = Beside
place_where nodes (Some node) = place_of_node nodes node

-- the answer `open` says no more than the row of the head; each other one stands at the node of its event
abbrev pub place_of_answer : List Node → Course → Answer → Place
place_of_answer nodes c answer.Opened = Nowhere
place_of_answer nodes c _ = place_where nodes c.node

abbrev pub place_of : List Node → Course → ItemKind → Place
place_of nodes c (item.Head head) = Front
place_of nodes c (item.Event event) = Front
place_of nodes c (item.Log mark) = place_of_node nodes mark.node
place_of nodes c (item.Sent message) = place_of_node nodes (sender message)
place_of nodes c (item.Answered answer) = place_of_answer nodes c answer

-- ---- places

-- whether a row begins there
abbrev pub is_front : Place → Bool
is_front Front = true
is_front _ = false

-- whether an item of this place stands in the cell of that one
abbrev pub same_place : Place → Place → Bool
same_place Beside Beside = true
same_place (At node) (At other) = same_node node other
same_place _ _ = false
