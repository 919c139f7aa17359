-- What every table promises.
use Rattle.std.specs.Prelude.{ℕ, Bool, true, false, not, ◌&&◌, ◌||◌, ◌==◌, ◌≡◌, ◌+◌, if◌then◌else◌, List, [], ◌∷◌, ◌++◌, map, All, Some}
use Rattle.co_base.specs.declared.head.Head.{Head}
use Rattle.co_base.specs.declared.node.Node.{Node}
use Rattle.co_message.specs.declared.answer.Answer.{Answer}
use Rattle.co_message.specs.declared.answer.Answer.TheVariants as answer
use Rattle.co_message.specs.declared.item.Item.{Item}
use Rattle.co_message.specs.declared.item.ItemKind.{ItemKind}
use Rattle.co_message.specs.declared.item.ItemKind.TheVariants as item
use Rattle.co_picture.specs.Lanes.{sender}
use Rattle.co_picture.specs.Picture.{head_of}
use Rattle.co_table.specs.Entry.{entries_of, escaped, words_of}
use Rattle.co_table.specs.Place.{nodes_of, has_node, same_place}
use Rattle.co_table.specs.Table.{begins, parts_of}
use Rattle.co_table.specs.declared.entry.Entry.{Entry}
use Rattle.co_table.specs.declared.place.Place.{Place}
use Rattle.co_table.specs.declared.place.Place.TheVariants.{Front, Beside, At, Nowhere}

-- ---- each item once

-- the cells of a row behind its number: that of the event, and one for each node
abbrev pub cells_of : List Node → List Place
cells_of nodes = Beside ∷ map At nodes

abbrev pub one_if : Bool → ℕ
one_if same = if same then 1 else 0

-- how many cells have what stands in this place
abbrev pub cells_with : Place → List Place → ℕ
cells_with place [] = 0
cells_with place (cell ∷ cells) = one_if (same_place cell place) + cells_with place cells

-- what stands in this place stands in one cell of its row, and in no other
abbrev pub IsInOneCell : List Node → Place → Type 0
IsInOneCell nodes place = cells_with place (cells_of nodes) ≡ 1

-- so does what this node did, and in the column of the node, where it has one
pub record IsInCellOf (nodes : List Node) (node : Node) (place : Place) : Type 0 where
  pub one : IsInOneCell nodes place
  pub own : has_node nodes node ≡ true → place ≡ At node

-- the answer `open` has no cell
abbrev pub HasPlaceOfAnswer : List Node → Answer → Place → Type 0
HasPlaceOfAnswer nodes answer.Opened place = place ≡ Nowhere
HasPlaceOfAnswer nodes _ place = IsInOneCell nodes place

abbrev pub HasPlace : List Node → ItemKind → Place → Type 0
HasPlace nodes (item.Head head) place = place ≡ Front
HasPlace nodes (item.Event event) place = place ≡ Front
HasPlace nodes (item.Log mark) place = IsInCellOf nodes mark.node place
HasPlace nodes (item.Sent message) place = IsInCellOf nodes (sender message) place
HasPlace nodes (item.Answered answer) place = HasPlaceOfAnswer nodes answer place

-- the item is told so
pub record IsTold (nodes : List Node) (it : Item) (entry : Entry) : Type 0 where
  pub number : entry.number ≡ it.number
  pub words : entry.text ≡ escaped (words_of it)
  pub place : HasPlace nodes it.what entry.place

-- the items are told so, one after the other
pub data AreTold : List Node → List Item → List Entry → Type 0 where
  NoneTold : (nodes : List Node) → AreTold nodes [] []
  OneTold : (nodes : List Node) (it : Item) (items : List Item) (entry : Entry) (entries : List Entry) → IsTold nodes it entry → AreTold nodes items entries →
      AreTold nodes (it ∷ items) (entry ∷ entries)

-- what the rows tell, row by row: each event, and what belongs to it
abbrev pub row_entries : Entry → List Entry → List Entry
row_entries entry entries = if begins entry then entry ∷ parts_of entries else []

abbrev pub told_in_rows : List Entry → List Entry
told_in_rows [] = []
told_in_rows (entry ∷ entries) = row_entries entry entries ++ told_in_rows entries

-- Each item is told once, in order, in its cell; and behind a head the rows tell all of them, each once and in their order.
pub record IsToldOnce (items : List Item) : Type 0 where
  pub each : AreTold (nodes_of (head_of items)) items (entries_of (nodes_of (head_of items)) items)
  pub rows : (head : Head) → head_of items ≡ Some head → told_in_rows (entries_of (nodes_of (head_of items)) items) ≡ entries_of (nodes_of (head_of items)) items

-- ---- well formed

-- whether a bar stands behind this letter or later with no backslash before it
abbrev pub ends_cell : ℕ → List ℕ → Bool
ends_cell before [] = false
ends_cell before (letter ∷ letters) = (letter == 124 && not (before == 92)) || ends_cell letter letters

-- no letter of these items ends a cell
abbrev pub AreWellFormed : List Item → Type 0
AreWellFormed items = All (λ entry. ends_cell 0 entry.text ≡ false) (entries_of (nodes_of (head_of items)) items)
