-- Each item is told once.
use Rattle.std.proofs.Common.{◌≡◌, Bool, true, false, if◌then◌else◌, List, [], ◌∷◌, ◌++◌, Option, None, Some, refl, sym, ap, ◌∙◌}
use Rattle.co_base.specs.declared.head.Head.{Head}
use Rattle.co_base.specs.declared.node.Node.{Node}
use Rattle.co_message.specs.declared.answer.Answer.{Answer}
use Rattle.co_message.specs.declared.answer.Answer.TheVariants as answer
use Rattle.co_message.specs.declared.item.Item.{Item}
use Rattle.co_message.specs.declared.item.ItemKind.{ItemKind}
use Rattle.co_message.specs.declared.item.ItemKind.TheVariants as item
use Rattle.co_picture.specs.Course.{after, at_first}
use Rattle.co_picture.specs.Lanes.{sender}
use Rattle.co_picture.specs.Picture.{head_in, head_of}
use Rattle.co_picture.specs.declared.course.Course.{Course}
use Rattle.co_table.proofs.Columns.{beside_once, column_once}
use Rattle.co_table.specs.Entry.{entry_of, entries_from, entries_of}
use Rattle.co_table.specs.Laws.{IsInOneCell, IsInCellOf, HasPlaceOfAnswer, HasPlace, AreTold, NoneTold, OneTold, told_in_rows, IsToldOnce}
use Rattle.co_table.specs.Place.{nodes_of, has_node, place_of_node, place_where, place_of_answer, place_of, is_front}
use Rattle.co_table.specs.Table.{begins, parts_of}
use Rattle.co_table.specs.declared.entry.Entry.{Entry}
use Rattle.co_table.specs.declared.place.Place.TheVariants.{Beside, At}

-- ---- places

in_cell : (head : Option Head) (node : Node) (has : Bool) → has_node (nodes_of head) node ≡ has → IsInCellOf (nodes_of head) node (if has then At node else Beside)
in_cell head node true is = record { one = column_once head node is; own = λ has. refl }
in_cell head node false is = record { one = beside_once (nodes_of head); own = λ has. absurd (let e : false ≡ true = sym is ∙ has in cc) }

in_cell_of : (head : Option Head) (node : Node) → IsInCellOf (nodes_of head) node (place_of_node (nodes_of head) node)
in_cell_of head node = in_cell head node (has_node (nodes_of head) node) refl

in_one_cell : (head : Option Head) (node : Option Node) → IsInOneCell (nodes_of head) (place_where (nodes_of head) node)
in_one_cell head None = beside_once (nodes_of head)
in_one_cell head (Some node) = (in_cell_of head node).one

answer_placed : (head : Option Head) (c : Course) (a : Answer) → HasPlaceOfAnswer (nodes_of head) a (place_of_answer (nodes_of head) c a)
answer_placed head c answer.Opened = refl
answer_placed head c _ = in_one_cell head c.node

placed : (head : Option Head) (c : Course) (what : ItemKind) → HasPlace (nodes_of head) what (place_of (nodes_of head) c what)
placed head c (item.Head _) = refl
placed head c (item.Event _) = refl
placed head c (item.Log mark) = in_cell_of head mark.node
placed head c (item.Sent message) = in_cell_of head (sender message)
placed head c (item.Answered a) = answer_placed head c a

told : (head : Option Head) (c : Course) (items : List Item) → AreTold (nodes_of head) items (entries_from (nodes_of head) c items)
told head c [] = NoneTold (nodes_of head)
told head c (it ∷ items) =
    OneTold (nodes_of head) it items (entry_of (nodes_of head) (after c it.what) it) (entries_from (nodes_of head) (after c it.what) items)
    (record { number = refl; words = refl; place = placed head (after c it.what) it.what }) (told head (after c it.what) items)

-- ---- rows

first_is : (entry : Entry) (entries : List Entry) (front : Bool) → parts_of entries ++ told_in_rows entries ≡ entries →
    (if front then [] else entry ∷ parts_of entries) ++ ((if front then entry ∷ parts_of entries else []) ++ told_in_rows entries) ≡ entry ∷ entries
first_is entry entries true rest = ap (λ es. entry ∷ es) rest
first_is entry entries false rest = ap (λ es. entry ∷ es) rest

parts_then_rows : (entries : List Entry) → parts_of entries ++ told_in_rows entries ≡ entries
parts_then_rows [] = refl
parts_then_rows (entry ∷ entries) = first_is entry entries (begins entry) (parts_then_rows entries)

all_in_rows : (entry : Entry) (entries : List Entry) → begins entry ≡ true → told_in_rows (entry ∷ entries) ≡ entry ∷ entries
all_in_rows entry entries front =
    ap (λ (b : Bool). (if b then entry ∷ parts_of entries else []) ++ told_in_rows entries) front ∙ ap (λ es. entry ∷ es) (parts_then_rows entries)

head_begins : (nodes : List Node) (c : Course) (head : Head) (what : ItemKind) → head_in what ≡ Some head → is_front (place_of nodes c what) ≡ true
head_begins nodes c head (item.Head _) is = refl
head_begins nodes c head (item.Event _) is = refl
head_begins nodes c head (item.Log mark) is = absurd (let e : None ≡ Some head = is in cc)
head_begins nodes c head (item.Sent message) is = absurd (let e : None ≡ Some head = is in cc)
head_begins nodes c head (item.Answered a) is = absurd (let e : None ≡ Some head = is in cc)

in_rows : (items : List Item) (head : Head) → head_of items ≡ Some head → told_in_rows (entries_of (nodes_of (head_of items)) items) ≡ entries_of (nodes_of (head_of items)) items
in_rows [] head is = absurd (let e : None ≡ Some head = is in cc)
in_rows (it ∷ items) head is =
    let nodes = nodes_of (head_in it.what) in
    all_in_rows (entry_of nodes (after at_first it.what) it) (entries_from nodes (after at_first it.what) items) (head_begins nodes (after at_first it.what) head it.what is)

pub told_once : (items : List Item) → IsToldOnce items
told_once items = record { each = told (head_of items) at_first items; rows = in_rows items }
