-- The table of a transcript, in Markdown: a row for each event, a column for each node.
use Rattle.std.specs.Prelude.{ℕ, zero, suc, Bool, true, false, if◌then◌else◌, List, [], ◌∷◌, ◌++◌, length, codes, decimal}
use Rattle.co_base.specs.declared.node.Node.{Node}
use Rattle.co_message.specs.declared.item.Item.{Item}
use Rattle.co_picture.specs.Picture.{head_of}
use Rattle.co_schedule.specs.Spelling.{node_word}
use Rattle.co_table.specs.Entry.{entries_of}
use Rattle.co_table.specs.Place.{nodes_of, is_front, same_place}
use Rattle.co_table.specs.declared.entry.Entry.{Entry}
use Rattle.co_table.specs.declared.place.Place.{Place}
use Rattle.co_table.specs.declared.place.Place.TheVariants.{Beside, At}

-- ---- the first two lines

abbrev pub title_text : Node → List ℕ
title_text node = 32 ∷ (node_word node ++ codes " |")

abbrev pub titles_text : List Node → List ℕ
titles_text [] = []
titles_text (node ∷ nodes) = title_text node ++ titles_text nodes

abbrev pub rules_text : ℕ → List ℕ
rules_text zero = []
rules_text (suc count) = rules_text count ++ codes "---|"

abbrev pub title_line : List Node → List ℕ
title_line nodes = codes "| Line | Event |" ++ (titles_text nodes ++ codes "\n")

abbrev pub rule_line : List Node → List ℕ
rule_line nodes = codes "|---|---|" ++ (rules_text (length nodes) ++ codes "\n")

abbrev pub front_text : List Node → List ℕ
front_text nodes = title_line nodes ++ rule_line nodes

-- ---- cells

-- whether a row begins with this
abbrev pub begins : Entry → Bool
begins entry = is_front entry.place

-- what is told behind something else
abbrev pub part_text : Bool → Entry → List ℕ
part_text behind entry = (if behind then codes ", " else []) ++ entry.text

-- all that is told in this place, in order
abbrev pub cell_text : Bool → Place → List Entry → List ℕ
cell_text behind place [] = []
cell_text behind place (entry ∷ entries) =
    if same_place place entry.place then part_text behind entry ++ cell_text true place entries else cell_text behind place entries

abbrev pub node_cell : List Entry → Node → List ℕ
node_cell parts node = 32 ∷ (cell_text false (At node) parts ++ codes " |")

abbrev pub node_cells : List Entry → List Node → List ℕ
node_cells parts [] = []
node_cells parts (node ∷ nodes) = node_cell parts node ++ node_cells parts nodes

-- ---- rows

-- what belongs to an event, of all that is told behind it: all up to the next event
abbrev pub parts_of : List Entry → List Entry
parts_of [] = []
parts_of (entry ∷ entries) = if begins entry then [] else entry ∷ parts_of entries

abbrev pub number_cell : ℕ → List ℕ
number_cell number = codes "| " ++ (decimal number ++ codes " |")

-- the event, and what has no column beside it
abbrev pub event_cell : Entry → List Entry → List ℕ
event_cell event parts = 32 ∷ (event.text ++ (cell_text true Beside parts ++ codes " |"))

abbrev pub row_text : List Node → Entry → List Entry → List ℕ
row_text nodes event parts = number_cell event.number ++ (event_cell event parts ++ (node_cells parts nodes ++ codes "\n"))

abbrev pub row_at : List Node → Entry → List Entry → List ℕ
row_at nodes entry entries = if begins entry then row_text nodes entry (parts_of entries) else []

-- a row for each event
abbrev pub rows_text : List Node → List Entry → List ℕ
rows_text nodes [] = []
rows_text nodes (entry ∷ entries) = row_at nodes entry entries ++ rows_text nodes entries

-- ---- the whole

abbrev pub table_in : List Node → List Item → List ℕ
table_in nodes items = front_text nodes ++ rows_text nodes (entries_of nodes items)

abbrev pub table_text : List Item → List ℕ
table_text items = table_in (nodes_of (head_of items)) items
