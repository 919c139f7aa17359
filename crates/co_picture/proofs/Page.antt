-- All of a picture lies within its page.
use Rattle.std.proofs.Common.{◌≡◌, ℕ, ◌+◌, ◌*◌, ◌-◌, ◌≤◌, ◌<◌, ◌==◌, max, Bool, true, false, if◌then◌else◌, List, [], ◌∷◌, ◌++◌, map, length, Option, None, Some, refl, sym, ap, ◌∙◌, subst, arith, suc, zero}
use Rattle.std.specs.Prelude.{All, option_to_list, decimal}
use Rattle.std.proofs.lemmas.List.Elements.{All-nil, All-cons, All-append}
use Rattle.std.proofs.lemmas.List.{length-append}
use Rattle.co_base.specs.declared.node.Node.{Node}
use Rattle.co_message.specs.declared.item.Item.{Item}
use Rattle.co_message.specs.declared.item.ItemKind.{ItemKind}
use Rattle.co_message.specs.declared.item.ItemKind.TheVariants as item
use Rattle.co_message.specs.declared.event.Event.{Event}
use Rattle.co_message.specs.declared.event.Event.TheVariants as event
use Rattle.co_message.specs.declared.message.Message.{Message}
use Rattle.co_picture.specs.Columns.{columns_of, place_of, place_from, end_from, page_width, left}
use Rattle.co_picture.specs.Course.{after, at_first}
use Rattle.co_picture.specs.Entry.{entry_of, entries_from, entries_of, latest, link_in, arrow_from, call_of}
use Rattle.co_picture.specs.Lanes.{rank, sender}
use Rattle.co_picture.specs.Laws.{IsLineWithin, IsLabelWithin, IsWithinPage, IsLatest}
use Rattle.co_picture.specs.Picture.{height_of, head_of, line, lives_from, down_line, link_line, lines_of, lines_from, titles_from, number_labels, numbers_from, text_label, texts_from, picture_in, picture_of}
use Rattle.co_picture.specs.declared.column.Column.{Column}
use Rattle.co_picture.specs.declared.course.Course.{Course}
use Rattle.co_picture.specs.declared.entry.Entry.{Entry}
use Rattle.co_picture.specs.declared.entry.Link.{Link}
use Rattle.co_picture.specs.declared.entry.Link.TheVariants as link
use Rattle.co_picture.specs.declared.entry.Role.{Role}
use Rattle.co_picture.specs.declared.entry.Role.TheVariants as role
use Rattle.co_picture.specs.declared.lane.Lane.{Lane}
use Rattle.co_picture.specs.declared.lane.Lane.TheVariants.{Front, Client, At}
use Rattle.co_picture.proofs.Latest.{is_latest}
use Rattle.co_svg.specs.Svg.{Label, label}
use Rattle.co_svg.specs.declared.shape.Line.{Line}
use Rattle.co_svg.specs.declared.shape.Stroke.{Stroke}
use Rattle.co_svg.specs.declared.shape.Stroke.TheVariants as stroke
use Rattle.co_svg.specs.declared.shape.Style.TheVariants as style

-- ---- from left to right

end_above : (place : ℕ) (columns : List Column) → place ≤ end_from place columns
end_above place [] = omega arith
end_above place (column ∷ columns) = let rest = end_above (place + column.width) columns in omega arith

place_chosen : (place : ℕ) (column : Column) (columns : List Column) (wanted : ℕ) (here : Bool) → place_from (place + column.width) columns wanted ≤ end_from (place + column.width) columns →
    (if here then place else place_from (place + column.width) columns wanted) ≤ end_from (place + column.width) columns
place_chosen place column columns wanted true rest = let far = end_above (place + column.width) columns in omega arith
place_chosen place column columns wanted false rest = rest

place_below : (place : ℕ) (columns : List Column) (wanted : ℕ) → place_from place columns wanted ≤ end_from place columns
place_below place [] wanted = omega arith
place_below place (column ∷ columns) wanted =
    place_chosen place column columns wanted (rank column.lane == wanted) (place_below (place + column.width) columns wanted)

place_within : (columns : List Column) (lane : Lane) → place_of columns lane ≤ end_from left columns
place_within columns Front = end_above left columns
place_within columns (Client txn) = place_below left columns (rank (Client txn))
place_within columns (At node) = place_below left columns (rank (At node))

width_above : (e : ℕ) → e + 24 ≤ max 420 (e + 24)
width_above e = omega arith

width_least : (e : ℕ) → 420 ≤ max 420 (e + 24)
width_least e = omega arith

-- a lane begins left of the right edge, with room for what stands behind it
room : (columns : List Column) (lane : Lane) → place_of columns lane + 24 ≤ page_width columns
room columns lane = let a = place_within columns lane in let b = width_above (end_from left columns) in omega arith

-- ---- lines

abbrev Within : List Column → ℕ → Line → Type 0
Within columns rows l = IsLineWithin (page_width columns) (height_of rows) l

lives_within : (all : List Column) (rows : ℕ) (columns : List Column) → All (Within all rows) (lives_from all 30 (height_of rows) columns)
lives_within all rows [] = All-nil (Within all rows)
lives_within all rows (column ∷ columns) =
    let r = room all column.lane in
    All-cons (Within all rows) (line stroke.Life (place_of all column.lane) 30 (place_of all column.lane) (height_of rows)) (lives_from all 30 (height_of rows) columns)
    (record { x1 = omega arith; y1 = omega arith; x2 = omega arith; y2 = omega arith })
    (lives_within all rows columns)

downs_within : (columns : List Column) (rows row : ℕ) (down : List Node) → row < rows → All (Within columns rows) (map (down_line columns row) down)
downs_within columns rows row [] few = All-nil (Within columns rows)
downs_within columns rows row (node ∷ down) few =
    let r = room columns (At node) in
    All-cons (Within columns rows) (down_line columns row node) (map (down_line columns row) down)
    (record { x1 = omega arith; y1 = omega arith; x2 = omega arith; y2 = omega arith })
    (downs_within columns rows row down few)

-- an arrow comes from a row above
abbrev ComesFromAbove : ℕ → Link → Type 0
ComesFromAbove row (link.Arrow from at) = at < row
ComesFromAbove row _ = Unit {0}

link_within : (columns : List Column) (rows row : ℕ) (lane : Lane) (l : Link) → row < rows → ComesFromAbove row l → All (Within columns rows) (option_to_list (link_line columns row lane l))
link_within columns rows row lane link.Nothing few above = All-nil (Within columns rows)
link_within columns rows row lane (link.Call node) few above =
    let r = room columns lane in let s = room columns (At node) in
    All-cons (Within columns rows) (line stroke.Call (place_of columns lane) (height_of row) (place_of columns (At node)) (height_of row)) []
    (record { x1 = omega arith; y1 = omega arith; x2 = omega arith; y2 = omega arith }) (All-nil (Within columns rows))
link_within columns rows row lane (link.Arrow from at) few above =
    let r = room columns lane in let s = room columns (At from) in
    All-cons (Within columns rows) (line stroke.Message (place_of columns (At from)) (height_of at) (place_of columns lane) (height_of row)) []
    (record { x1 = omega arith; y1 = omega arith; x2 = omega arith; y2 = omega arith }) (All-nil (Within columns rows))
link_within columns rows row lane link.Stub few above =
    let r = room columns lane in
    All-cons (Within columns rows) (line stroke.Stub (place_of columns lane - 24) (height_of row) (place_of columns lane) (height_of row)) []
    (record { x1 = omega arith; y1 = omega arith; x2 = omega arith; y2 = omega arith }) (All-nil (Within columns rows))

latest_above : (before : List Item) (message : Message) (found : Option ℕ) → IsLatest before message found → ComesFromAbove (length before) (arrow_from (sender message) found)
latest_above before message None known = tt
latest_above before message (Some row) known =
    let whole : length before ≡ length known.front + length (known.sending ∷ known.behind) = ap length known.order ∙ length-append known.front (known.sending ∷ known.behind) in
    omega (arith, whole, known.place)

call_above : (row : ℕ) (lane : Lane) (node : Option Node) → ComesFromAbove row (call_of lane node)
call_above row Front None = tt
call_above row Front (Some node) = tt
call_above row (Client txn) None = tt
call_above row (Client txn) (Some node) = tt
call_above row (At at) None = tt
call_above row (At at) (Some node) = tt

event_above : (before : List Item) (c : Course) (e : Event) → ComesFromAbove (length before) (link_in before c (item.Event e))
event_above before c (event.Deliver message) = latest_above before message (latest before message) (is_latest before message)
event_above before c (event.Begin txn coord) = call_above (length before) c.lane c.node
event_above before c (event.Local txn member) = call_above (length before) c.lane c.node
event_above before c (event.Read txn member key) = call_above (length before) c.lane c.node
event_above before c (event.Write txn member key value) = call_above (length before) c.lane c.node
event_above before c (event.Erase txn member key) = call_above (length before) c.lane c.node
event_above before c (event.Scan txn member range) = call_above (length before) c.lane c.node
event_above before c (event.Commit txn) = call_above (length before) c.lane c.node
event_above before c (event.Abort txn) = call_above (length before) c.lane c.node
event_above before c (event.Vote txn member) = call_above (length before) c.lane c.node
event_above before c (event.Timer txn node) = call_above (length before) c.lane c.node
event_above before c (event.Ask txn member) = call_above (length before) c.lane c.node
event_above before c (event.Resend txn coord) = call_above (length before) c.lane c.node
event_above before c (event.Crash node) = call_above (length before) c.lane c.node
event_above before c (event.Restart node) = call_above (length before) c.lane c.node
event_above before c (event.Arm node call leaves) = call_above (length before) c.lane c.node
event_above before c (event.Checkpoint node) = call_above (length before) c.lane c.node

above : (before : List Item) (c : Course) (what : ItemKind) → ComesFromAbove (length before) (link_in before c what)
above before c (item.Head head) = tt
above before c (item.Event e) = event_above before c e
above before c (item.Log mark) = tt
above before c (item.Sent message) = tt
above before c (item.Answered said) = tt

lines_within : (columns : List Column) (rows : ℕ) (before : List Item) (c : Course) (items : List Item) → length before + length items ≤ rows →
    All (Within columns rows) (lines_from columns (length before) (entries_from before c items))
lines_within columns rows before c [] few = All-nil (Within columns rows)
lines_within columns rows before c (it ∷ items) few =
    let entry = entry_of before (after c it.what) it in
    let more : length (before ++ it ∷ []) ≡ length before + 1 = length-append before (it ∷ []) in
    let row_few : length before < rows = omega (arith, few) in
    let rest = lines_within columns rows (before ++ it ∷ []) (after c it.what) items (omega (arith, few, more)) in
    All-append (Within columns rows) (lines_of columns (length before) entry) (lines_from columns (length before + 1) (entries_from (before ++ it ∷ []) (after c it.what) items))
    (All-append (Within columns rows) (map (down_line columns (length before)) entry.down) (option_to_list (link_line columns (length before) entry.lane entry.link))
    (downs_within columns rows (length before) entry.down row_few)
    (link_within columns rows (length before) entry.lane entry.link row_few (above before (after c it.what) it.what)))
    (subst (λ n. All (Within columns rows) (lines_from columns n (entries_from (before ++ it ∷ []) (after c it.what) items))) more rest)

-- ---- texts

abbrev Shown : List Column → ℕ → Label → Type 0
Shown columns rows l = IsLabelWithin (page_width columns) (height_of rows) l

titles_within : (all : List Column) (rows : ℕ) (columns : List Column) → All (Shown all rows) (titles_from all 20 columns)
titles_within all rows [] = All-nil (Shown all rows)
titles_within all rows (column ∷ columns) =
    let r = room all column.lane in
    All-cons (Shown all rows) (label style.Title (place_of all column.lane) 20 column.title) (titles_from all 20 columns)
    (record { x = omega arith; y = omega arith }) (titles_within all rows columns)

number_within : (columns : List Column) (rows row : ℕ) (r : Role) (number : ℕ) → row < rows → All (Shown columns rows) (number_labels row r number)
number_within columns rows row role.Event number few =
    let wide = width_least (end_from left columns) in
    All-cons (Shown columns rows) (label style.Number 4 (height_of row + 4) (decimal number)) []
    (record { x = omega arith; y = omega arith }) (All-nil (Shown columns rows))
number_within columns rows row role.Record number few = All-nil (Shown columns rows)
number_within columns rows row role.Sending number few = All-nil (Shown columns rows)
number_within columns rows row role.Answer number few = All-nil (Shown columns rows)

numbers_within : (columns : List Column) (rows row : ℕ) (entries : List Entry) → row + length entries ≤ rows → All (Shown columns rows) (numbers_from row entries)
numbers_within columns rows row [] few = All-nil (Shown columns rows)
numbers_within columns rows row (entry ∷ entries) few =
    All-append (Shown columns rows) (number_labels row entry.role entry.number) (numbers_from (row + 1) entries)
    (number_within columns rows row entry.role entry.number (omega (arith, few))) (numbers_within columns rows (row + 1) entries (omega (arith, few)))

texts_within : (columns : List Column) (rows row : ℕ) (entries : List Entry) → row + length entries ≤ rows → All (Shown columns rows) (texts_from columns row entries)
texts_within columns rows row [] few = All-nil (Shown columns rows)
texts_within columns rows row (entry ∷ entries) few =
    let r = room columns entry.lane in
    All-cons (Shown columns rows) (text_label columns row entry) (texts_from columns (row + 1) entries)
    (record { x = omega arith; y = omega (arith, few) }) (texts_within columns rows (row + 1) entries (omega (arith, few)))

-- ---- the whole

entry_each : (before : List Item) (c : Course) (items : List Item) → length (entries_from before c items) ≡ length items
entry_each before c [] = refl
entry_each before c (it ∷ items) = ap suc (entry_each (before ++ it ∷ []) (after c it.what) items)

pub within_page : (items : List Item) → IsWithinPage (picture_of items)
within_page items =
    let columns = columns_of (head_of items) (entries_of items) in
    let rows = length (entries_of items) in
    let same : length (entries_of items) ≡ length items = entry_each [] at_first items in
    record {
      lines = All-append (Within columns rows) (lives_from columns 30 (height_of rows) columns) (lines_from columns 0 (entries_of items))
          (lives_within columns rows columns) (lines_within columns rows [] at_first items (omega (arith, same)));
      labels = All-append (Shown columns rows) (titles_from columns 20 columns) (numbers_from 0 (entries_of items) ++ texts_from columns 0 (entries_of items))
          (titles_within columns rows columns)
          (All-append (Shown columns rows) (numbers_from 0 (entries_of items)) (texts_from columns 0 (entries_of items))
          (numbers_within columns rows 0 (entries_of items) (omega arith)) (texts_within columns rows 0 (entries_of items) (omega arith)));
    }
