-- The picture of a transcript: a row for each item, under one another, and a lane for each client and each node.
use Rattle.std.specs.Prelude.{ℕ, ◌+◌, ◌-◌, ◌*◌, List, [], ◌∷◌, ◌++◌, map, length, option_to_list, Option, None, Some, decimal}
use Rattle.co_base.specs.declared.head.Head.{Head}
use Rattle.co_base.specs.declared.node.Node.{Node}
use Rattle.co_message.specs.declared.item.Item.{Item}
use Rattle.co_message.specs.declared.item.ItemKind.{ItemKind}
use Rattle.co_message.specs.declared.item.ItemKind.TheVariants as item
use Rattle.co_picture.specs.Columns.{columns_of, place_of, page_width, left}
use Rattle.co_picture.specs.Entry.{entries_of}
use Rattle.co_svg.specs.Svg.{line_text, Picture, Label, label}
use Rattle.co_picture.specs.declared.column.Column.{Column}
use Rattle.co_picture.specs.declared.entry.Entry.{Entry}
use Rattle.co_picture.specs.declared.entry.Link.{Link}
use Rattle.co_picture.specs.declared.entry.Link.TheVariants as link
use Rattle.co_picture.specs.declared.entry.Role.{Role}
use Rattle.co_picture.specs.declared.entry.Role.TheVariants as role
use Rattle.co_picture.specs.declared.lane.Lane.{Lane}
use Rattle.co_picture.specs.declared.lane.Lane.TheVariants.{At}
use Rattle.co_svg.specs.declared.shape.Line.{Line}
use Rattle.co_svg.specs.declared.shape.Stroke.{Stroke}
use Rattle.co_svg.specs.declared.shape.Stroke.TheVariants as stroke
use Rattle.co_svg.specs.declared.shape.Style.{Style}
use Rattle.co_svg.specs.declared.shape.Style.TheVariants as style

-- the height of a row in the middle of it; the titles stand above the first one
abbrev pub height_of : ℕ → ℕ
height_of row = 48 + 18 * row

-- the head of a transcript, where it has one
abbrev pub head_in : ItemKind → Option Head
head_in (item.Head head) = Some head
head_in _ = None

abbrev pub head_of : List Item → Option Head
head_of [] = None
head_of (it ∷ items) = head_in it.what

-- ---- lines

abbrev pub line : Stroke → ℕ → ℕ → ℕ → ℕ → Line
line stroke x1 y1 x2 y2 = record { stroke = stroke; x1 = x1; y1 = y1; x2 = x2; y2 = y2 }

-- the life lines of all lanes, from under the titles to the bottom
abbrev pub life_line : List Column → ℕ → ℕ → Lane → Line
life_line all top bottom lane = line stroke.Life (place_of all lane) top (place_of all lane) bottom

abbrev pub lives_from : List Column → ℕ → ℕ → List Column → List Line
lives_from all top bottom [] = []
lives_from all top bottom (column ∷ columns) =
    life_line all top bottom column.lane ∷ lives_from all top bottom columns

-- the life line of a node that is down is dashed in this row
abbrev pub down_line : List Column → ℕ → Node → Line
down_line columns row node =
    line stroke.Down (place_of columns (At node)) (height_of row - 9) (place_of columns (At node)) (height_of row + 9)

abbrev pub link_line : List Column → ℕ → Lane → Link → Option Line
link_line columns row lane link.Nothing = None
link_line columns row lane (link.Call node) = Some (line stroke.Call (place_of columns lane) (height_of row) (place_of columns (At node)) (height_of row))
link_line columns row lane (link.Arrow from at) = Some (line stroke.Message (place_of columns (At from)) (height_of at) (place_of columns lane) (height_of row))
link_line columns row lane link.Stub = Some (line stroke.Stub (place_of columns lane - 24) (height_of row) (place_of columns lane) (height_of row))

abbrev pub option_line_text : Option Line → List ℕ
option_line_text None = []
option_line_text (Some l) = line_text l

abbrev pub lines_of : List Column → ℕ → Entry → List Line
lines_of columns row entry = map (down_line columns row) entry.down ++ option_to_list (link_line columns row entry.lane entry.link)

abbrev pub lines_from : List Column → ℕ → List Entry → List Line
lines_from columns row [] = []
lines_from columns row (entry ∷ entries) = lines_of columns row entry ++ lines_from columns (row + 1) entries

-- ---- texts

abbrev pub title_label : List Column → ℕ → Column → Label
title_label all height column = label style.Title (place_of all column.lane) height column.title

abbrev pub titles_from : List Column → ℕ → List Column → List Label
titles_from all height [] = []
titles_from all height (column ∷ columns) = title_label all height column ∷ titles_from all height columns

abbrev pub style_of : Role → Style
style_of role.Event = style.Event
style_of role.Record = style.Record
style_of role.Sending = style.Sending
style_of role.Answer = style.Answer

-- the number of a line stands beside its event
abbrev pub number_label : ℕ → ℕ → Label
number_label row number = label style.Number 4 (height_of row + 4) (decimal number)

abbrev pub number_labels : ℕ → Role → ℕ → List Label
number_labels row role.Event number = number_label row number ∷ []
number_labels row _ number = []

abbrev pub numbers_from : ℕ → List Entry → List Label
numbers_from row [] = []
numbers_from row (entry ∷ entries) = number_labels row entry.role entry.number ++ numbers_from (row + 1) entries

-- each item has one text, in its own row
abbrev pub text_label : List Column → ℕ → Entry → Label
text_label columns row entry = label (style_of entry.role) (place_of columns entry.lane + 8) (height_of row + 4) entry.text

abbrev pub texts_from : List Column → ℕ → List Entry → List Label
texts_from columns row [] = []
texts_from columns row (entry ∷ entries) = text_label columns row entry ∷ texts_from columns (row + 1) entries

-- ---- the whole

abbrev pub picture_in : List Column → List Entry → Picture
picture_in columns entries = record {
  width = page_width columns;
  height = height_of (length entries);
  lines = lives_from columns 30 (height_of (length entries)) columns ++ lines_from columns 0 entries;
  labels = titles_from columns 20 columns ++ (numbers_from 0 entries ++ texts_from columns 0 entries);
}

abbrev pub picture_of : List Item → Picture
picture_of items = picture_in (columns_of (head_of items) (entries_of items)) (entries_of items)
