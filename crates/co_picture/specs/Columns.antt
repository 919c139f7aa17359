-- The columns of a picture: its lanes, each as wide as its longest text.
use Rattle.std.specs.Prelude.{ℕ, Bool, zero, suc, ◌+◌, ◌*◌, ◌-◌, ◌==◌, nat_lt, max, min, if◌then◌else◌, List, [], ◌∷◌, ◌++◌, map, length, insert, slice_get, Option, None, Some, codes, decimal}
use Rattle.std.specs.List.{list_any}
use Rattle.co_base.specs.declared.head.Head.{Head}
use Rattle.co_base.specs.declared.head.Kind.{Kind}
use Rattle.co_base.specs.declared.node.Node.{Node}
use Rattle.co_base.specs.declared.node.Node.TheVariants.{Member, Coord}
use Rattle.co_schedule.specs.Spelling.{member_word, coord_word, kind_word}
use Rattle.co_schedule.specs.Words.{space}
use Rattle.co_picture.specs.Lanes.{rank, same_lane}
use Rattle.co_picture.specs.declared.column.Column.{Column}
use Rattle.co_picture.specs.declared.entry.Entry.{Entry}
use Rattle.co_picture.specs.declared.entry.Link.{Link}
use Rattle.co_picture.specs.declared.entry.Link.TheVariants as link
use Rattle.co_picture.specs.declared.lane.Lane.{Lane}
use Rattle.co_picture.specs.declared.lane.Lane.TheVariants.{Front, Client, At}

-- ---- the lanes, in the order of their ranks

-- the place of the first lane with a greater rank, or the end
abbrev pub slot_from : ℕ → List Lane → ℕ → ℕ
slot_from slot [] wanted = slot
slot_from slot (other ∷ lanes) wanted = if nat_lt wanted (rank other) then slot else slot_from (slot + 1) lanes wanted

abbrev pub slot_in : List Lane → ℕ → ℕ
slot_in lanes wanted = slot_from 0 lanes wanted

abbrev pub has_rank : List Lane → ℕ → Bool
has_rank lanes wanted = list_any (λ other. rank other == wanted) lanes

abbrev pub with_lane : List Lane → Lane → List Lane
with_lane lanes lane = if has_rank lanes (rank lane) then lanes else insert lanes (slot_in lanes (rank lane)) lane

-- what stands at the left edge has no lane
abbrev pub laned : List Lane → Lane → List Lane
laned lanes Front = lanes
laned lanes (Client txn) = with_lane lanes (Client txn)
laned lanes (At node) = with_lane lanes (At node)

abbrev pub linked : List Lane → Link → List Lane
linked lanes (link.Call node) = with_lane lanes (At node)
linked lanes _ = lanes

abbrev pub with_entry : List Lane → Entry → List Lane
with_entry lanes entry = linked (laned lanes entry.lane) entry.link

abbrev pub lanes_from : List Lane → List Entry → List Lane
lanes_from lanes [] = lanes
lanes_from lanes (entry ∷ entries) = lanes_from (with_entry lanes entry) entries

abbrev pub coord_lanes : ℕ → List Lane
coord_lanes zero = []
coord_lanes (suc count) = coord_lanes count ++ At (Coord (suc count)) ∷ []

abbrev pub member_lanes : ℕ → List Lane
member_lanes zero = []
member_lanes (suc count) = member_lanes count ++ At (Member (suc count)) ∷ []

abbrev pub lanes_in_head : Option Head → List Lane
lanes_in_head None = []
lanes_in_head (Some head) = coord_lanes head.coords ++ member_lanes (length head.kinds)

-- the lanes of the nodes of the head, and of the clients and nodes of the items
abbrev pub lanes_of : Option Head → List Entry → List Lane
lanes_of head entries = lanes_from (lanes_in_head head) entries

-- more than any picture has
abbrev pub most_lanes : ℕ
most_lanes = 20024

-- ---- titles and widths

-- the kind of a member, where the head has it
abbrev pub kind_of : Option Head → ℕ → Option Kind
kind_of None member = None
kind_of (Some head) zero = None
kind_of (Some head) (suc member) = slice_get head.kinds member

abbrev pub kind_title : Option Kind → List ℕ
kind_title None = []
kind_title (Some kind) = space ∷ kind_word kind

abbrev pub node_title : Option Head → Node → List ℕ
node_title head (Coord number) = coord_word number
node_title head (Member number) = member_word number ++ kind_title (kind_of head number)

abbrev pub title_of : Option Head → Lane → List ℕ
title_of head Front = []
title_of head (Client txn) = codes "client " ++ decimal txn
title_of head (At node) = node_title head node

-- a lane has room for as many letters as its longest text has, and for 64 at most, which are more than any text has
abbrev pub longest_from : ℕ → Lane → List Entry → ℕ
longest_from most lane [] = most
longest_from most lane (entry ∷ entries) =
    longest_from (if same_lane entry.lane lane then min (max most (length entry.text)) 64 else most) lane entries

abbrev pub longest : ℕ → Lane → List Entry → ℕ
longest least lane entries = longest_from (min least 64) lane entries

-- a letter is 8 pixels wide
abbrev pub column_of : Option Head → List Entry → Lane → Column
column_of head entries lane =
    record { lane = lane; title = title_of head lane; width = 24 + 8 * longest (length (title_of head lane)) lane entries }

abbrev pub columns_of : Option Head → List Entry → List Column
columns_of head entries = map (column_of head entries) (lanes_of head entries)

-- ---- places

-- the left edge, which has room for the numbers of the lines
abbrev pub left : ℕ
left = 48

abbrev pub place_from : ℕ → List Column → ℕ → ℕ
place_from place [] wanted = place
place_from place (column ∷ columns) wanted = if rank column.lane == wanted then place else place_from (place + column.width) columns wanted

-- where a lane begins
abbrev pub place_of : List Column → Lane → ℕ
place_of columns Front = left
place_of columns (Client txn) = place_from left columns (rank (Client txn))
place_of columns (At node) = place_from left columns (rank (At node))

abbrev pub end_from : ℕ → List Column → ℕ
end_from place [] = place
end_from place (column ∷ columns) = end_from (place + column.width) columns

abbrev pub page_width : List Column → ℕ
page_width columns = max 420 (end_from left columns + 24)
