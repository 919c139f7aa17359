-- The shape of a transcript: groups with the numbers 1, 2, 3 and so on, each an event, what became stable, what was sent and one reply.
-- The first event is a head, whose group tells a header of generation 1 for each of its nodes and ends with `open`.
use Rattle.std.specs.Prelude.{ℕ, suc, zero, Bool, true, false, ◌&&◌, ◌||◌, ◌==◌, ◌+◌, nat_le, List, [], ◌∷◌, ◌++◌, length, if◌then◌else◌, Option, None, Some}
use Rattle.co_base.specs.declared.head.Head.{Head}
use Rattle.co_base.specs.declared.mark.Mark.{Mark}
use Rattle.co_base.specs.declared.mark.MarkKind.{MarkKind}
use Rattle.co_base.specs.declared.mark.MarkKind.TheVariants as kind
use Rattle.co_base.specs.declared.node.Node.{Node}
use Rattle.co_base.specs.declared.node.Node.TheVariants as node
use Rattle.co_message.specs.declared.answer.Answer.{Answer}
use Rattle.co_message.specs.declared.answer.Answer.TheVariants as answer
use Rattle.co_message.specs.declared.event.Event.{Event}
use Rattle.co_message.specs.declared.event.Event.TheVariants as event
use Rattle.co_message.specs.declared.item.Item.{Item}
use Rattle.co_message.specs.declared.item.ItemKind.{ItemKind}
use Rattle.co_message.specs.declared.item.ItemKind.TheVariants as item
use Rattle.co_message.specs.declared.message.Message.{Message}
use Rattle.co_message.specs.declared.message.Message.TheVariants as message
use Rattle.co_base.specs.Nodes.{same_node}
use Rattle.co_check.specs.declared.place.Place.{Place}
use Rattle.co_check.specs.declared.place.Place.TheVariants.{AtFront, InHead, InGroup, Behind}
use Rattle.co_check.specs.Account.{Account, no_account, marked, replied}

-- ---- which events fit a head

abbrev pub is_member : Head → ℕ → Bool
is_member head m = nat_le 1 m && nat_le m (length head.kinds)

abbrev pub is_coord : Head → ℕ → Bool
is_coord head c = nat_le 1 c && nat_le c head.coords

abbrev pub is_node : Head → Node → Bool
is_node head (node.Member m) = is_member head m
is_node head (node.Coord c) = is_coord head c

abbrev pub is_sendable : Head → Message → Bool
is_sendable head (message.Prepare t c m count) = is_coord head c && is_member head m
is_sendable head (message.Vote t m c granted) = is_coord head c && is_member head m
is_sendable head (message.Decide t c m commit) = is_coord head c && is_member head m
is_sendable head (message.Ask t m c) = is_coord head c && is_member head m
is_sendable head (message.Ack t m c) = is_coord head c && is_member head m

abbrev pub fits : Head → Event → Bool
fits head (event.Begin t c) = is_coord head c
fits head (event.Local t m) = is_member head m
fits head (event.Read t m key) = is_member head m
fits head (event.Write t m key value) = is_member head m
fits head (event.Erase t m key) = is_member head m
fits head (event.Scan t m span) = is_member head m
fits head (event.Commit t) = true
fits head (event.Abort t) = true
fits head (event.Deliver sent) = is_sendable head sent
fits head (event.Vote t m) = is_member head m
fits head (event.Timer t at) = is_node head at
fits head (event.Ask t m) = is_member head m
fits head (event.Resend t c) = is_coord head c
fits head (event.Crash at) = is_node head at
fits head (event.Restart at) = is_node head at
fits head (event.Arm at call leaves) = is_node head at
fits head (event.Checkpoint at) = is_node head at

-- ---- headers

-- a header of generation 1
abbrev pub is_first_header : MarkKind → ℕ → Bool
is_first_header kind.Header generation = generation == 1
is_first_header _ generation = false

abbrev pub has_node : List Node → Node → Bool
has_node [] at = false
has_node (n ∷ ns) at = same_node n at || has_node ns at

abbrev pub with_node : List Node → Node → List Node
with_node seen at = if has_node seen at then seen else seen ++ at ∷ []

abbrev pub with_header : List Node → Mark → List Node
with_header seen mark = if is_first_header mark.kind mark.number then with_node seen mark.node else seen

abbrev pub has_members : List Node → ℕ → Bool
has_members seen zero = true
has_members seen (suc n) = has_node seen (node.Member (suc n)) && has_members seen n

abbrev pub has_coords : List Node → ℕ → Bool
has_coords seen zero = true
has_coords seen (suc n) = has_node seen (node.Coord (suc n)) && has_coords seen n

-- a header of every node of the head was told
abbrev pub has_headers : List Node → Head → Bool
has_headers seen head = has_members seen (length head.kinds) && has_coords seen head.coords

-- ---- the lines of a transcript, one after another

-- where it stands, and what it told so far
pub record Read : Type 0 where
  pub place : Place
  pub account : Account

abbrev pub unread : Read
unread = record { place = AtFront; account = no_account }

abbrev pub at_place : Place → Option Account → Option Read
at_place place None = None
at_place place (Some account) = Some (record { place = place; account = account })

-- the first line is a head
abbrev pub at_front : Account → ItemKind → Option Read
at_front a (item.Head head) = at_place (InHead head [] false) (Some a)
at_front a _ = None

abbrev pub is_open : Answer → Bool
is_open answer.Opened = true
is_open _ = false

abbrev pub opens : Account → Head → List Node → Answer → Option Read
opens a head seen said = if is_open said && has_headers seen head then at_place (Behind head 1) (Some a) else None

-- no mark stands behind a message, so every header was told before the first one
abbrev pub sends : Account → Head → List Node → Option Read
sends a head seen = if has_headers seen head then at_place (InHead head seen true) (Some a) else None

abbrev pub in_head : Account → Head → List Node → Bool → ItemKind → Option Read
in_head a head seen false (item.Log mark) = at_place (InHead head (with_header seen mark) false) (Some a)
in_head a head seen sending (item.Sent sent) = sends a head seen
in_head a head seen sending (item.Answered said) = opens a head seen said
in_head a head seen sending _ = None

abbrev pub in_group : Account → Head → ℕ → Event → Bool → ItemKind → Option Read
in_group a head number e false (item.Log mark) = at_place (InGroup head number e false) (marked a mark)
in_group a head number e sending (item.Sent sent) = at_place (InGroup head number e true) (Some a)
in_group a head number e sending (item.Answered said) = at_place (Behind head number) (replied a number e said)
in_group a head number e sending _ = None

abbrev pub behind : Account → Head → ℕ → ItemKind → Option Read
behind a head number (item.Event e) = if fits head e then at_place (InGroup head number e false) (Some a) else None
behind a head number _ = None

-- the number that an item has in its place
abbrev pub number_at : Place → ℕ
number_at AtFront = 1
number_at (InHead head seen sending) = 1
number_at (InGroup head number e sending) = number
number_at (Behind head number) = number + 1

abbrev pub told_at : Account → Place → ItemKind → Option Read
told_at a AtFront what = at_front a what
told_at a (InHead head seen sending) what = in_head a head seen sending what
told_at a (InGroup head number e sending) what = in_group a head number e sending what
told_at a (Behind head number) what = behind a head (number + 1) what

-- one more line, or none where it breaks the shape
abbrev pub next : Read → Item → Option Read
next r it = if it.number == number_at r.place then told_at r.account r.place it.what else None

-- lines one after another, up to one that breaks the shape
abbrev pub next_of : Option Read → Item → Option Read
next_of None it = None
next_of (Some r) it = next r it

abbrev pub read_from : Option Read → List Item → Option Read
read_from r [] = r
read_from r (it ∷ items) = read_from (next_of r it) items

abbrev pub read : List Item → Option Read
read items = read_from (Some unread) items

-- the last group is whole
abbrev pub is_whole : Place → Bool
is_whole AtFront = false
is_whole (InHead head seen sending) = false
is_whole (InGroup head number e sending) = false
is_whole (Behind head number) = true
