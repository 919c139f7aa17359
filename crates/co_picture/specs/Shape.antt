-- The shape of a transcript that is drawn: groups of lines, each an event, the records that became stable, the messages that were sent, and the
-- answer. The first group is that of the head. The numbers of the groups go on by one. A transcript that goes on over logs has no headers, and is drawn
-- as well.
use Rattle.std.specs.Prelude.{ℕ, Bool, true, false, ◌+◌, ◌==◌, if◌then◌else◌, List, [], ◌∷◌, Option, None, Some}
use Rattle.co_message.specs.declared.item.Item.{Item}
use Rattle.co_message.specs.declared.item.ItemKind.{ItemKind}
use Rattle.co_message.specs.declared.item.ItemKind.TheVariants as item
use Rattle.co_picture.specs.declared.stand.Stand.{Stand}
use Rattle.co_picture.specs.declared.stand.Stand.TheVariants.{AtFront, InGroup, Behind}

-- the number that the next line has
abbrev pub number_at : Stand → ℕ
number_at AtFront = 1
number_at (InGroup number sending) = number
number_at (Behind number) = number + 1

-- behind one more line of a group
abbrev pub in_group : ℕ → Bool → ItemKind → Option Stand
in_group number sending (item.Log mark) = if sending then None else Some (InGroup number false)
in_group number sending (item.Sent sent) = Some (InGroup number true)
in_group number sending (item.Answered said) = Some (Behind number)
in_group number sending _ = None

abbrev pub at_front : ℕ → ItemKind → Option Stand
at_front number (item.Head head) = Some (InGroup number false)
at_front number _ = None

abbrev pub behind : ℕ → ItemKind → Option Stand
behind number (item.Event e) = Some (InGroup number false)
behind number _ = None

-- behind one more line of this number
abbrev pub told_at : ℕ → Stand → ItemKind → Option Stand
told_at number AtFront what = at_front number what
told_at number (InGroup old sending) what = in_group number sending what
told_at number (Behind old) what = behind number what

-- behind one more line, or none where it breaks the shape
abbrev pub next : Stand → Item → Option Stand
next s it = if it.number == number_at s then told_at it.number s it.what else None

abbrev pub next_of : Option Stand → Item → Option Stand
next_of None it = None
next_of (Some s) it = next s it

abbrev pub stand_from : Option Stand → List Item → Option Stand
stand_from s [] = s
stand_from s (it ∷ items) = stand_from (next_of s it) items

-- where a transcript stands behind these items
abbrev pub stand_of : List Item → Option Stand
stand_of items = stand_from (Some AtFront) items

-- the last group is whole
abbrev pub is_whole : Stand → Bool
is_whole AtFront = false
is_whole (InGroup number sending) = false
is_whole (Behind number) = true
