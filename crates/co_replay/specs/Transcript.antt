-- Whole transcripts: the text of items, and the items of a run over logs as they are found.
use Rattle.std.specs.Prelude.{ℕ, List, [], ◌∷◌, ◌++◌}
use Rattle.co_base.specs.declared.head.Head.{Head}
use Rattle.co_message.specs.declared.event.Event.{Event}
use Rattle.co_message.specs.declared.item.Item.{Item}
use Rattle.co_message.specs.declared.item.ItemKind.TheVariants as item
use Rattle.co_plain.specs.Opening.{Found, opened, opening_items}
use Rattle.co_plain.specs.Runs.{numbered, transcript}
use Rattle.co_schedule.specs.LineText.{newline}
use Rattle.co_transcript.specs.Spelling.{item_text}

-- each item is a line
abbrev pub items_text : List Item → List ℕ
items_text [] = []
items_text (i ∷ is) = (item_text i ++ newline ∷ []) ++ items_text is

-- the items of a schedule with this head and these events, over these logs: those of the head, and then those of
-- each event in its turn
abbrev pub run_items : Head → (ℕ → Found) → (ℕ → Found) → List Event → List Item
run_items head found_member found_coord events =
    numbered 1 (item.Head head ∷ opening_items head.kinds head.coords found_member found_coord)
    ++ transcript 2 events (opened head.kinds head.coords found_member found_coord)
