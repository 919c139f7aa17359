-- Runs: a list of happenings, and the items that they tell.
use Rattle.std.specs.Prelude.{suc, List, [], ◌∷◌, ◌++◌, map}
use Rattle.co_message.specs.declared.event.Event.{Event}
use Rattle.co_message.specs.declared.item.Item.{Item}
use Rattle.co_message.specs.declared.item.ItemKind.{ItemKind}
use Rattle.co_message.specs.declared.item.ItemKind.TheVariants as item
use Rattle.co_plain.specs.declared.happening.Happening.{Happening}
use Rattle.co_plain.specs.declared.happening.Happening.TheVariants as happening
use Rattle.co_plain.specs.Numbers.{LineNumber}
use Rattle.co_plain.specs.Federation.{Federation}
use Rattle.co_plain.specs.Step.{step}

-- the state after these happenings, the first one first
abbrev pub run : List Happening → Federation → Federation
run [] s = s
run (h ∷ hs) s = run hs (step s h).state

-- items of one line bear its number
abbrev pub numbered : LineNumber → List ItemKind → List Item
numbered number items = map (λ what. record { number = number; what = what }) items

-- the items of the events of schedule lines, the first of which has this number: each event tells itself,
-- and then what came of it
abbrev pub transcript : LineNumber → List Event → Federation → List Item
transcript number [] s = []
transcript number (e ∷ es) s =
    numbered number (item.Event e ∷ (step s (happening.Line e)).items) ++ transcript (suc number) es (step s (happening.Line e)).state

abbrev pub lines : List Event → List Happening
lines events = map happening.Line events
