-- The decided transactions, run whole one by one in the order of their decisions.
use Rattle.std.specs.Prelude.{◌≡◌, List, [], ◌∷◌, length, map}
use Rattle.co_base.specs.declared.mark.Mark.{Mark}
use Rattle.co_message.specs.declared.item.Item.{Item}
use Rattle.co_message.specs.declared.item.ItemKind.{ItemKind}
use Rattle.co_message.specs.declared.item.ItemKind.TheVariants as item
use Rattle.co_plain.specs.declared.session.Decided.{Decided}
use Rattle.co_plain.specs.Federation.{Federation}
use Rattle.co_plain.specs.Promises.{serial_records}
use Rattle.co_serial.specs.Family.{family_of}
use Rattle.co_trial.specs.declared.deciding.Decisions.{Decisions}

-- the records that became stable
abbrev pub marks_in : List ItemKind → List Mark
marks_in [] = []
marks_in (item.Head head ∷ items) = marks_in items
marks_in (item.Event e ∷ items) = marks_in items
marks_in (item.Log mark ∷ items) = mark ∷ marks_in items
marks_in (item.Sent note ∷ items) = marks_in items
marks_in (item.Answered a ∷ items) = marks_in items

abbrev pub marks_of : List Item → List Mark
marks_of items = marks_in (map (λ i. i.what) items)

-- so many were decided, and the map has what they leave, over what the opened logs gave
pub record AreRun (s0 : Federation) (d : Decisions) (decided : List Decided) : Type 0 where
  pub count : length d.txns.items ≡ length decided
  pub records : family_of d.serial ≡ serial_records s0 decided
