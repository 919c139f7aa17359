-- How a replay ends, and how the federation of a head is opened in a directory.
use Rattle.std.specs.Prelude.{ℕ, Bool, ◌≡◌, ◌∷◌, ◌++◌, List, [], Option, Result, Ok, Err}
use Rattle.co_base.specs.declared.head.Head.{Head}
use Rattle.co_message.specs.declared.item.Item.{Item}
use Rattle.co_message.specs.declared.item.ItemKind.TheVariants as item
use Rattle.co_outside.specs.declared.spot.Spot.{Spot}
use Rattle.co_outside.specs.Home.{File}
use Rattle.co_durable.specs.declared.fault.WorldFault.TheVariants as world
use Rattle.co_opening.specs.Opened.{IsUnopened}
use Rattle.co_plain.specs.Runs.{numbered}
use Rattle.co_replay.specs.Transcript.{items_text}
use Rattle.co_top.specs.Telling.{IsPut, IsPutInPart}
use Rattle.co_top.specs.declared.status.LimitKind.TheVariants as limit
use Rattle.co_top.specs.declared.status.Status.{Status}
use Rattle.co_top.specs.declared.status.Status.TheVariants as status

abbrev pub status_of : {A : Type 0} → Result A Status → Status
status_of (Ok a) = status.Done
status_of (Err ended) = ended

-- the text of the first line: the head, and what opening told
abbrev pub opening_text : Head → List Item → List ℕ
opening_text head items = items_text (numbered 1 (item.Head head ∷ []) ++ items)

-- why a federation was not opened
abbrev pub IsUnopenedAs : (Spot → Option File) → Head → Bool → Status → Type 0
IsUnopenedAs file head resume (status.Device spot) = Unit {0}
IsUnopenedAs file head resume (status.InUse spot) = IsUnopened file head resume (world.InUse spot)
IsUnopenedAs file head resume (status.BadLog spot at) = IsUnopened file head resume (world.Bad spot at)
IsUnopenedAs file head resume (status.OldLog spot) = IsUnopened file head resume (world.Old spot)
IsUnopenedAs file head resume (status.Limit limit.Transactions) = IsUnopened file head resume world.Count
IsUnopenedAs file head resume (status.Limit (limit.Log spot)) = IsUnopened file head resume (world.Full spot)
IsUnopenedAs file head resume status.Memory = Unit {0}
IsUnopenedAs file head resume _ = ⊥

-- the refusals of what was found in the files, before which none is changed
abbrev pub IsOfFiles : Status → Type 0
IsOfFiles (status.InUse spot) = Unit {0}
IsOfFiles (status.BadLog spot at) = Unit {0}
IsOfFiles (status.OldLog spot) = Unit {0}
IsOfFiles (status.Limit what) = Unit {0}
IsOfFiles _ = ⊥

-- how the text of the first line was put
abbrev pub IsOpeningTold : Head → List Item → Option (List ℕ) → Option (List ℕ) → Result Head Status → Type 0
IsOpeningTold head items held told (Ok same) = (same ≡ head) × IsPut (opening_text head items) held told
IsOpeningTold head items held told (Err status.Write) = IsPutInPart (opening_text head items) held told
IsOpeningTold head items held told (Err status.Memory) = IsPutInPart (opening_text head items) held told
IsOpeningTold head items held told (Err _) = ⊥

-- the head again, where the text of the first line was put
abbrev pub given_back : Head → Result (Unit {0}) Status → Result Head Status
given_back head (Ok u) = Ok head
given_back head (Err why) = Err why
