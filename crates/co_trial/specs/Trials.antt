-- A trial: its one run, and what its summary says of that.
use Rattle.std.specs.Prelude.{ℕ, suc, ◌≡◌, ◌<◌, ◌+◌, ◌++◌, true, List, [], ◌∷◌, length, Option, Some, string_bytes}
use Rattle.std.specs.FinMap.{keys}
use Rattle.hex.specs.Hex.{encode_lower}
use Rattle.sha2.specs.Sha256.{sha256}
use Rattle.co_base.specs.declared.head.Head.{Head}
use Rattle.co_base.specs.declared.head.Kind.TheVariants.{Lock, Occ, Mv}
use Rattle.co_law_settle.specs.SettlingTurns.{Settles}
use Rattle.co_message.specs.declared.event.Event.{Event}
use Rattle.co_message.specs.declared.item.Item.{Item}
use Rattle.co_message.specs.declared.item.ItemKind.TheVariants as item
use Rattle.co_opening.specs.Found.{AreFound, MayRun, AreUnused}
use Rattle.co_outside.specs.declared.spot.Spot.{Spot}
use Rattle.co_outside.specs.Home.{File, empty_file}
use Rattle.co_plain.specs.Federation.{Federation}
use Rattle.co_plain.specs.Opening.{Found, opened, opening_items}
use Rattle.co_plain.specs.Runs.{run, transcript, lines, numbered}
use Rattle.co_plain.specs.Step.{disarmed}
use Rattle.co_replay.specs.Transcript.{items_text}
use Rattle.co_trial.specs.Making.{first_events}
use Rattle.co_trial.specs.declared.summary.Summary.{Summary}

-- the most events of a trial
abbrev pub most_trial_events : ℕ
most_trial_events = 60000

-- The federation of a trial: a member of each kind and two coordinators, opened over logs without records, as they are found in empty files.
pub record Opened : Type 0 where
  pub head : Head
  pub kinds : head.kinds ≡ Lock ∷ Occ ∷ Mv ∷ []
  pub coords : head.coords ≡ 2
  pub file : Spot → Option File
  pub empty : (s : Spot) → s.part < 2 → file s ≡ Some empty_file
  pub found_member : ℕ → Found
  pub found_coord : ℕ → Found
  pub found : AreFound file (length head.kinds) head.coords found_member found_coord
  pub may : MayRun head.kinds head.coords found_member found_coord
  pub unused : AreUnused found_member found_coord

abbrev pub start_of : Opened → Federation
start_of o = opened o.head.kinds o.head.coords o.found_member o.found_coord

-- what opening tells
abbrev pub opening_told : Opened → List Item
opening_told o = numbered 1 (item.Head o.head ∷ opening_items o.head.kinds o.head.coords o.found_member o.found_coord)

-- the state behind the events that were made; and behind those of settling, before which the armed stops were taken away
abbrev pub played_to : Opened → ℕ → ℕ → Federation
played_to o number count = run (lines (first_events (start_of o) number count)) (start_of o)

abbrev pub settled_to : Opened → ℕ → ℕ → List Event → Federation
settled_to o number count settling = run (lines settling) (disarmed (played_to o number count))

-- the items of the head, of the events, and of settling, in their order
abbrev pub trial_items : Opened → ℕ → ℕ → List Event → List Item
trial_items o number count settling =
    opening_told o ++ transcript 2 (first_events (start_of o) number count) (start_of o) ++ transcript (suc (count + 1)) settling (disarmed (played_to o number count))

-- The summary of the trial with this number and so many events. It says that the durable records are those of the decided transactions, run whole one by one in the
-- order of their decisions, as they always are.
pub record IsTrial (number count : ℕ) (summary : Summary) : Type 0 where
  pub opened : Opened
  pub settling : List Event
  pub settles : Settles (played_to opened number count) settling
  pub begun : summary.begun ≡ length (keys (settled_to opened number count settling).sessions)
  pub committed : summary.committed ≡ length (settled_to opened number count settling).decided
  pub digest : string_bytes summary.digest ≡ encode_lower (sha256 (items_text (trial_items opened number count settling)))
  pub equal : summary.equal ≡ true
  pub events : summary.events ≡ count
  pub number_is : summary.number ≡ number
  pub open_none : summary.open ≡ 0
  pub settled : summary.settled ≡ length settling
