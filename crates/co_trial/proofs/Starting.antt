-- A trial at its start: nothing is in its files, and nothing was decided.
use Rattle.std.proofs.Common.{◌≡◌, ◌⊎◌, inl, inr, ℕ, ◌<◌, true, false, [], length, Option, Some, refl, sym, ap, ◌∙◌, arith}
use Rattle.std.specs.FinMap.{empty}
use Rattle.co_durable.specs.declared.fault.WorldFault.{WorldFault}
use Rattle.co_durable.specs.declared.fault.WorldFault.TheVariants as world
use Rattle.co_base.specs.declared.head.Head.{Head}
use Rattle.co_log.specs.LogView.{spot_of}
use Rattle.co_log.specs.Attaching.{IsLonger, IsWithin}
use Rattle.co_opening.specs.Opened.{IsUnopened}
use Rattle.co_outside.specs.declared.spot.Spot.{Spot}
use Rattle.co_outside.specs.Home.{File, empty_file}
use Rattle.co_outside.specs.Faults.{HasRisen}
use Rattle.co_plain.specs.DurableRecords.{starting_records, durable_records, with_decided}
use Rattle.co_serial.specs.Family.{family_of}
use Rattle.co_state.specs.declared.engine_state.Vote.{Vote}
use Rattle.co_trial.proofs.Unused.{none_entries}
use Rattle.co_trial.specs.Decisions.{AreRun}
use Rattle.co_trial.specs.Ended.{IsFaultOf}
use Rattle.co_trial.specs.Trials.{Opened, start_of}
use Rattle.co_trial.specs.declared.deciding.Decisions.{Decisions}

nothing_durable : (m : ℕ) → durable_records (λ k. []) (λ k. []) m ≡ empty
nothing_durable m = ap (with_decided (λ k. []) empty) (none_entries {X = Vote})

starting : (o : Opened) → starting_records (start_of o) ≡ family_of []
starting o = λ i m. (ap (λ logs. durable_records logs (λ c. (o.found_coord c).records) m) (λ j k. o.unused.members k j) ∙ ap (λ logs. durable_records (λ k. []) logs m) (λ j k. o.unused.coords k j) ∙ nothing_durable m) i

pub none_run : (o : Opened) (d : Decisions) → d.txns.items ≡ [] → d.serial ≡ [] → AreRun (start_of o) d []
none_run o d none no_records = record { count = ap length none; records = ap family_of no_records ∙ sym (starting o) }

-- no file is longer than one byte
not_longer : (file : Spot → Option File) → ((s : Spot) → s.part < 2 → file s ≡ Some empty_file) → (s : Spot) → s.part < 2 → IsLonger 1 (file s) → ⊥
not_longer file none s part long = let l = long empty_file (none s part) in omega (arith, l)

pub opening_fault : (file : Spot → Option File) (head : Head) (fault : WorldFault) (before after : ℕ) → ((s : Spot) → s.part < 2 → file s ≡ Some empty_file) → IsUnopened file head false fault →
    ((spot : Spot) → fault ≡ world.Device spot → HasRisen before after) → IsFaultOf fault before after
opening_fault file head (world.Device spot) before after none h device = device spot refl
opening_fault file head (world.Differs spot at kept read) before after none h device = absurd h
opening_fault file head (world.Bad spot at) before after none h device = absurd (let z : false ≡ true = h.0 in cc)
opening_fault file head (world.Full spot) before after none h device = absurd (let z : false ≡ true = h.0 in cc)
opening_fault file head world.Count before after none h device = absurd (let z : false ≡ true = h.0 in cc)
opening_fault file head (world.Old spot) before after none h device = absurd (let z : false ≡ true = h.0 in cc)
opening_fault file head world.Memory before after none h device = tt
opening_fault file head (world.InUse spot) before after none h device = by h.1.bad
  where
    by : ((spot ≡ spot_of h.1.first 0) × IsLonger 1 (file (spot_of h.1.first 0))) ⊎ ((spot ≡ spot_of h.1.first 1) × IsWithin 1 (file (spot_of h.1.first 0)) × IsLonger 1 (file (spot_of h.1.first 1))) → ⊥
    by (inl p) = not_longer file none (spot_of h.1.first 0) (omega arith) p.1
    by (inr p) = not_longer file none (spot_of h.1.first 1) (omega arith) p.2
