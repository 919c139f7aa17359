-- What a multiversion engine keeps, and for which states it stands.
use Rattle.std.specs.Prelude.{ℕ, suc, Bool, true, false, ◌≡◌, ◌⊎◌, ◌<◌, ◌≤◌, ◌&&◌, ◌||◌, ◌==◌, List, [], ◌∷◌, ◌++◌, map, filter, length, max, Option, None, Some}
use Rattle.std.specs.List.{list_all}
use Rattle.std.specs.Option.{option_map}
use Rattle.std.specs.FinMap.{empty, entries}
use Rattle.co_mv.specs.declared.snapshots.Snapshots.{Snapshots}
use Rattle.co_base.specs.declared.head.Kind.TheVariants.{Mv}
use Rattle.co_mv.specs.declared.archive.Archive.{Archive}
use Rattle.co_mv.specs.declared.mv_engine.MvEngine.{MvEngine}
use Rattle.co_mv.specs.declared.version.Version.{Version}
use Rattle.co_mv.specs.Chains.{Chains, chain_of}
use Rattle.co_engine.specs.Undecided.{or_nothing}
use Rattle.co_mv.specs.Ordered.{Each, IsOrdered}
use Rattle.co_mv.specs.Reading.{all_noted, laid_within}
use Rattle.co_mv.specs.Recents.{Recents, keys_at, has_key}
use Rattle.co_base.specs.Span.{Span, span_has}
use Rattle.co_base.specs.declared.written.Written.{Written}
use Rattle.co_mv.specs.Versions.{sees, is_kept, stays, versions_of}
use Rattle.co_serial.specs.Records.{Records}
use Rattle.co_state.specs.declared.engine_state.EngineState.{EngineState}
use Rattle.co_state.specs.declared.engine_state.Install.{Install}
use Rattle.co_state.specs.declared.engine_state.Operation.{Operation}
use Rattle.co_state.specs.declared.engine_state.Sets.{Sets}
use Rattle.co_state.specs.declared.engine_state.Vote.{Vote}
use Rattle.co_state.specs.Changes.{sets_of}
use Rattle.co_state.specs.Keys.{writes_key}
use Rattle.co_state.specs.Table.{Table, look, put, without}
use Rattle.co_stamps.specs.Stamped.{IsStamp}

-- the numbers of installs that active transactions read at
abbrev pub stamps : Snapshots → List ℕ
stamps s = map (λ e. e.1) (entries s.stamps)

-- those that readers that are pinned read at
abbrev pub pinned_numbers : Table ℕ → List ℕ
pinned_numbers pins = map (λ e. e.1) (entries pins)

-- both
abbrev pub held : Snapshots → List ℕ
held s = stamps s ++ pinned_numbers s.pins

-- and that of the installs now, which a new reader reads at
abbrev pub needed : Snapshots → List ℕ
needed s = s.installs ∷ held s

abbrev pub or_now : ℕ → Option ℕ → ℕ
or_now now None = now
or_now now (Some stamp) = stamp

abbrev pub stamp_of : Snapshots → ℕ → ℕ
stamp_of s t = or_now s.installs (look s.stamps t)

-- whether an active transaction or a pin holds a number
abbrev pub IsHeld : Snapshots → ℕ → Type 0
IsHeld s n = IsStamp s.stamps n ⊎ IsStamp s.pins n

abbrev pub IsNeeded : Snapshots → ℕ → Type 0
IsNeeded s n = (n ≡ s.installs) ⊎ IsHeld s n

-- the least number that is held at or above another one, or none where all are below it
pub record IsLeastHeld (s : Snapshots) (from least : ℕ) : Type 0 where
  pub is_held : IsHeld s least
  pub is_above : from ≤ least
  pub is_least : (n : ℕ) → IsHeld s n → from ≤ n → least ≤ n

abbrev pub IsLeastHeldFrom : Snapshots → ℕ → Option ℕ → Type 0
IsLeastHeldFrom s from None = (n : ℕ) → IsHeld s n → n < from
IsLeastHeldFrom s from (Some least) = IsLeastHeld s from least

-- the greatest one below another one, or none where all are at or above it
pub record IsGreatestHeld (s : Snapshots) (end greatest : ℕ) : Type 0 where
  pub is_held : IsHeld s greatest
  pub is_below : greatest < end
  pub is_greatest : (n : ℕ) → IsHeld s n → n < end → n ≤ greatest

abbrev pub IsGreatestHeldBelow : Snapshots → ℕ → Option ℕ → Type 0
IsGreatestHeldBelow s end None = (n : ℕ) → IsHeld s n → end ≤ n
IsGreatestHeldBelow s end (Some greatest) = IsGreatestHeld s end greatest

-- the greater of two numbers, where there are any
abbrev pub greater : Option ℕ → Option ℕ → Option ℕ
greater None other = other
greater (Some n) None = Some n
greater (Some n) (Some m) = Some (max n m)

-- the least number that is needed at or above another one
pub record IsNext (s : Snapshots) (from next : ℕ) : Type 0 where
  pub is_needed : IsNeeded s next
  pub is_above : from ≤ next
  pub is_least : (n : ℕ) → IsHeld s n → from ≤ n → next ≤ n

-- one that held a number holds it no more
pub record IsReleased (old new : Snapshots) (number : ℕ) : Type 0 where
  pub installs_stay : new.installs ≡ old.installs
  pub was_held : IsHeld old number
  pub was : (n : ℕ) → IsHeld new n → IsHeld old n
  pub others_stay : (n : ℕ) → IsHeld old n → IsHeld new n ⊎ (n ≡ number)

-- a reader that read a version is still there, or it was the one at a number
abbrev pub IsReadFrom : Snapshots → ℕ → Version → Type 0
IsReadFrom s number v = (sees number v ≡ true) ⊎ ((n : ℕ) × IsNeeded s n × (sees n v ≡ true))

-- versions as they were kept while a number was held
pub record WereKept (s : Snapshots) (number : ℕ) (vs : List Version) : Type 0 where
  pub ordered : IsOrdered vs
  pub read : Each (IsReadFrom s number) vs

abbrev pub WereAllKept : Snapshots → ℕ → Chains → Type 0
WereAllKept s number m = (key : List ℕ) → WereKept s number (chain_of m key)

-- whether the install of this number wrote the key; the newest install stands first in the list
abbrev pub wrote_at : List Install → ℕ → List ℕ → Bool
wrote_at [] n key = false
wrote_at (i ∷ is) n key = ((n == suc (length is)) && writes_key i.writes key) || wrote_at is n key

-- each chain was pruned, or it stays and no install of the window wrote its key
abbrev pub IsPruned : (Version → Bool) → Recents → ℕ → ℕ → Chains → Chains → Type 0
IsPruned keep recents from to old new =
    (key : List ℕ) → (chain_of new key ≡ filter keep (chain_of old key))
    ⊎ ((chain_of new key ≡ chain_of old key) × ((n : ℕ) → from < n → n ≤ to → has_key (keys_at recents n) key ≡ false))

-- a key that no install of the window wrote keeps its versions
abbrev pub AreLeft : Recents → ℕ → ℕ → Chains → Chains → Type 0
AreLeft recents from to old new =
    (key : List ℕ) → ((n : ℕ) → from < n → n ≤ to → has_key (keys_at recents n) key ≡ false) → chain_of new key ≡ chain_of old key

-- the archive was pruned of what only a reader at a number read, by the installs of a window, if it was kept while the number was held; nothing else of it changed
pub record IsNarrowed (number from to : ℕ) (old new : Archive) : Type 0 where
  pub snapshots_stay : new.snapshots ≡ old.snapshots
  pub recents_stay : new.recents ≡ old.recents
  pub pruned : WereAllKept old.snapshots number old.chains → IsPruned (stays number (needed old.snapshots)) old.recents from to old.chains new.chains

-- ---- the snapshots after calls
abbrev pub entered : Snapshots → ℕ → Snapshots
entered s t = record s { stamps = put s.stamps t (stamp_of s t) }

abbrev pub left : Snapshots → ℕ → Snapshots
left s t = record s { stamps = without s.stamps t }

abbrev pub pinned : Snapshots → ℕ → Snapshots
pinned s id = record s { pins = put s.pins id s.installs }

abbrev pub unpinned : Snapshots → ℕ → Snapshots
unpinned s id = record s { pins = without s.pins id }

abbrev pub grown : Snapshots → Snapshots
grown s = record s { installs = suc s.installs }

-- ---- what is kept for a base and the installs over it
pub record Keeps (a : Archive) (base : Records) (installed : List Install) : Type 0 where
  pub installs_are : a.snapshots.installs ≡ length installed
  pub held_are : (n : ℕ) → IsHeld a.snapshots n → n ≤ a.snapshots.installs
  -- exactly the versions that are read
  pub chains_are : (key : List ℕ) → chain_of a.chains key ≡ filter (is_kept (needed a.snapshots)) (versions_of base installed key)
  -- and the keys of each install that an active transaction or a pinned reader does not see
  pub recents_are : (m n : ℕ) (key : List ℕ) → IsHeld a.snapshots m → m < n → wrote_at installed n key ≡ true → has_key (keys_at a.recents n) key ≡ true
  -- and of no other install
  pub recents_end : (n : ℕ) → ((m : ℕ) → IsHeld a.snapshots m → n ≤ m) → keys_at a.recents n ≡ []
  pub recents_bound : (n : ℕ) → a.snapshots.installs < n → keys_at a.recents n ≡ []

-- ---- what is kept of a transaction
-- an active one has operations, and each of them bears its stamp
abbrev pub AreStamped : Option ℕ → Option (List Operation) → Type 0
AreStamped None None = Unit {0}
AreStamped None (Some os) = ⊥
AreStamped (Some n) None = ⊥
AreStamped (Some n) (Some []) = ⊥
AreStamped (Some n) (Some (o ∷ os)) = list_all (λ o. o.stamp == n) (o ∷ os) ≡ true

-- one with a stamp is active, and another one voted
abbrev pub active_sets : Option ℕ → Option Sets → Option Sets
active_sets None sets = None
active_sets (Some n) sets = sets

abbrev pub voted_sets : Option ℕ → Option Sets → Option Sets
voted_sets None sets = sets
voted_sets (Some n) sets = None

pub record IsKept (stamp : Option ℕ) (sets : Option Sets) (os : Option (List Operation)) (vote : Option Vote) : Type 0 where
  pub stamps_are : AreStamped stamp os
  pub sets_are : option_map sets_of os ≡ active_sets stamp sets
  pub votes_are : option_map (λ v. v.sets) vote ≡ voted_sets stamp sets

-- ---- for which states the engine stands
pub record StandsFor (e : MvEngine) (b : EngineState) : Type 0 where
  pub kind_is : Mv ≡ b.kind
  pub keeps : Keeps e.archive b.base b.installed
  pub each : (t : ℕ) → IsKept (look e.archive.snapshots.stamps t) (look e.undecided t) (look b.active t) (look b.voted t)

-- what an undecided transaction wrote; nothing of an absent one
abbrev pub own_writes : MvEngine → ℕ → List Written
own_writes e t = (or_nothing (look e.undecided t)).writes

-- for each id that is pinned, how many installs there were at its pin
abbrev pub pins_of : MvEngine → Table ℕ
pins_of e = e.archive.snapshots.pins

-- the records of a range at a number of installs
abbrev pub seen_within : Chains → Span → ℕ → Records
seen_within chains span installs = all_noted installs empty (filter (λ x. span_has span x.0) (entries chains))

-- and those that the next operation of a transaction sees
abbrev pub visible_within : MvEngine → ℕ → Span → Records
visible_within e t span =
    laid_within span (seen_within e.archive.chains span (stamp_of e.archive.snapshots t)) (own_writes e t)
