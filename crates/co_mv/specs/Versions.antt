-- The versions of a key: what it held from one install to another one. The base's row counts as written
-- before all installs, under the number 0.
use Rattle.std.specs.Prelude.{ℕ, suc, Bool, true, ◌&&◌, ◌||◌, not, nat_le, nat_lt, List, [], ◌∷◌, ◌++◌, map, filter, length, reverse, if◌then◌else◌, is_some, Option, None, Some}
use Rattle.std.specs.List.{list_any, list_all}
use Rattle.std.specs.FinMap.{entries, get}
use Rattle.co_base.specs.declared.written.Written.{Written}
use Rattle.co_mv.specs.declared.version.Version.{Version}
use Rattle.co_serial.specs.Records.{Records}
use Rattle.co_state.specs.declared.engine_state.EngineState.{EngineState}
use Rattle.co_state.specs.declared.engine_state.Install.{Install}
use Rattle.co_state.specs.declared.engine_state.Operation.{Operation}
use Rattle.co_state.specs.Keys.{same_key}
use Rattle.co_state.specs.Table.{Table}

abbrev pub later : {X : Type 0} → Option X → Option X → Option X
later None earlier = earlier
later (Some x) earlier = Some x

-- what changes made of a key last, if one of them changed it
abbrev pub last_change : List Written → List ℕ → Option (Option (List ℕ))
last_change [] key = None
last_change (w ∷ ws) key = later (last_change ws key) (if same_key w.key key then Some w.value else None)

abbrev pub base_versions : Option (List ℕ) → List Version
base_versions None = []
base_versions (Some value) = record { written = 0; overwritten = None; value = Some value } ∷ []

abbrev pub closed_by : ℕ → Option ℕ → Option ℕ
closed_by install None = Some install
closed_by install (Some earlier) = Some earlier

-- the newest version is overwritten by an install, if none overwrote it
abbrev pub closed : ℕ → List Version → List Version
closed install [] = []
closed install (v ∷ vs) = record v { overwritten = closed_by install v.overwritten } ∷ vs

-- a version lies over others, if it is kept
abbrev pub with_newest : (Version → Bool) → Version → List Version → List Version
with_newest keep v vs = if keep v then v ∷ vs else vs

-- the newest version is overwritten by an install, and goes if it is not kept
abbrev pub with_closed : (Version → Bool) → ℕ → List Version → List Version
with_closed keep install [] = []
with_closed keep install (v ∷ vs) = with_newest keep (record v { overwritten = closed_by install v.overwritten }) vs

-- and what the install wrote lies over it
abbrev pub with_write : (Version → Bool) → ℕ → Option (List ℕ) → List Version → List Version
with_write keep install value vs = with_newest keep (record { written = install; overwritten = None; value = value }) (with_closed keep install vs)

-- the versions after an install that wrote the key, or did not
abbrev pub written_over : ℕ → Option (Option (List ℕ)) → List Version → List Version
written_over install None vs = vs
written_over install (Some value) vs = record { written = install; overwritten = None; value = value } ∷ closed install vs

-- every version of a key, the newest first; the newest install stands first in the list
abbrev pub versions_of : Records → List Install → List ℕ → List Version
versions_of base [] key = base_versions (get base key)
versions_of base (i ∷ is) key = written_over (suc (length is)) (last_change i.writes key) (versions_of base is key)

-- ---- which versions are read
abbrev pub is_before : ℕ → Option ℕ → Bool
is_before n None = true
is_before n (Some end) = nat_lt n end

-- whether a version is the last write of its key at or before a number of installs
abbrev pub sees : ℕ → Version → Bool
sees n v = nat_le v.written n && is_before n v.overwritten

-- whether the key is absent at every needed number, by the version
abbrev pub is_gone : List ℕ → Version → Bool
is_gone needed v = not (is_some v.value) && list_all (λ n. nat_le v.written n) needed

-- A version is kept where it is the last write at or before a needed number. One without a value is left out
-- where it is at or before every needed number.
abbrev pub is_kept : List ℕ → Version → Bool
is_kept needed v = list_any (λ n. sees n v) needed && not (is_gone needed v)

-- A version that was kept stays, once a reader at a number has gone: one that it did not see has its other
-- readers, and one with a value, or written at or before that number, is no more gone than before. Another one stays if it is kept.
abbrev pub is_apart : ℕ → Version → Bool
is_apart number v = not (sees number v) && (is_some v.value || nat_le v.written number)

abbrev pub stays : ℕ → List ℕ → Version → Bool
stays number needed v = is_apart number v || is_kept needed v

-- the number of installs at the first operation of an active transaction
abbrev pub first_stamp : ℕ → List Operation → ℕ
first_stamp now [] = now
first_stamp now (o ∷ []) = o.stamp
first_stamp now (o ∷ p ∷ os) = first_stamp now (p ∷ os)

-- the needed numbers: that of the installs now, that at the first operation of each active transaction, and
-- that of each pin
abbrev pub needed_numbers : EngineState → Table ℕ → List ℕ
needed_numbers b pins = length b.installed ∷ (map (λ e. first_stamp (length b.installed) e.1) (entries b.active) ++ map (λ e. e.1) (entries pins))

-- the kept versions of a key, in the order of installation
abbrev pub kept_versions : EngineState → Table ℕ → List ℕ → List Version
kept_versions b pins key = reverse (filter (is_kept (needed_numbers b pins)) (versions_of b.base b.installed key))

-- ---- what is read
-- the value at a number of installs
abbrev pub seen_value : ℕ → List Version → Option (List ℕ)
seen_value n [] = None
seen_value n (v ∷ vs) = if sees n v then v.value else seen_value n vs

-- whether an install after the first so many wrote the key
abbrev pub written_since : ℕ → List Version → Bool
written_since n vs = list_any (λ v. nat_lt n v.written) vs
