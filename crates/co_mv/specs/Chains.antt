-- The versions of all keys, as the map that an engine keeps of them.
use Rattle.std.specs.Prelude.{ℕ, Bool, List, [], ◌∷◌, filter, length, if◌then◌else◌, ◌==◌, Option, None, Some}
use Rattle.std.specs.FinMap.{FinMap, empty, get, insert, remove}
use Rattle.co_base.specs.Order.{key_cmp}
use Rattle.co_base.specs.declared.row.Row.{Row}
use Rattle.co_base.specs.declared.written.Written.{Written}
use Rattle.co_mv.specs.declared.version.Version.{Version}
use Rattle.co_mv.specs.Versions.{base_versions, with_write}

abbrev pub Chains : Type 0
Chains = FinMap key_cmp (List Version)

-- a key that is absent has no versions
abbrev pub chain_in : Option (List Version) → List Version
chain_in None = []
chain_in (Some chain) = chain

abbrev pub chain_of : Chains → List ℕ → List Version
chain_of m key = chain_in (get m key)

-- a row for each record before all installs
abbrev pub chains_from : List Row → Chains
chains_from [] = empty
chains_from (r ∷ rs) = insert (chains_from rs) r.key (base_versions (Some r.value))

-- a key without versions stays absent
abbrev pub laid : Chains → List ℕ → List Version → Chains
laid m key [] = m
laid m key (v ∷ vs) = insert m key (v ∷ vs)

-- an install writes a key
abbrev pub rewritten : (Version → Bool) → ℕ → Chains → List ℕ → Option (List ℕ) → Chains
rewritten keep install m key value =
    laid (remove m key) key (with_write keep install value (chain_of m key))

abbrev pub rewritten_all : (Version → Bool) → ℕ → Chains → List Written → Chains
rewritten_all keep install m [] = m
rewritten_all keep install m (w ∷ ws) = rewritten_all keep install (rewritten keep install m w.key w.value) ws

-- those versions of a key stay that are kept
abbrev pub narrowed_in : (Version → Bool) → Chains → List ℕ → Option (List Version) → Chains
narrowed_in keep m key None = m
narrowed_in keep m key (Some chain) = insert m key (filter keep chain)

abbrev pub narrowed : (Version → Bool) → Chains → List ℕ → Chains
narrowed keep m key = narrowed_in keep m key (get m key)

-- a key without versions is taken away
abbrev pub settled : Chains → List ℕ → Chains
settled m key = if length (chain_of m key) == 0 then remove m key else m

abbrev pub pruned : (Version → Bool) → Chains → List ℕ → Chains
pruned keep m key = settled (narrowed keep m key) key

abbrev pub pruned_all : (Version → Bool) → Chains → List (List ℕ) → Chains
pruned_all keep m [] = m
pruned_all keep m (key ∷ keys) = pruned_all keep (pruned keep m key) keys
