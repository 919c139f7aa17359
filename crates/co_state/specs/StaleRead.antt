-- Overwritten reads (backward validation): a read that saw the first so many installs is stale where a
-- later install wrote a key of its range.
use Rattle.std.specs.Prelude.{ℕ, List, [], ◌∷◌, ◌++◌, map, filter, length, nat_le, if◌then◌else◌, Option, None, Some}
use Rattle.co_base.specs.Span.{Span, span_has}
use Rattle.co_state.specs.declared.engine_state.EngineState.{EngineState}
use Rattle.co_state.specs.declared.engine_state.Install.{Install}
use Rattle.co_state.specs.declared.engine_state.Operation.{Operation}
use Rattle.co_state.specs.Keys.{least_key}
use Rattle.co_state.specs.Changes.{span_read}
use Rattle.co_state.specs.EngineState.{operations_of}

-- the keys that were written by the installs after the first so many
abbrev pub keys_since : List Install → ℕ → List (List ℕ)
keys_since [] count = []
keys_since (i ∷ is) count = if nat_le count (length is) then map (λ w. w.key) i.writes ++ keys_since is count else []

abbrev pub overwritten : Option Span → List (List ℕ) → List (List ℕ)
overwritten None keys = []
overwritten (Some span) keys = filter (span_has span) keys

-- every key that an operation read and that was written since
abbrev pub stale_keys : List Install → List Operation → List (List ℕ)
stale_keys installed [] = []
stale_keys installed (o ∷ os) = overwritten (span_read o.op) (keys_since installed o.stamp) ++ stale_keys installed os

-- the least of them
abbrev pub stale_key : EngineState → ℕ → Option (List ℕ)
stale_key b t = least_key (stale_keys b.installed (operations_of b t))
