-- Overwritten reads, by the write sets that are kept.
use Rattle.std.specs.Prelude.{ℕ, ◌-◌, List, [], ◌∷◌, ◌++◌, map, filter, take, reverse}
use Rattle.co_base.specs.Span.{span_has}
use Rattle.co_base.specs.declared.written.Written.{Written}
use Rattle.co_occ.specs.declared.reads.Read.{Read}

-- the keys of some write sets
abbrev pub keys_written : List (List Written) → List (List ℕ)
keys_written [] = []
keys_written (ws ∷ wss) = map (λ w. w.key) ws ++ keys_written wss

-- the keys that were written by the installs that a read did not see, given the kept write sets and the number
-- of all installs; the newest install stands first
abbrev pub keys_unseen : List (List Written) → ℕ → ℕ → List (List ℕ)
keys_unseen old installs stamp = keys_written (take (installs - stamp) (reverse old))

-- every key that was read and written since
abbrev pub keys_overwritten : List (List Written) → ℕ → List Read → List (List ℕ)
keys_overwritten old installs [] = []
keys_overwritten old installs (r ∷ rs) = filter (span_has r.range) (keys_unseen old installs r.stamp) ++ keys_overwritten old installs rs
