-- The keys that were written after some number of installs, by their versions.
use Rattle.std.specs.Prelude.{ℕ, List, [], ◌∷◌, ◌++◌, map, filter}
use Rattle.co_base.specs.Span.{Span, span_has}
use Rattle.co_mv.specs.declared.version.Version.{Version}
use Rattle.co_mv.specs.Versions.{written_since}

abbrev pub written_keys : ℕ → List (List ℕ × List Version) → List (List ℕ)
written_keys installs es = map (λ e. e.0) (filter (λ e. written_since installs e.1) es)

-- those that stand in the ranges, range after range
abbrev pub written_within : ℕ → List (List ℕ × List Version) → List Span → List (List ℕ)
written_within installs es [] = []
written_within installs es (span ∷ spans) = written_keys installs (filter (λ e. span_has span e.0) es) ++ written_within installs es spans
