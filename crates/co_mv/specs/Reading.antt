-- Records, as they are read from versions.
use Rattle.std.specs.Prelude.{ℕ, List, [], ◌∷◌, if◌then◌else◌, Option, None, Some}
use Rattle.std.specs.FinMap.{insert}
use Rattle.co_base.specs.Span.{Span, span_has}
use Rattle.co_base.specs.declared.written.Written.{Written}
use Rattle.co_mv.specs.declared.version.Version.{Version}
use Rattle.co_mv.specs.Versions.{seen_value}
use Rattle.co_serial.specs.Records.{Records, with_change}

abbrev pub noted : Records → List ℕ → Option (List ℕ) → Records
noted records key None = records
noted records key (Some value) = insert records key value

-- the record that each key has at a number of installs
abbrev pub all_noted : ℕ → Records → List (List ℕ × List Version) → Records
all_noted installs records [] = records
all_noted installs records (e ∷ es) = all_noted installs (noted records e.0 (seen_value installs e.1)) es

-- those changes that are in a range
abbrev pub changed_within : Span → Records → Written → Records
changed_within span records w = if span_has span w.key then with_change records w.key w.value else records

abbrev pub laid_within : Span → Records → List Written → Records
laid_within span records [] = records
laid_within span records (w ∷ ws) = laid_within span (changed_within span records w) ws
