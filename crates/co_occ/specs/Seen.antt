-- Changes that are laid over the records of a range.
use Rattle.std.specs.Prelude.{List, filter}
use Rattle.co_base.specs.Span.{Span, span_has}
use Rattle.co_base.specs.declared.written.Written.{Written}
use Rattle.co_serial.specs.Records.{Records, with_changes}

-- those of keys of the range alone
abbrev pub laid_within : Records → List Written → Span → Records
laid_within records changes span = with_changes records (filter (λ w. span_has span w.key) changes)
