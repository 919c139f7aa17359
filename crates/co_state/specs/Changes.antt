-- What operations read and wrote: the ranges in ascending order, each once, and the changes by key, the
-- last one at each key.
use Rattle.std.specs.Prelude.{List, [], ◌∷◌, Option, None, Some}
use Rattle.std.specs.FinMap.Entries.{by_order}
use Rattle.co_base.specs.Order.{key_cmp}
use Rattle.co_base.specs.Span.{Span, span_cmp, span_of_key}
use Rattle.co_base.specs.declared.op.Op.{Op}
use Rattle.co_base.specs.declared.op.Op.TheVariants.{Read, Write, Erase, Scan}
use Rattle.co_base.specs.declared.written.Written.{Written}
use Rattle.co_state.specs.declared.engine_state.Operation.{Operation}
use Rattle.co_state.specs.declared.engine_state.Sets.{Sets}

-- the range that an operation reads
abbrev pub span_read : Op → Option Span
span_read (Read key) = Some (span_of_key key)
span_read (Scan span) = Some span
span_read (Write key value) = None
span_read (Erase key) = None

-- the change that an operation makes
abbrev pub change_made : Op → Option Written
change_made (Read key) = None
change_made (Scan span) = None
change_made (Write key value) = Some (record { key = key; value = Some value })
change_made (Erase key) = Some (record { key = key; value = None })

-- a range in its place among others
abbrev pub put_span : Span → List Span → List Span
put_span span [] = span ∷ []
put_span span (s ∷ ss) = by_order (span_cmp span s) (span ∷ s ∷ ss) (s ∷ ss) (s ∷ put_span span ss)

-- a change in its place among others; it replaces an earlier one of its key
abbrev pub put_change : Written → List Written → List Written
put_change change [] = change ∷ []
put_change change (w ∷ ws) = by_order (key_cmp change.key w.key) (change ∷ w ∷ ws) (change ∷ ws) (w ∷ put_change change ws)

abbrev pub with_span : Option Span → List Span → List Span
with_span None spans = spans
with_span (Some span) spans = put_span span spans

abbrev pub with_written : Option Written → List Written → List Written
with_written None changes = changes
with_written (Some change) changes = put_change change changes

-- what operations read and wrote, the newest operation first
abbrev pub spans_of : List Operation → List Span
spans_of [] = []
spans_of (o ∷ os) = with_span (span_read o.op) (spans_of os)

abbrev pub changes_of : List Operation → List Written
changes_of [] = []
changes_of (o ∷ os) = with_written (change_made o.op) (changes_of os)

abbrev pub sets_of : List Operation → Sets
sets_of os = record { reads = spans_of os; writes = changes_of os }

abbrev pub no_sets : Sets
no_sets = record { reads = []; writes = [] }
