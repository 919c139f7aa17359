-- The bytes of each record in a log file, and the headers among records.
use Rattle.std.proofs.Common.{◌≡◌, ℕ, ◌+◌, ◌*◌, ◌≤◌, List, [], ◌∷◌, ◌++◌, length, reverse, refl, ap, arith}
use Rattle.std.specs.Prelude.{slice_get}
use Rattle.std.specs.Int.{w16, w32}
use Rattle.std.proofs.lemmas.List.{length-append, reverse-append}
use Rattle.co_base.specs.declared.node.Node.{Node}
use Rattle.co_base.specs.declared.row.Row.{Row}
use Rattle.co_base.specs.declared.written.Written.{Written}
use Rattle.co_record.specs.declared.record.Record.{Record}
use Rattle.co_record.specs.declared.record.Record.TheVariants as log
use Rattle.co_record.specs.Format.{newest}
use Rattle.co_record.specs.Spelling.{spelling, listed, range_text, change_text, row_text, txn_text}
use Rattle.co_state.specs.declared.engine_state.Sets.{Sets}
use Rattle.co_plain.specs.LogWrite.{generation_in, generation_of}
use Rattle.co_plain.specs.Member.{prepare_record}
use Rattle.co_log.specs.Sizes.{log_bytes}
use Rattle.co_law_sizes.proofs.Bytes.{total, flat_bytes, span_bytes, change_bytes, row_bytes, span_long, change_long, row_long, sets_bytes}

pub header_bytes : (owner : Node) (generation : ℕ) → length (spelling newest (log.Header owner generation)) ≡ 7
header_bytes owner generation = omega arith

pub prepare_bytes : (t coord count : ℕ) (sets : Sets) → length (spelling newest (prepare_record t coord count sets)) ≡ 12 + sets_bytes sets
prepare_bytes t coord count sets =
    omega (arith, length-append (listed w16 range_text sets.reads) (listed w16 change_text sets.writes), flat_bytes range_text span_bytes span_long sets.reads, flat_bytes change_text change_bytes change_long sets.writes)

pub commit_bytes : (t : ℕ) (members : List ℕ) → length (spelling newest (log.Commit t members)) ≡ 6 + length members
commit_bytes t members = omega arith

pub abort_bytes : (t : ℕ) → length (spelling newest (log.Abort t)) ≡ 5
abort_bytes t = omega arith

pub end_bytes : (t : ℕ) → length (spelling newest (log.End t)) ≡ 5
end_bytes t = omega arith

numbers_bytes : (ts : List ℕ) → total (λ t. 4) ts ≡ 4 * length ts
numbers_bytes [] = refl
numbers_bytes (t ∷ ts) = omega (arith, numbers_bytes ts)

pub checkpoint_bytes : (rows : List Row) (undos : List Written) (committed : List ℕ) →
    length (spelling newest (log.Checkpoint rows undos committed)) ≡ 13 + total row_bytes rows + total change_bytes undos + 4 * length committed
checkpoint_bytes rows undos committed =
    omega (
      arith,
      length-append (listed w32 row_text rows) (listed w32 change_text undos ++ listed w32 txn_text committed),
      length-append (listed w32 change_text undos) (listed w32 txn_text committed),
      flat_bytes row_text row_bytes row_long rows,
      flat_bytes change_text change_bytes change_long undos,
      flat_bytes txn_text (λ t. 4) (λ t. omega arith) committed,
      numbers_bytes committed,
    )

-- the older records of a log take no more than all
pub older_bytes : (front rs : List Record) → log_bytes rs ≤ log_bytes (front ++ rs)
older_bytes [] rs = omega arith
older_bytes (r ∷ front) rs = omega (arith, older_bytes front rs)

-- ---- generations

-- the generations of all headers together: a log has one
abbrev pub headers : List Record → ℕ
headers [] = 0
headers (log.Header owner generation ∷ rs) = generation + headers rs
headers (log.Prepare t coord count reads writes ∷ rs) = headers rs
headers (log.Commit t members ∷ rs) = headers rs
headers (log.Abort t ∷ rs) = headers rs
headers (log.End t ∷ rs) = headers rs
headers (log.Checkpoint rows undos committed ∷ rs) = headers rs

headers_both : (front rs : List Record) → headers (front ++ rs) ≡ headers front + headers rs
headers_both [] rs = omega arith
headers_both (log.Header owner generation ∷ front) rs = omega (arith, headers_both front rs)
headers_both (log.Prepare t coord count reads writes ∷ front) rs = headers_both front rs
headers_both (log.Commit t members ∷ front) rs = headers_both front rs
headers_both (log.Abort t ∷ front) rs = headers_both front rs
headers_both (log.End t ∷ front) rs = headers_both front rs
headers_both (log.Checkpoint rows undos committed ∷ front) rs = headers_both front rs

pub older_headers : (front rs : List Record) → headers rs ≤ headers (front ++ rs)
older_headers front rs = omega (arith, headers_both front rs)

headers_turned : (rs : List Record) → headers (reverse rs) ≡ headers rs
headers_turned [] = refl
headers_turned (r ∷ rs) = omega (arith, ap headers (reverse-append (r ∷ []) rs), headers_both (reverse rs) (r ∷ []), headers_turned rs, headers_both (r ∷ []) rs)

first_header : (rs : List Record) → generation_in (slice_get rs 0) ≤ headers rs
first_header [] = omega arith
first_header (log.Header owner generation ∷ rs) = omega arith
first_header (log.Prepare t coord count reads writes ∷ rs) = omega arith
first_header (log.Commit t members ∷ rs) = omega arith
first_header (log.Abort t ∷ rs) = omega arith
first_header (log.End t ∷ rs) = omega arith
first_header (log.Checkpoint rows undos committed ∷ rs) = omega arith

pub generation_bound : (rs : List Record) → generation_of rs ≤ headers rs
generation_bound rs = omega (arith, first_header (reverse rs), headers_turned rs)
