-- A log file that would be too long is too long by the bytes of its records too.
use Rattle.std.proofs.Common.{◌≡◌, ℕ, ◌+◌, ◌<◌, ◌≤◌, true, List, [], ◌∷◌, ◌++◌, length, refl, sym, ap, subst, ◌∙◌, arith}
use Rattle.std.specs.Prelude.{reverse}
use Rattle.std.specs.List.{AllByRecursion}
use Rattle.std.proofs.lemmas.List.{length-append, map-append, reverse-append}
use Rattle.co_base.specs.Limits.{most_log_bytes}
use Rattle.co_frame.specs.LogText.{IsBatch, gated, batch_text}
use Rattle.co_record.specs.declared.record.Record.{Record}
use Rattle.co_record.specs.Format.{newest}
use Rattle.co_record.specs.Spelling.{spelling}
use Rattle.co_record.specs.Stored.{AreRecords, HoldRecords}
use Rattle.co_log.specs.Appending.{IsTooLong}
use Rattle.co_log.specs.LogFile.{records_of, spelled, next_items, EndsAt}
use Rattle.co_log.specs.NodeFiles.{newest_first}
use Rattle.co_log.specs.Sizes.{log_bytes}
use Rattle.co_log.proofs.Ordered.{next_records}

-- ---- the bytes of records

both_bytes : (xs ys : List Record) → log_bytes (xs ++ ys) + 1 ≡ log_bytes xs + log_bytes ys
both_bytes [] ys = omega arith
both_bytes (x ∷ xs) ys = omega (arith, both_bytes xs ys)

-- in either order
back_bytes : (xs : List Record) → log_bytes (reverse xs) ≡ log_bytes xs
back_bytes [] = refl
back_bytes (x ∷ xs) =
    let turned : log_bytes (reverse (x ∷ xs)) ≡ log_bytes (reverse xs ++ x ∷ []) = ap log_bytes (reverse-append (x ∷ []) xs) in
    omega (arith, turned, both_bytes (reverse xs) (x ∷ []), back_bytes xs)

-- records in one batch, with a gate and a length in front and a gate behind, take at most these bytes
spelled_within : (items : List Record) → length (spelled items) + 1 ≤ log_bytes items
spelled_within [] = omega arith
spelled_within (x ∷ xs) = omega (arith, length-append (spelling newest x) (spelled xs), spelled_within xs)

batch_within : (items : List Record) → 1 ≤ length items → length (spelled items) + 6 ≤ log_bytes items
batch_within [] some = absurd (omega (arith, some))
batch_within (x ∷ xs) some = omega (arith, length-append (spelling newest x) (spelled xs), spelled_within xs)

-- ---- the bytes of a file

-- bytes that are records are the spellings of these
are_spelled : (at : ℕ) (bytes : List ℕ) (items : List (ℕ × Record)) → AreRecords newest at bytes items → bytes ≡ spelled (records_of items)
are_spelled at bytes [] are = are
are_spelled at bytes (x ∷ xs) are = are.2.1 ∙ ap (λ (rest : List ℕ). spelling newest x.1 ++ rest) (are_spelled (at + length (spelling newest x.1)) are.2.0 xs are.2.2)

-- a batch that has bytes has records
some_records : (at : ℕ) (bytes : List ℕ) (items : List (ℕ × Record)) → AreRecords newest at bytes items → 1 ≤ length bytes → 1 ≤ length (records_of items)
some_records at bytes [] are some = absurd (omega (arith, some, ap (λ (b : List ℕ). length b) are))
some_records at bytes (x ∷ xs) are some = omega arith

-- each batch has at least one record, so it takes no more than they do one by one
batches_within : (gate : ℕ) (batches : List (List ℕ)) (items : List (ℕ × Record)) → AllByRecursion IsBatch batches → HoldRecords newest gate batches items → length (gated batches) + 1 ≤ log_bytes (records_of items)
batches_within gate [] items each held = subst (λ (xs : List (ℕ × Record)). 0 + 1 ≤ log_bytes (records_of xs)) (sym held) (omega arith)
batches_within gate (batch ∷ batches) items each (front, back, both, here, behind) =
    let long : length batch ≡ length (spelled (records_of front)) = ap (λ (b : List ℕ). length b) (are_spelled (gate + 5) batch front here) in
    let first = batch_within (records_of front) (some_records (gate + 5) batch front here each.0.0) in
    let others = batches_within (gate + 5 + length batch) batches back each.1 behind in
    let all : log_bytes (records_of items) ≡ log_bytes (records_of front ++ records_of back) = ap (λ (xs : List (ℕ × Record)). log_bytes (records_of xs)) both ∙ ap log_bytes (map-append (λ (p : ℕ × Record). p.1) front back) in
    omega (arith, long, first, others, all, both_bytes (records_of front) (records_of back), length-append (batch_text batch) (gated batches))

-- the gate of a file stands within the bytes of its records
pub gate_within_bytes : (bytes : List ℕ) (gate : ℕ) (items : List (ℕ × Record)) → EndsAt bytes gate items → gate + 1 ≤ log_bytes (newest_first items)
gate_within_bytes bytes gate items e = omega (arith, e.place, back_bytes (records_of items), batches_within 0 e.batches items e.text.each e.holds)

-- ---- files that would be too long

-- with a batch more
pub forced_overlong : (bytes : List ℕ) (gate : ℕ) (items : List (ℕ × Record)) (more : List Record) → EndsAt bytes gate items → 1 ≤ length more → IsTooLong gate more → most_log_bytes < log_bytes (newest_first (next_items true gate items more))
forced_overlong bytes gate items more e some long =
    let all : log_bytes (newest_first (next_items true gate items more)) ≡ log_bytes (records_of items ++ more) = back_bytes (records_of (next_items true gate items more)) ∙ ap log_bytes (next_records true gate items more) in
    omega (arith, all, both_bytes (records_of items) more, back_bytes (records_of items), gate_within_bytes bytes gate items e, batch_within more some, long)

-- with one batch alone
pub filled_overlong : (more : List Record) → 1 ≤ length more → IsTooLong 0 more → most_log_bytes < log_bytes (reverse more)
filled_overlong more some long = omega (arith, back_bytes more, batch_within more some, long)
