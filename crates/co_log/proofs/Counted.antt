-- Lists that are too long to be counted make their record longer than a file.
use Rattle.std.proofs.Common.{◌≡◌, ℕ, zero, suc, ap, get_or, ◌<◌, ◌≤◌, List, [], ◌∷◌, ◌++◌, length, arith}
use Rattle.std.specs.List.{flat_map}
use Rattle.std.specs.Int.{w32, to_be_bytes}
use Rattle.std.proofs.lemmas.List.{length-append}
use Rattle.co_base.specs.declared.row.Row.{Row}
use Rattle.co_base.specs.declared.written.Written.{Written}
use Rattle.co_record.specs.declared.record.Record.{Record}
use Rattle.co_record.specs.declared.record.Record.TheVariants.{Checkpoint}
use Rattle.co_record.specs.Format.{newest}
use Rattle.co_record.specs.Spelling.{row_text, change_text, txn_text, key_text, value_text, held_text, listed, spelling}
use Rattle.co_log.specs.LogFile.{spelled}

-- each element has a byte at least
each_spelled : {A : Type 0} (text : A → List ℕ) → ((x : A) → 1 ≤ length (text x)) → (xs : List A) → length xs ≤ length (flat_map text xs)
each_spelled text some [] = omega arith
each_spelled text some (x ∷ xs) = omega (arith, some x, each_spelled text some xs, length-append (text x) (flat_map text xs))

listed_long : {A : Type 0} (text : A → List ℕ) → ((x : A) → 1 ≤ length (text x)) → (xs : List A) → length xs ≤ length (listed w32 text xs)
listed_long text some xs = omega (arith, each_spelled text some xs, length-append (to_be_bytes w32 (length xs)) (flat_map text xs))

row_long : (r : Row) → 1 ≤ length (row_text r)
row_long r = omega (arith, length-append (key_text r.key) (value_text r.value))

change_long : (w : Written) → 1 ≤ length (change_text w)
change_long w = omega (arith, length-append (key_text w.key) (held_text w.value))

txn_long : (t : ℕ) → 1 ≤ length (txn_text t)
txn_long t = omega arith

pub checkpoint_long : (rows : List Row) (undos : List Written) (committed : List ℕ)
    → (length rows ≤ length (spelling newest (Checkpoint rows undos committed))) × (length undos ≤ length (spelling newest (Checkpoint rows undos committed))) × (length committed ≤ length (spelling newest (Checkpoint rows undos committed)))
checkpoint_long rows undos committed =
    let r = listed w32 row_text rows in
    let u = listed w32 change_text undos in
    let t = listed w32 txn_text committed in
    let whole = length-append r (u ++ t) in
    let back = length-append u t in
    (omega (arith, whole, listed_long row_text row_long rows), omega (arith, whole, back, listed_long change_text change_long undos), omega (arith, whole, back, listed_long txn_text txn_long committed))

-- a record of a list is no longer than all of them
pub one_spelled : (items : List Record) (i : ℕ) (item d : Record) → i < length items → item ≡ get_or items i d → length (spelling newest item) ≤ length (spelled items)
one_spelled [] i item d lt is = absurd (omega (arith, lt))
one_spelled (x ∷ items) zero item d lt is = omega (arith, ap (λ (r : Record). length (spelling newest r)) is, length-append (spelling newest x) (spelled items))
one_spelled (x ∷ items) (suc i) item d lt is = omega (arith, one_spelled items i item d (omega (arith, lt)) is, length-append (spelling newest x) (spelled items))
