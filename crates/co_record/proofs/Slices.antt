-- The keys and values of a record that stands at the front are slices of the source.
use Rattle.std.proofs.Common.{◌≡◌, ℕ, ◌+◌, ◌-◌, List, [], ◌∷◌, ◌++◌, length, take, drop, refl, sym, ap, ◌∙◌, append_assoc, arith}
use Rattle.std.specs.Prelude.{Option, Some, None}
use Rattle.std.specs.List.{flat_map, slice_range, AllByRecursion}
use Rattle.std.specs.Int.{w16, w32, to_be_bytes}
use Rattle.std.proofs.lemmas.List.{length-append}
use Rattle.std.proofs.Math.Seq.{drop-append_seam, take-append_seam}
use Rattle.co_base.specs.Span.{Span}
use Rattle.co_base.specs.declared.row.Row.{Row}
use Rattle.co_base.specs.declared.written.Written.{Written}
use Rattle.co_record.specs.declared.record.Record.{Record}
use Rattle.co_record.specs.declared.record.Record.TheVariants.{Header, Prepare, Commit, Abort, End, Checkpoint}
use Rattle.co_record.specs.Spelling.{spelling, listed, txn_text, key_text, value_text, held_text, range_text, row_text, change_text}
use Rattle.co_record.specs.Slices.{PlacedBytes, bounds_from, entries_from, held_then, changes_from, keys_and_values, AreSlicesOf}

-- a text stands in the source at a place
record StandsIn (source : List ℕ) (at : ℕ) (text : List ℕ) : Type 0 where
  front : List ℕ
  behind : List ℕ
  both : source ≡ front ++ (text ++ behind)
  place : length front ≡ at

slice_is : (source : List ℕ) (at : ℕ) (text : List ℕ) → StandsIn source at text → slice_range source at (at + length text) ≡ text
slice_is source at text s =
    let many : at + length text - at ≡ length text = omega arith in
    let dropped : drop at source ≡ text ++ s.behind = ap (λ (n : ℕ). drop n source) (sym s.place) ∙ ap (drop (length s.front)) s.both ∙ drop-append_seam s.front (text ++ s.behind) in
    ap (λ (n : ℕ). take n (drop at source)) many ∙ ap (take (length text)) dropped ∙ take-append_seam text s.behind

left_in : (source : List ℕ) (at : ℕ) (a b : List ℕ) → StandsIn source at (a ++ b) → StandsIn source at a
left_in source at a b s = record { front = s.front; behind = b ++ s.behind; both = s.both ∙ ap (λ (t : List ℕ). s.front ++ t) (append_assoc a b s.behind); place = s.place }

right_in : (source : List ℕ) (at to : ℕ) (a b : List ℕ) → StandsIn source at (a ++ b) → at + length a ≡ to → StandsIn source to b
right_in source at to a b s e = record {
  front = s.front ++ a;
  behind = s.behind;
  both = s.both ∙ ap (λ (t : List ℕ). s.front ++ t) (append_assoc a b s.behind) ∙ sym (append_assoc s.front a (b ++ s.behind));
  place = length-append s.front a ∙ ap (λ (n : ℕ). n + length a) s.place ∙ e;
}

all_both : (P : PlacedBytes → Type 0) (xs ys : List PlacedBytes) → AllByRecursion P xs → AllByRecursion P ys → AllByRecursion P (xs ++ ys)
all_both P [] ys f g = g
all_both P (x ∷ xs) ys f g = (f.0, all_both P xs ys f.1 g)

bounds_stand : (source : List ℕ) (at : ℕ) (spans : List Span) → StandsIn source at (flat_map range_text spans) → AreSlicesOf source (bounds_from at spans)
bounds_stand source at [] s = tt
bounds_stand source at (span ∷ spans) s =
    let here = left_in source at (range_text span) (flat_map range_text spans) s in
    let lo = right_in source at (at + 1) (length span.lo ∷ []) span.lo (left_in source at (key_text span.lo) (key_text span.hi) here) refl in
    let hi_text = right_in source at (at + length span.lo + 1) (key_text span.lo) (key_text span.hi) here (omega arith) in
    let hi = right_in source (at + length span.lo + 1) (at + length span.lo + 2) (length span.hi ∷ []) span.hi hi_text (omega arith) in
    let more = right_in source at (at + length (range_text span)) (range_text span) (flat_map range_text spans) s refl in
    (slice_is source (at + 1) span.lo lo, (slice_is source (at + length span.lo + 2) span.hi hi, bounds_stand source (at + length (range_text span)) spans more))

value_in : (source : List ℕ) (at to : ℕ) (value : List ℕ) → StandsIn source at (value_text value) → at + 2 ≡ to → slice_range source to (to + length value) ≡ value
value_in source at to value s e = slice_is source to value (right_in source at to (to_be_bytes w16 (length value)) value s e)

entries_stand : (source : List ℕ) (at : ℕ) (rows : List Row) → StandsIn source at (flat_map row_text rows) → AreSlicesOf source (entries_from at rows)
entries_stand source at [] s = tt
entries_stand source at (row ∷ rows) s =
    let here = left_in source at (row_text row) (flat_map row_text rows) s in
    let key = right_in source at (at + 1) (length row.key ∷ []) row.key (left_in source at (key_text row.key) (value_text row.value) here) refl in
    let value = right_in source at (at + length row.key + 1) (key_text row.key) (value_text row.value) here (omega arith) in
    let more = right_in source at (at + length (row_text row)) (row_text row) (flat_map row_text rows) s refl in
    (slice_is source (at + 1) row.key key, (value_in source (at + length row.key + 1) (at + length row.key + 3) row.value value (omega arith), entries_stand source (at + length (row_text row)) rows more))

held_in : (source : List ℕ) (at to : ℕ) (held : Option (List ℕ)) (more : List PlacedBytes) → StandsIn source at (held_text held) → at + 3 ≡ to → AreSlicesOf source more → AreSlicesOf source (held_then to held more)
held_in source at to None more s e f = f
held_in source at to (Some value) more s e f =
    (value_in source (at + 1) to value (right_in source at (at + 1) (1 ∷ []) (value_text value) s refl) (omega arith), f)

changes_stand : (source : List ℕ) (at : ℕ) (writes : List Written) → StandsIn source at (flat_map change_text writes) → AreSlicesOf source (changes_from at writes)
changes_stand source at [] s = tt
changes_stand source at (w ∷ writes) s =
    let here = left_in source at (change_text w) (flat_map change_text writes) s in
    let key = right_in source at (at + 1) (length w.key ∷ []) w.key (left_in source at (key_text w.key) (held_text w.value) here) refl in
    let held = right_in source at (at + length w.key + 1) (key_text w.key) (held_text w.value) here (omega arith) in
    let more = right_in source at (at + length (change_text w)) (change_text w) (flat_map change_text writes) s refl in
    (slice_is source (at + 1) w.key key, held_in source (at + length w.key + 1) (at + length w.key + 4) w.value (changes_from (at + length (change_text w)) writes) held (omega arith) (changes_stand source (at + length (change_text w)) writes more))

-- two lists behind a head, each behind its number
prepare_stands : (source head : List ℕ) (reads : List Span) (writes : List Written) → length head ≡ 8 → StandsIn source 0 (head ++ (listed w16 range_text reads ++ listed w16 change_text writes))
    → AreSlicesOf source (bounds_from 10 reads ++ changes_from (12 + length (flat_map range_text reads)) writes)
prepare_stands source head reads writes e s =
    let many = length (flat_map range_text reads) in
    let lists = right_in source 0 8 head (listed w16 range_text reads ++ listed w16 change_text writes) s (omega (arith, e)) in
    let first = right_in source 8 10 (to_be_bytes w16 (length reads)) (flat_map range_text reads) (left_in source 8 (listed w16 range_text reads) (listed w16 change_text writes) lists) refl in
    let second = right_in source 8 (10 + many) (listed w16 range_text reads) (listed w16 change_text writes) lists (omega arith) in
    let changes = right_in source (10 + many) (12 + many) (to_be_bytes w16 (length writes)) (flat_map change_text writes) second (omega arith) in
    all_both _ (bounds_from 10 reads) (changes_from (12 + many) writes) (bounds_stand source 10 reads first) (changes_stand source (12 + many) writes changes)

checkpoint_stands : (source more : List ℕ) (rows : List Row) (undos : List Written) → StandsIn source 0 (6 ∷ (listed w32 row_text rows ++ (listed w32 change_text undos ++ more)))
    → AreSlicesOf source (entries_from 5 rows ++ changes_from (9 + length (flat_map row_text rows)) undos)
checkpoint_stands source more rows undos s =
    let many = length (flat_map row_text rows) in
    let lists = right_in source 0 1 (6 ∷ []) (listed w32 row_text rows ++ (listed w32 change_text undos ++ more)) s refl in
    let first = right_in source 1 5 (to_be_bytes w32 (length rows)) (flat_map row_text rows) (left_in source 1 (listed w32 row_text rows) (listed w32 change_text undos ++ more) lists) refl in
    let second = right_in source 1 (5 + many) (listed w32 row_text rows) (listed w32 change_text undos ++ more) lists (omega arith) in
    let changes = right_in source (5 + many) (9 + many) (to_be_bytes w32 (length undos)) (flat_map change_text undos) (left_in source (5 + many) (listed w32 change_text undos) more second) (omega arith) in
    all_both _ (entries_from 5 rows) (changes_from (9 + many) undos) (entries_stand source 5 rows first) (changes_stand source (9 + many) undos changes)

record_stands : (version : ℕ) (source : List ℕ) (item : Record) → StandsIn source 0 (spelling version item) → AreSlicesOf source (keys_and_values item)
record_stands version source (Header node generation) s = tt
record_stands version source (Prepare txn coord count reads writes) s =
    prepare_stands source (2 ∷ (txn_text txn ++ (coord ∷ to_be_bytes w16 count))) reads writes refl
    record { front = s.front; behind = s.behind; both = s.both; place = s.place }
record_stands version source (Commit txn members) s = tt
record_stands version source (Abort txn) s = tt
record_stands version source (End txn) s = tt
record_stands version source (Checkpoint rows undos committed) s = checkpoint_stands source (listed w32 txn_text committed) rows undos s

-- what stands at the front
pub are_slices : (version : ℕ) (source : List ℕ) (item : Record) (behind : List ℕ) → source ≡ spelling version item ++ behind → AreSlicesOf source (keys_and_values item)
are_slices version source item behind e = record_stands version source item record { front = []; behind = behind; both = e; place = refl }
