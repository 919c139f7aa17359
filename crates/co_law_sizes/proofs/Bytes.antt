-- The bytes of ranges, changes and rows, and of what transactions read and wrote.
use Rattle.std.proofs.Common.{◌≡◌, ℕ, ◌+◌, ◌≤◌, List, [], ◌∷◌, ◌++◌, length, map, Option, None, Some, refl, ap, arith}
use Rattle.std.specs.declared.cmp.Ordering.{Ordering}
use Rattle.std.specs.declared.cmp.Ordering.TheVariants.{Less, Equal, Greater}
use Rattle.std.specs.FinMap.{entries, slice_cmp-IsAntisymmetric, nat_cmp-IsAntisymmetric}
use Rattle.std.specs.FinMap.Entries.{by_order}
use Rattle.std.specs.List.{flat_map}
use Rattle.std.proofs.lemmas.Cmp.{nat_list_cmp_total}
use Rattle.std.proofs.lemmas.List.{length-append}
use Rattle.co_base.specs.declared.op.Op.{Op}
use Rattle.co_base.specs.declared.op.Op.TheVariants.{Read, Write, Erase, Scan}
use Rattle.co_base.specs.declared.row.Row.{Row}
use Rattle.co_base.specs.declared.written.Written.{Written}
use Rattle.co_base.specs.Order.{key_cmp}
use Rattle.co_base.specs.Span.{Span, span_cmp}
use Rattle.co_record.specs.Spelling.{key_text, value_text, held_text, change_text, range_text, row_text}
use Rattle.co_serial.specs.Records.{Records, with_change, with_changes, row_of, all_rows}
use Rattle.co_state.specs.declared.engine_state.Operation.{Operation}
use Rattle.co_state.specs.declared.engine_state.Sets.{Sets}
use Rattle.co_state.specs.declared.engine_state.Vote.{Vote}
use Rattle.co_state.specs.Changes.{span_read, change_made, put_span, put_change, with_span, with_written, spans_of, changes_of, sets_of}
use Rattle.co_state.specs.Effects.{joined, active_changes, voted_changes}
use Rattle.co_law_sizes.specs.LogRoom.{op_bytes}
use Rattle.co_law_sizes.proofs.Weights.{weighs, insert_weighs, remove_weighs}

-- a sum over a list
abbrev pub total : {A : Type 0} → (A → ℕ) → List A → ℕ
total f [] = 0
total f (x ∷ xs) = f x + total f xs

-- texts one after another
pub flat_bytes : {A : Type 0} (text : A → List ℕ) (f : A → ℕ) → ((x : A) → length (text x) ≡ f x) → (xs : List A) → length (flat_map text xs) ≡ total f xs
flat_bytes text f each [] = refl
flat_bytes text f each (x ∷ xs) = omega (arith, each x, flat_bytes text f each xs, length-append (text x) (flat_map text xs))

abbrev pub span_bytes : Span → ℕ
span_bytes span = 2 + length span.lo + length span.hi

abbrev pub held_bytes : Option (List ℕ) → ℕ
held_bytes None = 1
held_bytes (Some value) = 3 + length value

abbrev pub change_bytes : Written → ℕ
change_bytes w = 1 + length w.key + held_bytes w.value

abbrev pub row_weight : List ℕ → List ℕ → ℕ
row_weight key value = 3 + length key + length value

abbrev pub row_bytes : Row → ℕ
row_bytes row = row_weight row.key row.value

pub span_long : (s : Span) → length (range_text s) ≡ span_bytes s
span_long s = omega (arith, length-append (key_text s.lo) (key_text s.hi))

value_long : (v : List ℕ) → length (value_text v) ≡ 2 + length v
value_long v = omega arith

pub change_long : (w : Written) → length (change_text w) ≡ change_bytes w
change_long w = by w.value
  where
    by : (v : Option (List ℕ)) → length (key_text w.key ++ held_text v) ≡ 1 + length w.key + held_bytes v
    by None = omega (arith, length-append (key_text w.key) (held_text None))
    by (Some v) = omega (arith, length-append (key_text w.key) (held_text (Some v)), value_long v)

pub row_long : (r : Row) → length (row_text r) ≡ row_bytes r
row_long r = omega (arith, length-append (key_text r.key) (value_text r.value), value_long r.value)

-- what a transaction read and wrote
abbrev pub sets_bytes : Sets → ℕ
sets_bytes sets = total span_bytes sets.reads + total change_bytes sets.writes

abbrev pub ops_bytes : List Operation → ℕ
ops_bytes os = total (λ o. op_bytes o.op) os

put_span_bytes : (span : Span) (spans : List Span) → total span_bytes (put_span span spans) ≤ span_bytes span + total span_bytes spans
put_span_bytes span [] = omega arith
put_span_bytes span (s ∷ ss) = by (put_span_bytes span ss) (span_cmp span s)
  where
    by : total span_bytes (put_span span ss) ≤ span_bytes span + total span_bytes ss → (r : Ordering) →
        total span_bytes (by_order r (span ∷ s ∷ ss) (s ∷ ss) (s ∷ put_span span ss)) ≤ span_bytes span + (span_bytes s + total span_bytes ss)
    by rest Less = omega arith
    by rest Equal = omega arith
    by rest Greater = omega (arith, rest)

pub put_change_bytes : (c : Written) (ws : List Written) → total change_bytes (put_change c ws) ≤ change_bytes c + total change_bytes ws
put_change_bytes c [] = omega arith
put_change_bytes c (w ∷ ws) = by (put_change_bytes c ws) (key_cmp c.key w.key)
  where
    by : total change_bytes (put_change c ws) ≤ change_bytes c + total change_bytes ws → (r : Ordering) →
        total change_bytes (by_order r (c ∷ w ∷ ws) (c ∷ ws) (w ∷ put_change c ws)) ≤ change_bytes c + (change_bytes w + total change_bytes ws)
    by rest Less = omega arith
    by rest Equal = omega arith
    by rest Greater = omega (arith, rest)

-- what operations read and wrote takes no more than the operations
pub sets_of_bytes : (os : List Operation) → sets_bytes (sets_of os) ≤ ops_bytes os
sets_of_bytes [] = omega arith
sets_of_bytes (o ∷ os) = by (sets_of_bytes os) o.op
  where
    by : sets_bytes (sets_of os) ≤ ops_bytes os → (op : Op) →
        total span_bytes (with_span (span_read op) (spans_of os)) + total change_bytes (with_written (change_made op) (changes_of os)) ≤ op_bytes op + ops_bytes os
    by rest (Read key) = omega (arith, rest, put_span_bytes (record { lo = key; hi = key }) (spans_of os))
    by rest (Write key value) = omega (arith, rest, put_change_bytes (record { key = key; value = Some value }) (changes_of os))
    by rest (Erase key) = omega (arith, rest, put_change_bytes (record { key = key; value = None }) (changes_of os))
    by rest (Scan span) = omega (arith, rest, put_span_bytes span (spans_of os))

-- ---- changes of several transactions

pub joined_bytes : (ws cs : List Written) → total change_bytes (joined ws cs) ≤ total change_bytes ws + total change_bytes cs
joined_bytes [] cs = omega arith
joined_bytes (w ∷ ws) cs = omega (arith, joined_bytes ws cs, put_change_bytes w (joined ws cs))

-- the entry of an active transaction, and that of a voted one, for which some bytes more are counted
abbrev pub active_weight : ℕ → List Operation → ℕ
active_weight t os = ops_bytes os

abbrev pub voted_weight : ℕ → Vote → ℕ
voted_weight t vote = 6 + sets_bytes vote.sets

pub active_joined : (es : List (ℕ × List Operation)) → total change_bytes (active_changes es) ≤ weighs active_weight es
active_joined [] = omega arith
active_joined (e ∷ es) = omega (arith, active_joined es, joined_bytes (changes_of e.1) (active_changes es), sets_of_bytes e.1)

-- the changes of voted ones, beside what their prepare records take
pub voted_joined : (es : List (ℕ × Vote)) → total change_bytes (voted_changes es) ≤ total (λ e. sets_bytes e.1.sets) es
voted_joined [] = omega arith
voted_joined (e ∷ es) = omega (arith, voted_joined es, joined_bytes e.1.sets.writes (voted_changes es))

-- ---- records

abbrev pub records_weight : Records → ℕ
records_weight records = weighs row_weight (entries records)

pub rows_bytes : (records : Records) → total row_bytes (all_rows records) ≡ records_weight records
rows_bytes records = by (entries records)
  where
    by : (es : List (List ℕ × List ℕ)) → total row_bytes (map row_of es) ≡ weighs row_weight es
    by [] = refl
    by (e ∷ es) = ap (λ n. row_weight e.0 e.1 + n) (by es)

pub same_keys : (x y : List ℕ) → key_cmp x y ≡ Equal → x ≡ y
same_keys = slice_cmp-IsAntisymmetric nat_cmp-IsAntisymmetric

changed_weight : (records : Records) (w : Written) → records_weight (with_change records w.key w.value) ≤ change_bytes w + records_weight records
changed_weight records w = by w.value
  where
    by : (v : Option (List ℕ)) → records_weight (with_change records w.key v) ≤ (1 + length w.key + held_bytes v) + records_weight records
    by None = omega (arith, remove_weighs nat_list_cmp_total same_keys row_weight records w.key)
    by (Some v) = omega (arith, insert_weighs nat_list_cmp_total same_keys row_weight records w.key v)

-- changes that are laid over records
pub changes_weight : (ws : List Written) (records : Records) → records_weight (with_changes records ws) ≤ total change_bytes ws + records_weight records
changes_weight [] records = omega arith
changes_weight (w ∷ ws) records = omega (arith, changes_weight ws (with_change records w.key w.value), changed_weight records w)
