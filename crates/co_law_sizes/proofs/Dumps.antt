-- The bytes of a dump: the rows as an engine keeps them, and the undos that lead back.
use Rattle.std.proofs.Common.{◌≡◌, ℕ, ◌+◌, ◌*◌, ◌≤◌, cond, List, [], ◌∷◌, length, map, Option, None, Some, refl, ap, ◌∙◌, arith}
use Rattle.std.specs.Ordering.{is_eq, ordering_reverse}
use Rattle.std.specs.declared.cmp.Ordering.TheVariants.{Less}
use Rattle.std.specs.FinMap.{entries, get, remove, get-remove}
use Rattle.std.specs.List.{AllByRecursion}
use Rattle.std.specs.List.Sorted.{IsStrictlySortedBy}
use Rattle.std.proofs.lemmas.Cmp.{nat_list_cmp_total}
use Rattle.co_base.specs.declared.head.Kind.{Kind}
use Rattle.co_base.specs.declared.head.Kind.TheVariants.{Lock, Occ, Mv}
use Rattle.co_base.specs.declared.written.Written.{Written}
use Rattle.co_base.specs.Order.{key_cmp}
use Rattle.co_base.specs.RowOrder.{AreInKeyOrder}
use Rattle.co_serial.specs.Records.{Records, with_changes}
use Rattle.co_state.proofs.InOrder.{ordered-undecided}
use Rattle.co_state.specs.declared.engine_state.EngineState.{EngineState}
use Rattle.co_state.specs.declared.engine_state.Vote.{Vote}
use Rattle.co_state.specs.Effects.{undecided_changes, voted_changes, active_changes, undo_of, dumped_rows, dumped_undos}
use Rattle.co_state.specs.EngineState.{installed_records}
use Rattle.co_law_sizes.proofs.Weights.{weighs, held, remove_weighs}
use Rattle.co_law_sizes.proofs.Bytes.{total, change_bytes, held_bytes, row_bytes, row_weight, rows_bytes, records_weight, changes_weight, sets_bytes, active_weight, voted_joined, active_joined, joined_bytes, same_keys}

-- no other key is asked for
gone : (records : Records) (k q : List ℕ) → key_cmp k q ≡ Less → get (remove records k) q ≡ get records q
gone records k q l = get-remove nat_list_cmp_total records k q ∙ ap (λ r. cond (is_eq r) None (get records q)) (nat_list_cmp_total.antisymm q k ∙ ap ordering_reverse l)

undos_without : (records : Records) (k : List ℕ) (ws : List Written) → AllByRecursion (λ q. key_cmp k q ≡ Less) (map (λ w. w.key) ws) →
    total change_bytes (map (undo_of (remove records k)) ws) ≡ total change_bytes (map (undo_of records) ws)
undos_without records k [] a = refl
undos_without records k (w ∷ ws) a = omega (arith, undos_without records k ws a.1, ap held_bytes (gone records k w.key a.0))

-- each undo has its key, and a value that stands in the records
undos_bytes : (ws : List Written) (records : Records) → AreInKeyOrder ws → total change_bytes (map (undo_of records) ws) ≤ total change_bytes ws + records_weight records
unfolding IsStrictlySortedBy
undos_bytes [] records a = omega arith
undos_bytes (w ∷ ws) records a =
    omega (arith, undos_bytes ws (remove records w.key) a.1, undos_without records w.key ws a.0, remove_weighs nat_list_cmp_total same_keys row_weight records w.key, one (get records w.key), some_held w.value)
  where
    one : (o : Option (List ℕ)) → 1 + length w.key + held_bytes o ≤ 2 + length w.key + held row_weight w.key o
    one None = omega arith
    one (Some v) = omega arith

    some_held : (o : Option (List ℕ)) → 1 ≤ held_bytes o
    some_held None = omega arith
    some_held (Some v) = omega arith

-- the bytes that undecided transactions take
abbrev pub voted_bytes : List (ℕ × Vote) → ℕ
voted_bytes es = total (λ e. sets_bytes e.1.sets) es

undecided_bytes : (b : EngineState) → total change_bytes (undecided_changes b) ≤ voted_bytes (entries b.voted) + weighs active_weight (entries b.active)
undecided_bytes b =
    omega (arith, joined_bytes (voted_changes (entries b.voted)) (active_changes (entries b.active)), voted_joined (entries b.voted), active_joined (entries b.active))

-- a dump takes no more than the installed records, the undecided changes, and both again
pub dump_bytes : (kind : Kind) (b : EngineState) → total row_bytes (dumped_rows kind b) + total change_bytes (dumped_undos kind b) ≤
    2 * records_weight (installed_records b) + 2 * voted_bytes (entries b.voted) + 2 * weighs active_weight (entries b.active)
dump_bytes Lock b =
    omega (arith, rows_bytes (with_changes (installed_records b) (undecided_changes b)), changes_weight (undecided_changes b) (installed_records b), undecided_bytes b, undos_bytes (undecided_changes b) (installed_records b) (ordered-undecided b))
dump_bytes Occ b = omega (arith, rows_bytes (installed_records b))
dump_bytes Mv b = omega (arith, rows_bytes (installed_records b))
