-- What a checkpoint of a coordinator writes: the commits of its table, behind a header.
use Rattle.std.proofs.Common.{◌≡◌, ℕ, List, [], ◌∷◌, ◌++◌, refl, sym, ap, subst, ◌∙◌}
use Rattle.std.specs.Prelude.{reverse}
use Rattle.std.specs.FinMap.{entries}
use Rattle.std.specs.List.{AllByRecursion}
use Rattle.std.proofs.lemmas.Grind.{reverse_onto}
use Rattle.std.proofs.lemmas.List.{append_assoc, reverse-reverse}
use Rattle.co_base.specs.declared.node.Node.TheVariants as node
use Rattle.co_log.specs.Spare.{IsFillable}
use Rattle.co_node.specs.Writes.{filled_with}
use Rattle.co_plain.specs.CoordLog.{commits_onto, coord_spare}
use Rattle.co_plain.specs.LogWrite.{generation_of}
use Rattle.co_plain.specs.Numbers.{next_generation}
use Rattle.co_plain.specs.declared.coord_state.CoordState.{CoordState}
use Rattle.co_plain.specs.declared.coord_state.Entry.{Entry}
use Rattle.co_plain.specs.declared.coord_state.Entry.TheVariants as entry
use Rattle.co_record.specs.Spelling.{IsWritable}
use Rattle.co_record.specs.declared.record.Record.{Record}
use Rattle.co_record.specs.declared.record.Record.TheVariants as log
use Rattle.co_state.specs.Table.{Table}
use Rattle.co_coord.specs.Restating.{restated, MayRestate}

-- the commits of a table stand before what was there
commits_before : (rs : List Record) (es : List (ℕ × Entry)) → commits_onto rs es ≡ commits_onto [] es ++ rs
commits_before rs [] = refl
commits_before rs ((t, entry.Idle) ∷ es) = commits_before rs es
commits_before rs ((t, entry.Collecting parts yeses) ∷ es) = commits_before rs es
commits_before rs ((t, entry.Committed ms acks) ∷ es) =
    let r = log.Commit t ms in
    commits_before (r ∷ rs) es ∙ sym (append_assoc (commits_onto [] es) (r ∷ []) rs) ∙ ap (λ (xs : List Record). xs ++ rs) (sym (commits_before (r ∷ []) es))

-- so a filled spare holds them behind its header
pub spare_is : (c : ℕ) (y : CoordState) → coord_spare c y (next_generation (generation_of y.log.stable)) ≡ filled_with (node.Coord c) y.log (restated y)
spare_is c y = commits_before (log.Header (node.Coord c) (next_generation (generation_of y.log.stable)) ∷ []) (entries y.table)

module _ (P : Record → Type 0) where
  all_front : (xs ys : List Record) → AllByRecursion P (xs ++ ys) → AllByRecursion P xs
  all_front [] ys all = tt
  all_front (x ∷ xs) ys all = (all.0, all_front xs ys all.1)

  all_back : (rs : List Record) (es : List (ℕ × Entry)) → AllByRecursion P (commits_onto rs es) → AllByRecursion P rs
  all_back rs [] all = all
  all_back rs ((t, entry.Idle) ∷ es) all = all_back rs es all
  all_back rs ((t, entry.Collecting parts yeses) ∷ es) all = all_back rs es all
  all_back rs ((t, entry.Committed ms acks) ∷ es) all = (all_back (log.Commit t ms ∷ rs) es all).1

  all_pushed : (xs : List Record) (x : Record) → AllByRecursion P xs → P x → AllByRecursion P (xs ++ x ∷ [])
  all_pushed [] x all one = (one, tt)
  all_pushed (y ∷ xs) x all one = (all.0, all_pushed xs x all.1 one)

  all_turned : (xs : List Record) → AllByRecursion P xs → AllByRecursion P (reverse xs)
  all_turned [] all = tt
  all_turned (x ∷ xs) all = subst (AllByRecursion P) (sym (reverse_onto xs x [])) (all_pushed (reverse xs) x (all_turned xs all.1) all.0)

-- commits that can be written are records that a spare may be filled with
fillable : (rs : List Record) (es : List (ℕ × Entry)) → AllByRecursion IsWritable (commits_onto rs es) → AllByRecursion IsFillable rs → AllByRecursion IsFillable (commits_onto rs es)
fillable rs [] all may = may
fillable rs ((t, entry.Idle) ∷ es) all may = fillable rs es all may
fillable rs ((t, entry.Collecting parts yeses) ∷ es) all may = fillable rs es all may
fillable rs ((t, entry.Committed ms acks) ∷ es) all may =
    let r = log.Commit t ms in
    fillable (r ∷ rs) es all ((all_back IsWritable (r ∷ rs) es all).0, may)

pub may_fill : (c : ℕ) (y : CoordState) (items : List Record) → MayRestate c y → reverse items ≡ restated y → AllByRecursion IsFillable items
may_fill c y items may is =
    let h = log.Header (node.Coord c) 0 ∷ [] in
    let all = all_front IsWritable (restated y) h (subst (AllByRecursion IsWritable) (commits_before h (entries y.table)) (may 0)) in
    let each = fillable [] (entries y.table) all tt in
    subst (AllByRecursion IsFillable) (ap reverse (sym is) ∙ reverse-reverse items) (all_turned IsFillable (restated y) each)

-- the commits of the coordinator's own table
pub same_commits : (y : CoordState) (table : Table Entry) (items : List Record) → y.table ≡ table → reverse items ≡ commits_onto [] (entries table) → reverse items ≡ restated y
same_commits y table items same is = is ∙ ap (λ (t : Table Entry). commits_onto [] (entries t)) (sym same)

pub oldest_first : (y : CoordState) (items : List Record) → reverse items ≡ restated y → items ≡ reverse (restated y)
oldest_first y items is = sym (reverse-reverse items) ∙ ap reverse is
