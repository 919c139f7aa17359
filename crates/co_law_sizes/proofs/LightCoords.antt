-- A coordinator beside the operations that clients were told of: its table is bounded by them and its records, and so is its log.
use Rattle.std.proofs.Common.{◌≡◌, ℕ, ◌+◌, ◌≤◌, Bool, true, false, List, [], ◌∷◌, ◌++◌, length, arith}
use Rattle.std.specs.Cmp.{nat_cmp_total}
use Rattle.std.specs.Ordering.{nat_cmp}
use Rattle.std.specs.FinMap.{entries, nat_cmp-IsAntisymmetric}
use Rattle.co_message.specs.declared.answer.Answer.{Answer}
use Rattle.co_message.specs.declared.message.Message.{Message}
use Rattle.co_record.specs.declared.record.Record.{Record}
use Rattle.co_record.specs.declared.record.Record.TheVariants as log
use Rattle.co_frame.specs.Gate.{batch_is_stable}
use Rattle.co_state.specs.Table.{Table, no_entries, put}
use Rattle.co_plain.specs.declared.coord_state.CoordState.{CoordState}
use Rattle.co_plain.specs.declared.coord_state.Entry.{Entry}
use Rattle.co_plain.specs.declared.coord_state.Entry.TheVariants as entry
use Rattle.co_plain.specs.declared.log_state.LogState.{LogState}
use Rattle.co_plain.specs.declared.outcome.Outcome.{Outcome}
use Rattle.co_plain.specs.declared.outcome.Outcome.TheVariants.{Completes, StopsAt}
use Rattle.co_plain.specs.LogWrite.{with_batch}
use Rattle.co_plain.specs.CoordView.{recovered_commits}
use Rattle.co_plain.specs.CoordStep.{table_onto, table_from, coord_down, stopped_coord, coord_forced_by}
use Rattle.co_log.specs.Sizes.{log_bytes}
use Rattle.co_law_sizes.proofs.Weights.{weighs, insert_weighs, remove_weighs, empty_weighs}
use Rattle.co_law_sizes.proofs.Records.{headers, older_bytes, older_headers, commit_bytes}

-- the participants of an entry that collects votes; those of every entry, with the bytes of the record that a committed one has
abbrev pub collecting_weight : ℕ → Entry → ℕ
collecting_weight t entry.Idle = 0
collecting_weight t (entry.Collecting parts yeses) = length parts
collecting_weight t (entry.Committed members acks) = 0

abbrev pub entry_weight : ℕ → Entry → ℕ
entry_weight t entry.Idle = 0
entry_weight t (entry.Collecting parts yeses) = length parts
entry_weight t (entry.Committed members acks) = 11 + length members

abbrev pub collecting : Table Entry → ℕ
collecting table = weighs collecting_weight (entries table)

abbrev pub tabled : Table Entry → ℕ
tabled table = weighs entry_weight (entries table)

-- With so much room, a generation, and the operations that clients were told of and may still ask to commit.
pub record LightCoord (room generation told : ℕ) (y : CoordState) : Type 0 where
  pub bytes : log_bytes (y.log.waiting ++ y.log.stable) + collecting y.table + told ≤ room
  pub spare : 1 + tabled y.table + told ≤ room
  pub headed : headers (y.log.waiting ++ y.log.stable) ≤ generation

-- more room, and more that was told
pub coord_more : (k g z : ℕ) (y : CoordState) (j h w : ℕ) → k + w ≤ j + z → g ≤ h → LightCoord k g z y → LightCoord j h w y
coord_more k g z y j h w some up l =
    record {
      bytes = omega (arith, some, l.bytes);
      spare = omega (arith, some, l.spare);
      headed = omega (arith, up, l.headed);
    }

-- ---- what records tell

abbrev unended_weight : ℕ → List ℕ → ℕ
unended_weight t members = 11 + length members

-- each commit without end is a record
unended_bytes : (rs : List Record) → 1 + weighs unended_weight (entries (recovered_commits rs).unended) ≤ log_bytes rs
unended_bytes [] = omega (arith, empty_weighs nat_cmp unended_weight)
unended_bytes (log.Header owner generation ∷ rs) = omega (arith, unended_bytes rs)
unended_bytes (log.Prepare t coord count reads writes ∷ rs) = omega (arith, unended_bytes rs)
unended_bytes (log.Commit t [] ∷ rs) = omega (arith, unended_bytes rs)
unended_bytes (log.Commit t (m ∷ ms) ∷ rs) =
    omega (arith, unended_bytes rs, commit_bytes t (m ∷ ms), insert_weighs nat_cmp_total nat_cmp-IsAntisymmetric unended_weight (recovered_commits rs).unended t (m ∷ ms))
unended_bytes (log.Abort t ∷ rs) = omega (arith, unended_bytes rs)
unended_bytes (log.End t ∷ rs) = omega (arith, unended_bytes rs, remove_weighs nat_cmp_total nat_cmp-IsAntisymmetric unended_weight (recovered_commits rs).unended t)
unended_bytes (log.Checkpoint rows undos committed ∷ rs) = omega (arith, unended_bytes rs)

onto_tabled : (table : Table Entry) (es : List (ℕ × List ℕ)) → tabled (table_onto table es) ≤ tabled table + weighs unended_weight es
onto_tabled table [] = omega arith
onto_tabled table (e ∷ es) =
    omega (arith, onto_tabled (put table e.0 (entry.Committed e.1 [])) es, insert_weighs nat_cmp_total nat_cmp-IsAntisymmetric entry_weight table e.0 (entry.Committed e.1 []))

onto_collecting : (table : Table Entry) (es : List (ℕ × List ℕ)) → collecting (table_onto table es) ≤ collecting table
onto_collecting table [] = omega arith
onto_collecting table (e ∷ es) =
    omega (arith, onto_collecting (put table e.0 (entry.Committed e.1 [])) es, insert_weighs nat_cmp_total nat_cmp-IsAntisymmetric collecting_weight table e.0 (entry.Committed e.1 []))

-- a coordinator that is down, or was opened, has the table that its records tell
pub told_table : (rs : List Record) → (1 + tabled (table_from (entries (recovered_commits rs).unended)) ≤ log_bytes rs) × (collecting (table_from (entries (recovered_commits rs).unended)) ≡ 0)
told_table rs =
    let es = entries (recovered_commits rs).unended in (
      omega (arith, onto_tabled no_entries es, unended_bytes rs, empty_weighs nat_cmp entry_weight),
      omega (arith, onto_collecting no_entries es, empty_weighs nat_cmp collecting_weight),
    )

pub coord_light_down : (k g z : ℕ) (l : LogState) → log_bytes l.stable + z ≤ k → headers l.stable ≤ g → LightCoord k g z (coord_down l)
coord_light_down k g z l bytes up =
    let t = told_table l.stable in
    record { bytes = omega (arith, bytes, t.1); spare = omega (arith, bytes, t.0); headed = up }

-- however a forced write ends
pub coord_light_ends : (k g z c : ℕ) (next : CoordState) (batch : List Record) (a : Answer) (notes : List Message) →
    log_bytes (batch ++ (next.log.waiting ++ next.log.stable)) + collecting next.table + z ≤ k → 1 + tabled next.table + z ≤ k →
    headers (batch ++ (next.log.waiting ++ next.log.stable)) ≤ g →
    (o : Outcome) → LightCoord k g z (coord_forced_by c next batch a notes o).state
coord_light_ends k g z c next batch a notes bytes spare up = by
  where
    older : log_bytes next.log.stable ≤ log_bytes (batch ++ (next.log.waiting ++ next.log.stable))
    older = omega (arith, older_bytes next.log.waiting next.log.stable, older_bytes batch (next.log.waiting ++ next.log.stable))

    older_up : headers next.log.stable ≤ headers (batch ++ (next.log.waiting ++ next.log.stable))
    older_up = omega (arith, older_headers next.log.waiting next.log.stable, older_headers batch (next.log.waiting ++ next.log.stable))

    stopped : (call : ℕ) (b : Bool) → LightCoord k g z (stopped_coord c next call b batch).state
    stopped call true = coord_light_down k g z (with_batch next.log batch) (omega (arith, bytes)) up
    stopped call false = coord_light_down k g z next.log (omega (arith, bytes, older)) (omega (arith, up, older_up))

    by : (o : Outcome) → LightCoord k g z (coord_forced_by c next batch a notes o).state
    by Completes = record { bytes = bytes; spare = spare; headed = up }
    by (StopsAt call leaves) = stopped call (batch_is_stable call leaves)
