-- What an appended batch leaves.
use Rattle.std.proofs.Common.{◌≡◌, ◌⊎◌, ℕ, ◌+◌, ◌<◌, ◌≤◌, Bool, true, false, List, [], ◌∷◌, ◌++◌, length, sym, ap, subst, ◌∙◌, arith, inl, inr}
use Rattle.std.specs.Prelude.{Option, Some, slice_get, if◌then◌else◌}
use Rattle.std.specs.List.{AllByRecursion}
use Rattle.std.proofs.lemmas.List.{length-append}
use Rattle.co_base.specs.Limits.{most_log_bytes}
use Rattle.co_base.specs.declared.leaves.Leaves.{Leaves}
use Rattle.co_disk.specs.DiskModel.{DiskState, IsImage, IsChosen, read_of}
use Rattle.co_disk.specs.DiskView.{DiskView}
use Rattle.co_frame.specs.LogText.{IsBatch, batch_text, closed_gate}
use Rattle.co_record.specs.declared.record.Record.{Record}
use Rattle.co_record.specs.Spelling.{IsSpelled}
use Rattle.co_base.specs.declared.leaves.Stop.{Stop}
use Rattle.co_log.specs.LogFile.{spelled, opened, next_gate, EndsAt, EndsAfter, OldOrBoth}
use Rattle.co_log.specs.BatchWrite.{closed_batch, batch_pending, gate_pending, disk_at, disk_after}
use Rattle.co_frame.specs.Gate.{batch_is_stable}
use Rattle.co_log.specs.Stopping.{IsWriteStopped}
use Rattle.co_log.proofs.Images.{batch_images, old_or_both, chosen_at, written_whole, some_bytes}
use Rattle.co_log.proofs.Stops.{all_stable}

-- what was laid is the batch of the records
pub batch_is : (records batch : List ℕ) (more : List Record) → records ≡ spelled more → batch ≡ batch_text records ++ closed_gate ∷ [] → batch ≡ closed_batch more
batch_is records batch more e is = is ∙ ap (λ (r : List ℕ). batch_text r ++ closed_gate ∷ []) e

pub is_batch : (gate : ℕ) (more : List Record) → 0 < length more → gate + 6 + length (spelled more) ≤ most_log_bytes → IsBatch (spelled more)
is_batch gate more some short = (some_bytes more some, omega (arith, short))

-- the place of the gate behind a batch
pub behind_batch : (gate : ℕ) (batch : List ℕ) (more : List Record) → batch ≡ closed_batch more → gate + length batch ≡ gate + 5 + length (spelled more)
behind_batch gate batch more is = omega (arith, ap (λ (b : List ℕ). length b) is, length-append (batch_text (spelled more)) (closed_gate ∷ []))

pub whole_ends : (bytes batch : List ℕ) (gate : ℕ) (kept : List (ℕ × Record)) (more : List Record) (after : DiskState) → batch ≡ closed_batch more → after ≡ disk_after bytes gate batch → AllByRecursion IsSpelled more → IsBatch (spelled more) → EndsAt bytes gate kept
    → EndsAfter true after.stable gate kept more
whole_ends bytes batch gate kept more after is e these one ends =
    let stable : after.stable ≡ read_of (gate_pending bytes gate (closed_batch more)) = ap (λ (d : DiskState). d.stable) e ∙ ap (λ (b : List ℕ). read_of (gate_pending bytes gate b)) is in
    subst (λ (b : List ℕ). EndsAfter true b gate kept more) (sym stable) (written_whole bytes gate kept more ends these one)

pub next_is : (stable : Bool) (gate next : ℕ) (records : List ℕ) (more : List Record) → next ≡ (if stable then gate + 5 + length records else gate) → records ≡ spelled more → next ≡ next_gate stable gate more
next_is true gate next records more at text = at ∙ ap (λ (r : List ℕ). gate + 5 + length r) text
next_is false gate next records more at text = at

pub stop_ends : (bytes batch read records : List ℕ) (gate : ℕ) (kept : List (ℕ × Record)) (more : List Record) (stop : Option Stop) (call : ℕ) (after : DiskView) (stable : Bool) → batch ≡ closed_batch more → IsWriteStopped stop call (λ n. disk_at n bytes gate batch) after
    → read ≡ read_of after.state → stable ≡ opened (slice_get read gate) → AllByRecursion IsSpelled more → IsBatch (spelled more) → EndsAt bytes gate kept
    → (next : ℕ) → next ≡ (if stable then gate + 5 + length records else gate) → records ≡ spelled more
    → (leaves : Leaves) × (stop ≡ Some (let s : Stop = record { call = call; leaves = leaves } in s)) × (stable ≡ batch_is_stable call leaves) × (next ≡ next_gate stable gate more) × EndsAfter stable after.state.stable gate kept more
stop_ends bytes batch read records gate kept more stop call after stable is w e opens these one ends next at text =
    let chosen : IsChosen (disk_at call bytes gate (closed_batch more)) w.leaves after.state.stable = subst (λ (b : List ℕ). IsChosen (disk_at call bytes gate b) w.leaves after.state.stable) is w.left.chosen in
    let both = chosen_at call bytes after.state.stable gate kept more w.leaves ends these one chosen in
    let whole : read ≡ after.state.stable = e ∙ ap (λ (d : DiskState). read_of d) (all_stable after.state w.left.stable) in
    let same : stable ≡ batch_is_stable call w.leaves = opens ∙ ap (λ (b : List ℕ). opened (slice_get b gate)) whole ∙ both.0 in
    (w.leaves, w.is, same, next_is stable gate next records more at text, subst (λ (b : Bool). EndsAfter b after.state.stable gate kept more) (sym same) both.1)

pub told_ends : (bytes batch image : List ℕ) (gate : ℕ) (kept : List (ℕ × Record)) (more : List Record) → batch ≡ closed_batch more → AllByRecursion IsSpelled more → IsBatch (spelled more) → EndsAt bytes gate kept
    → IsImage (batch_pending bytes gate batch) image ⊎ IsImage (gate_pending bytes gate batch) image → OldOrBoth image gate kept more
told_ends bytes batch image gate kept more is these one ends either = elim either [
  | inl early ↦ inl (batch_images bytes image gate kept batch ends early)
  | inr late ↦ old_or_both bytes image gate kept more ends these one (subst (λ (b : List ℕ). IsImage (gate_pending bytes gate b) image) is late)
]
