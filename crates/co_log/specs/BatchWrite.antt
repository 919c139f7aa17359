-- A log write: a batch is laid behind a gate that is not open, synced, the gate is opened, and that is
-- synced. These are device calls 1 to 4.
use Rattle.std.specs.Prelude.{ℕ, ◌+◌, nat_le, if◌then◌else◌, List, [], ◌∷◌, ◌++◌}
use Rattle.co_disk.specs.DiskModel.{DiskState, stable_disk, after_write, after_sync}
use Rattle.co_frame.specs.LogText.{open_gate, closed_gate, batch_text}
use Rattle.co_record.specs.declared.record.Record.{Record}
use Rattle.co_log.specs.LogFile.{spelled}

-- the bytes of a batch, with a closed gate behind it
abbrev pub closed_batch : List Record → List ℕ
closed_batch items = batch_text (spelled items) ++ closed_gate ∷ []

-- calls 1 and 2: the batch is pending behind the gate
abbrev pub batch_pending : List ℕ → ℕ → List ℕ → DiskState
batch_pending bytes gate batch = after_write (stable_disk bytes) (gate + 1) batch

-- calls 3 and 4: the batch is stable, and the open gate is pending
abbrev pub gate_pending : List ℕ → ℕ → List ℕ → DiskState
gate_pending bytes gate batch = after_write (after_sync (batch_pending bytes gate batch)) gate (open_gate ∷ [])

-- the disk at a device call of the write
abbrev pub disk_at : ℕ → List ℕ → ℕ → List ℕ → DiskState
disk_at call bytes gate batch = if nat_le call 2 then batch_pending bytes gate batch else gate_pending bytes gate batch

-- the disk after the write
abbrev pub disk_after : List ℕ → ℕ → List ℕ → DiskState
disk_after bytes gate batch = after_sync (gate_pending bytes gate batch)
