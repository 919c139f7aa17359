-- Log writes: what a completed one leaves, and how one ends that may be stopped in a device call.
use Rattle.std.specs.Prelude.{ℕ, Bool, false, nat_le, List, [], ◌∷◌, ◌++◌, map, reverse, slice_get, if◌then◌else◌, Option, None, Some}
use Rattle.co_base.specs.declared.mark.Mark.{Mark}
use Rattle.co_base.specs.declared.mark.MarkKind.TheVariants as kind
use Rattle.co_base.specs.declared.node.Node.{Node}
use Rattle.co_record.specs.declared.record.Record.{Record}
use Rattle.co_record.specs.declared.record.Record.TheVariants as log
use Rattle.co_record.specs.Marks.{mark_of}
use Rattle.co_plain.specs.declared.log_state.LogState.{LogState}
use Rattle.co_base.specs.declared.leaves.Stop.{Stop}
use Rattle.co_plain.specs.declared.outcome.Outcome.{Outcome}
use Rattle.co_plain.specs.declared.outcome.Outcome.TheVariants.{Completes, StopsAt}
use Rattle.co_plain.specs.Numbers.{Generation}

-- How a log write of so many device calls ends. An armed stop above that count passes unused.
abbrev pub outcome_of : Option Stop → ℕ → Outcome
outcome_of None calls = Completes
outcome_of (Some stop) calls = if nat_le stop.call calls then StopsAt stop.call stop.leaves else Completes

-- a completed write of these records, newest first; the waiting ones stand before them
abbrev pub with_batch : LogState → List Record → LogState
with_batch l records =
    record { stable = records ++ (l.waiting ++ l.stable); waiting = []; armed = None; spare_closed = l.spare_closed }

-- a filled spare: its records replace all others, and the file that was current is the new spare
abbrev pub with_filled_spare : LogState → List Record → LogState
with_filled_spare l records = record { stable = records; waiting = []; armed = None; spare_closed = false }

-- the spare is closed, or is not where the write that closes it was stopped
abbrev pub with_spare : LogState → Bool → LogState
with_spare l closed = record l { armed = None; spare_closed = closed }

-- a record that goes out with the next forced one
abbrev pub with_waiting : LogState → Record → LogState
with_waiting l r = record l { waiting = r ∷ l.waiting }

abbrev pub with_stop : LogState → Option Stop → LogState
with_stop l stop = record l { armed = stop }

-- what a crash leaves
abbrev pub crashed_log : LogState → LogState
crashed_log l = record l { waiting = []; armed = None }

-- the marks of records that are listed newest first, the oldest mark first
abbrev pub marks_of : Node → List Record → List Mark
marks_of node records = map (mark_of node) (reverse records)

-- the mark of a filled spare
abbrev pub checkpoint_marks : Node → Generation → List Mark
checkpoint_marks node generation = record { node = node; kind = kind.Checkpoint; number = generation } ∷ []

-- the generation of a file: that of its header, which is its oldest record
abbrev pub generation_in : Option Record → Generation
generation_in None = 0
generation_in (Some (log.Header owner generation)) = generation
generation_in (Some (log.Prepare t coord count reads writes)) = 0
generation_in (Some (log.Commit t members)) = 0
generation_in (Some (log.Abort t)) = 0
generation_in (Some (log.End t)) = 0
generation_in (Some (log.Checkpoint rows undos committed)) = 0

abbrev pub generation_of : List Record → Generation
generation_of records = generation_in (slice_get (reverse records) 0)
