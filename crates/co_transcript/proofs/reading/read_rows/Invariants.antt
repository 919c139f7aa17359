use Rattle.std.proofs.Common.{◌-◌, length}
use Rattle.std.specs.Prelude.{option_copied}
use Rattle.co_transcript.specs.Rows.{IsReadingRows}
use Rattle.co_transcript.proofs.reading.read_rows.Given as goal

abbrev pub invariant-loop-before : goal.invariant-loop-before
invariant-loop-before l = IsReadingRows l.count l.initial.words l.words l.rows (option_copied l.before)

abbrev pub decreases-loop-before : goal.decreases-loop-before
decreases-loop-before l = l.count - length l.rows
