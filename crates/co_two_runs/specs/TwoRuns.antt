-- Runs over directories that tell their files, and two of them in a row.
use Rattle.std.specs.Prelude.{ℕ, Bool, true, false, ◌≡◌, List, [], codes, length, Option, Some}
use Rattle.co_outside.specs.declared.spot.Spot.{Spot}
use Rattle.co_outside.specs.declared.home_memory.HomeMemory.{HomeMemory}
use Rattle.co_outside.specs.Home.{File}
use Rattle.co_outside.specs.HomeMemory.{memory_file, memory_seen}
use Rattle.co_durable.specs.Durable.{IsDurable}
use Rattle.co_plain.specs.Promises.{serial_records}
use Rattle.co_serial.specs.MemberRows.{numbered_rows}
use Rattle.co_top.specs.Headline.{CommitsTogether}
use Rattle.co_top.specs.Ran.{Ran, start_of, end_of, IsSoundlyFound}
use Rattle.co_top.specs.Running.{RunsAs}
use Rattle.co_top.specs.Views.{SourceView, SinkView, source_seen, sink_seen}
use Rattle.co_top.specs.declared.status.Status.{Status}
use Rattle.co_top.specs.declared.status.Status.TheVariants as status
use Rattle.co_two_runs.specs.declared.runs.TwoRuns.{TwoRuns}

-- the members committed together, and the files alone give the records of the serial run
pub record IsWell {resume : Bool} {input : List ℕ} {old : Spot → Option File} (r : Ran resume input old) (new : Spot → Option File) : Type 0 where
  pub together : CommitsTogether r new
  pub records : IsDurable new (length r.head.kinds) r.head.coords (numbered_rows (serial_records (start_of r) (end_of r).decided) 1 (length r.head.kinds))

-- a run to the end of the input, and all is well where its logs were fresh or sound
pub record HasRunWell (resume : Bool) (input : List ℕ) (old new : Spot → Option File) : Type 0 where
  pub ran : Ran resume input old
  pub done : ran.rest ≡ []
  pub well : IsSoundlyFound ran → IsWell ran new

-- A run over a directory in memory ended as the command `run` does, over a source that tells this input and a sink that holds nothing; and where it was done, all lines were.
pub record HasEnded (resume : Bool) (input : List ℕ) (old new : HomeMemory) (ended : Status) : Type 0 where
  pub source : SourceView
  pub out : SinkView
  pub runs : RunsAs memory_seen resume (codes "logs") (source_seen (Some input) 0) source (sink_seen (Some []) 0) out old new ended
  pub done : ended ≡ status.Done → HasRunWell resume input (memory_file old) (memory_file new)

-- all is well with a run that went on, where it has as many members and coordinators as the one before it
abbrev pub GoesOnWell : {first second : List ℕ} {old between new : Spot → Option File} → HasRunWell false first old between → HasRunWell true second between new → Type 0
GoesOnWell {new = new} one two = length two.ran.head.kinds ≡ length one.ran.head.kinds → two.ran.head.coords ≡ one.ran.head.coords → IsWell two.ran new

-- A run over fresh logs, and one over what it left, each as the command `run` ends. Where both were done, all is well with the first one, and with the second one.
pub record HaveEnded (first second : List ℕ) (old new : HomeMemory) (ended : TwoRuns) : Type 0 where
  pub between : HomeMemory
  pub one : HasEnded false first old between ended.first
  pub two : HasEnded true second between new ended.second
  pub first_is_well : (done : ended.first ≡ status.Done) → IsWell (one.done done).ran (memory_file between)
  pub second_is_well : (first_done : ended.first ≡ status.Done) (second_done : ended.second ≡ status.Done) → GoesOnWell (one.done first_done) (two.done second_done)
