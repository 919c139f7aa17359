-- What is promised of a schedule that was replayed to its end.
use Rattle.std.specs.Prelude.{ℕ, Bool, true, ◌≡◌, List, ◌++◌, length, map, Option, Some}
use Rattle.co_outside.specs.declared.spot.Spot.{Spot}
use Rattle.co_outside.specs.Home.{File}
use Rattle.co_durable.specs.Durable.{IsDurable}
use Rattle.co_serial.specs.MemberRows.{numbered_rows}
use Rattle.co_durable.specs.Told as files
use Rattle.co_plain.specs.CommitmentOrder.{IsCommitmentOrdered}
use Rattle.co_plain.specs.Promises.{SerialReads, Acknowledged, MembersAgree, serial_records}
use Rattle.co_plain.specs.Runs.{lines, transcript}
use Rattle.co_top.specs.Ran.{Ran, start_of, end_of, text_of, IsSoundlyFound}

-- The members commit together: committed transactions read what they read when run whole, one by one, in the order of their decisions; what was acknowledged is decided, and once; no two members
-- decide one differently; the transcript is commitment ordered (Raz, VLDB 1992); and the files alone give the records that this serial run leaves, and are sound for a run that goes on over them.
pub record CommitsTogether {resume : Bool} {input : List ℕ} {old : Spot → Option File} (r : Ran resume input old) (file : Spot → Option File) : Type 0 where
  pub serial_reads : SerialReads (start_of r) (lines r.events)
  pub acknowledged : Acknowledged (start_of r) (lines r.events)
  pub agreement : MembersAgree (start_of r) (lines r.events)
  pub ordered : IsCommitmentOrdered r.head.kinds (map (λ i. i.what) (transcript 2 r.events (start_of r)))
  pub logs_alone : files.AreTold file (length r.head.kinds) r.head.coords → IsDurable file (length r.head.kinds) r.head.coords (numbered_rows (serial_records (start_of r) (end_of r).decided) 1 (length r.head.kinds))
  pub goes_on : files.AreTold file (length r.head.kinds) r.head.coords → (more : List ℕ) (next : Ran true more file) → length next.head.kinds ≡ length r.head.kinds → next.head.coords ≡ r.head.coords → IsSoundlyFound next

-- The text of the run was put; and where the logs were fresh or sound, the members commit together.
pub record IsWholeRun {resume : Bool} {input : List ℕ} {old : Spot → Option File} (r : Ran resume input old) (held : List ℕ) (new : Spot → Option File) (told : Option (List ℕ)) : Type 0 where
  pub transcript : told ≡ Some (held ++ text_of r)
  pub together : IsSoundlyFound r → CommitsTogether r new
