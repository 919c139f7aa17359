-- How the writing of durable records ends, and what is written then.
use Rattle.std.specs.Prelude.{ℕ, ◌≡◌, ◌⊎◌, List, ◌++◌, take, Option, Some, Result, Ok, Err}
use Rattle.co_base.specs.Limits.{most_coordinators, most_members}
use Rattle.co_outside.specs.declared.spot.Spot.{Spot}
use Rattle.co_outside.specs.declared.sink.SinkFault.{SinkFault}
use Rattle.co_outside.specs.declared.sink.SinkFault.TheVariants as sink
use Rattle.co_outside.specs.Home.{File, HomeView}
use Rattle.co_serial.specs.declared.member_row.MemberRow.{MemberRow}
use Rattle.co_durable.specs.declared.fault.WorldFault.TheVariants as world
use Rattle.co_durable.specs.Durable.{IsDurable, IsUndurable}
use Rattle.co_durable.specs.Told.{AreTold}
use Rattle.co_serial.specs.RecordText.{records_text}
use Rattle.co_top.specs.Views.{SinkView, TellsWrite, TellsDevice}
use Rattle.co_top.specs.declared.status.LimitKind.TheVariants as limit
use Rattle.co_top.specs.declared.status.Status.{Status}
use Rattle.co_top.specs.declared.status.Status.TheVariants as status

-- the status that stands for how the records were put
abbrev pub status_of_put : Result (Unit {0}) SinkFault → Status
status_of_put (Ok put) = status.Done
status_of_put (Err sink.Failed) = status.Write
status_of_put (Err sink.Memory) = status.Memory

-- there are durable records
abbrev pub HasDurable : (Spot → Option File) → Type 0
HasDurable file = (rows : List MemberRow) × IsDurable file most_members most_coordinators rows

-- The cause of a status, by the files of 16 members and 8 coordinators where the home tells them. All is read before anything is put, and no
-- line is read, so no status of lines comes.
abbrev pub HasCause : (Spot → Option File) → Status → Type 0
HasCause file status.Done = HasDurable file
HasCause file status.Write = HasDurable file
HasCause file (status.Device spot) = (spot ≡ record { node = 1; part = 0 }) ⊎ IsUndurable file most_members most_coordinators (world.Device spot)
HasCause file (status.BadLog spot at) = IsUndurable file most_members most_coordinators (world.Bad spot at)
HasCause file (status.Limit (limit.Log spot)) = IsUndurable file most_members most_coordinators (world.Full spot)
HasCause file status.Memory = Unit {0}
HasCause file _ = ⊥

-- the directory failed, or there was no memory
abbrev pub IsExcused : Status → Type 0
IsExcused (status.Device spot) = Unit {0}
IsExcused status.Memory = Unit {0}
IsExcused _ = ⊥

-- Where the files have durable records, all was done, unless the sink failed; and where they have a fault, that one is told. In both cases the
-- directory may have failed, or there was no memory.
pub record IsExact (file : Spot → Option File) (ended : Status) : Type 0 where
  pub done : (rows : List MemberRow) → IsDurable file most_members most_coordinators rows → (ended ≡ status.Done) ⊎ ((ended ≡ status.Write) ⊎ IsExcused ended)
  pub bad : (spot : Spot) (at : ℕ) → IsUndurable file most_members most_coordinators (world.Bad spot at) → (ended ≡ status.BadLog spot at) ⊎ IsExcused ended
  pub full : (spot : Spot) → IsUndurable file most_members most_coordinators (world.Full spot) → (ended ≡ status.Limit (limit.Log spot)) ⊎ IsExcused ended

-- the sink took a front of the text of the durable records
abbrev pub TookFront : (Spot → Option File) → List ℕ → Option (List ℕ) → Type 0
TookFront file held told = (rows : List MemberRow) × IsDurable file most_members most_coordinators rows × ((count : ℕ) × (told ≡ Some (held ++ take count (records_text rows))))

-- What a sink holds then that held this before: the text of the durable records, or a front of it, or nothing of it.
abbrev pub HoldsRecords : (Spot → Option File) → List ℕ → Option (List ℕ) → Status → Type 0
HoldsRecords file held told status.Done = (rows : List MemberRow) × IsDurable file most_members most_coordinators rows × (told ≡ Some (held ++ records_text rows))
HoldsRecords file held told status.Write = TookFront file held told
HoldsRecords file held told (status.Device spot) = told ≡ Some held
HoldsRecords file held told (status.BadLog spot at) = told ≡ Some held
HoldsRecords file held told (status.Limit (limit.Log spot)) = told ≡ Some held
HoldsRecords file held told status.Memory = (told ≡ Some held) ⊎ TookFront file held told
HoldsRecords file held told _ = ⊥

-- The command `records`: how it ends, over what is seen of the sink and the directory. It writes no file.
pub record WritesRecords (directory : List ℕ) (out_old out_new : SinkView) (old new : HomeView) (ended : Status) : Type 0 where
  pub cause : HasCause old.file ended
  pub exact : AreTold old.file most_members most_coordinators → IsExact old.file ended
  pub durable : (held : List ℕ) → out_old.told ≡ Some held → HoldsRecords old.file held out_new.told ended
  pub files : (s : Spot) → new.file s ≡ old.file s
  pub entered : ended ≡ status.Done → new.entered ≡ Some directory
  pub write : TellsWrite out_old out_new ended
  pub device : TellsDevice old new ended
