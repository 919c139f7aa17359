-- The calls of a log over a home: what a log write asks, and what each call leaves of the log and of the home, by its answer. The count of the home's
-- faults stands but where the device failed.
use Rattle.std.specs.Prelude.{ℕ, ◌≡◌, ◌⊎◌, true, false, Bool, List, [], ◌++◌, Some, Result, Ok, Err}
use Rattle.co_base.specs.Limits.{most_log_bytes}
use Rattle.co_base.specs.Nodes.{IsValidNode}
use Rattle.co_base.specs.declared.mark.Mark.{Mark}
use Rattle.co_base.specs.declared.mark.MarkKind.TheVariants as kind
use Rattle.co_base.specs.declared.node.Node.{Node}
use Rattle.co_outside.specs.Home.{File, HomeView, IsClean, RestStays, HasFailed}
use Rattle.co_outside.specs.declared.spot.Spot.{Spot}
use Rattle.co_disk.specs.DiskView.{DiskView}
use Rattle.co_frame.specs.Gate.{begins_closed}
use Rattle.co_record.specs.declared.record.Record.{Record}
use Rattle.co_record.specs.Format.{newest}
use Rattle.co_log.specs.declared.fault.LogFault.{LogFault}
use Rattle.co_log.specs.declared.fault.LogFault.TheVariants.{Device, Stopped, Bad, Differs, Full, InUse, Memory}
use Rattle.co_log.specs.Attaching.{IsAttached, IsWithin, IsToldAs, IsOfAttach}
use Rattle.co_log.specs.Current.{IsOrdered, IsCurrentOf, IsCurrentForced, IsCurrentAfter, IsCurrentMade}
use Rattle.co_log.specs.Forcing.{IsForced, IsDone}
use Rattle.co_log.specs.Fresh.{IsFresh, IsMade, IsMaking, header_alone}
use Rattle.co_log.specs.LogFile.{EndsAt, OldOrBoth}
use Rattle.co_log.specs.LogView.{LogView, IsLive, IsHeld, spot_of}
use Rattle.co_log.specs.Others.{BothWithin, OtherNodesStay}
use Rattle.co_log.specs.Rereading.{IsOfReattach, AreReread}
use Rattle.co_log.specs.Spare.{IsClosing, IsSpareImage, IsFilling, IsOverfull, filling}

-- what a log write on the current file asks: the home holds the log, which is of the newest version and has its records
pub record MayForce (home : HomeView) (log : LogView) : Type 0 where
  pub held : IsHeld home log
  pub newest : log.version ≡ newest
  pub live : (items : List (ℕ × Record)) × IsLive log items

-- what the filling of the spare file asks: the home holds the log, which has its records, and the spare is closed with nothing that pends
pub record MayFill (home : HomeView) (log : LogView) : Type 0 where
  pub held : IsHeld home log
  pub live : (items : List (ℕ × Record)) × IsLive log items
  pub node : IsValidNode log.node
  pub still : log.spare.state.pending ≡ []
  pub closed : begins_closed log.spare.state.stable ≡ true

-- what the closing of the spare file asks: the home holds the log, and the spare is not closed, with nothing that pends
pub record MayClose (home : HomeView) (log : LogView) : Type 0 where
  pub held : IsHeld home log
  pub still : log.spare.state.pending ≡ []
  pub unclosed : begins_closed log.spare.state.stable ≡ false

-- what the making of a log asks: the home holds it, and it is a fresh one of a node
pub record MayMake (home : HomeView) (log : LogView) : Type 0 where
  pub held : IsHeld home log
  pub fresh : IsFresh log
  pub node : IsValidNode log.node

-- what a crash between two log writes asks: the home holds the log, and nothing pends
pub record MayCut (home : HomeView) (log : LogView) : Type 0 where
  pub held : IsHeld home log
  pub still : log.current.state.pending ≡ []
  pub spare_still : log.spare.state.pending ≡ []

-- where a log write was done or stopped, the home holds the log with the written file clean, and did not fail
pub record IsServed (after : LogView) (spot : Spot) (old new : HomeView) : Type 0 where
  pub held : IsHeld new after
  pub clean : IsClean new spot
  pub quiet : new.faults ≡ old.faults

-- What a log write on the file of this spot answers. It was done, or stopped at the armed device call, as `did` says of the answer; or the device
-- failed; or the file would be too long, as `long` says, which is so of no other answer but want of memory; or there was no memory, and the file is as
-- `kept` says.
abbrev pub IsWriteAnswer : {A : Type 0} → Spot → (did : Result A LogFault → Type 0) → (long kept : Type 0) → LogView → HomeView → HomeView → Result A LogFault → Type 0
IsWriteAnswer spot did long kept after old new (Ok it) = did (Ok it) × IsServed after spot old new × (long → ⊥)
IsWriteAnswer spot did long kept after old new (Err (Device at)) = (at ≡ spot) × HasFailed spot old new × (long → ⊥)
IsWriteAnswer spot did long kept after old new (Err (Stopped call stable marks)) = did (Err (Stopped call stable marks)) × IsServed after spot old new × (long → ⊥)
IsWriteAnswer spot did long kept after old new (Err (Bad at place)) = ⊥
IsWriteAnswer spot did long kept after old new (Err (Differs at place kept_byte read)) = ⊥
IsWriteAnswer spot did long kept after old new (Err (Full at)) = (at ≡ spot) × long × (new.faults ≡ old.faults)
IsWriteAnswer spot did long kept after old new (Err (InUse at)) = ⊥
IsWriteAnswer spot did long kept after old new (Err Memory) = kept × (new.faults ≡ old.faults)

-- the log after a log write of the waiting records and of these behind them
abbrev pub IsForcedWith : LogView → LogView → List Record → Result (List Mark) LogFault → Type 0
IsForcedWith log after more result = (items : List (ℕ × Record)) → IsLive log items → IsForced log items (log.waiting ++ more) after result

-- the file has the old records alone
abbrev pub HasOldAlone : LogView → HomeView → Type 0
HasOldAlone log home = (items : List (ℕ × Record)) → IsLive log items → (f : File) → home.file log.current.spot ≡ Some f → EndsAt f.bytes log.gate items

-- what such a log write answers; `long` says that the file would be too long with the records
abbrev pub IsForceAnswer : Type 0 → LogView → LogView → List Record → HomeView → HomeView → Result (List Mark) LogFault → Type 0
IsForceAnswer long log after more old new result = IsWriteAnswer log.current.spot (IsForcedWith log after more) long (HasOldAlone log new) after old new result

-- What the log write of the waiting records and of these behind them leaves. `long` says that the file would be too long with them; then it is
-- refused, or there is no memory.
pub record HasForced (long : Type 0) (log after : LogView) (more : List Record) (old new : HomeView) (result : Result (List Mark) LogFault) : Type 0 where
  pub answered : IsForceAnswer long log after more old new result
  pub told : (items : List (ℕ × Record)) → IsLive log items → (f : File) → new.file log.current.spot ≡ Some f → IsDone result ⊎ OldOrBoth f.bytes log.gate items (log.waiting ++ more)
  pub current : (items : List (ℕ × Record)) → IsOrdered log items → (c s : File) → new.file log.current.spot ≡ Some c → new.file log.spare.spot ≡ Some s → IsCurrentForced log items (log.waiting ++ more) c.bytes s.bytes result
  pub short : BothWithin new.file log
  pub rest : RestStays log.current.spot old new

-- what the closing of the spare file answers: it is never too long
abbrev pub IsCloseAnswer : LogView → LogView → HomeView → HomeView → Result (Unit {0}) LogFault → Type 0
IsCloseAnswer log after old new result = IsWriteAnswer log.spare.spot (IsClosing log after) ⊥ (Unit {0}) after old new result

-- what the closing of the spare file leaves
pub record HasClosed (log after : LogView) (old new : HomeView) (result : Result (Unit {0}) LogFault) : Type 0 where
  pub answered : IsCloseAnswer log after old new result
  pub told : (f : File) → new.file log.spare.spot ≡ Some f → IsSpareImage log.spare.state.stable f.bytes
  pub current : (items : List (ℕ × Record)) → IsOrdered log items → (c s : File) → new.file log.current.spot ≡ Some c → new.file log.spare.spot ≡ Some s → IsCurrentOf log.node log.version log.generation c.bytes s.bytes items
  pub short : BothWithin new.file log
  pub rest : RestStays log.spare.spot old new

-- the spare file has no batch
abbrev pub HasNoBatch : LogView → HomeView → Type 0
HasNoBatch log home = (f : File) → home.file log.spare.spot ≡ Some f → EndsAt f.bytes 0 []

-- what the filling of the spare file with these records answers
abbrev pub IsFillAnswer : LogView → LogView → List Record → HomeView → HomeView → Result Mark LogFault → Type 0
IsFillAnswer log after more old new result = IsWriteAnswer log.spare.spot (IsFilling log more after) (IsOverfull log more) (HasNoBatch log new) after old new result

-- What the filling of the spare file with these records leaves. One that is overfull is refused, or there is no memory.
pub record HasFilled (log after : LogView) (more : List Record) (old new : HomeView) (result : Result Mark LogFault) : Type 0 where
  pub answered : IsFillAnswer log after more old new result
  pub told : IsDone result ⊎ ((f : File) → new.file log.spare.spot ≡ Some f → OldOrBoth f.bytes 0 [] (filling log more))
  pub current : (kept : List (ℕ × Record)) → IsOrdered log kept → (c s : File) → new.file log.current.spot ≡ Some c → new.file log.spare.spot ≡ Some s → IsCurrentAfter log kept more c.bytes s.bytes result
  pub short : BothWithin new.file log
  pub rest : RestStays log.spare.spot old new

-- what the making of a fresh log answers, which no armed stop reaches and which is never too long
abbrev pub IsMakeAnswer : LogView → LogView → HomeView → HomeView → Result Mark LogFault → Type 0
IsMakeAnswer log after old new (Ok mark) = IsMade log after × (mark ≡ record { node = log.node; kind = kind.Header; number = 1 }) × IsServed after log.current.spot old new
IsMakeAnswer log after old new (Err (Device at)) = (at ≡ log.current.spot) × HasFailed log.current.spot old new
IsMakeAnswer log after old new (Err (Stopped call stable marks)) = ⊥
IsMakeAnswer log after old new (Err (Bad at place)) = ⊥
IsMakeAnswer log after old new (Err (Differs at place kept read)) = ⊥
IsMakeAnswer log after old new (Err (Full at)) = ⊥
IsMakeAnswer log after old new (Err (InUse at)) = ⊥
IsMakeAnswer log after old new (Err Memory) = new.faults ≡ old.faults

-- what the making of a fresh log leaves
pub record HasMade (log after : LogView) (old new : HomeView) (result : Result Mark LogFault) : Type 0 where
  pub answered : IsMakeAnswer log after old new result
  pub told : (f : File) → new.file log.current.spot ≡ Some f → IsMaking f.bytes (header_alone log.node)
  pub current : (c s : File) → new.file log.current.spot ≡ Some c → new.file log.spare.spot ≡ Some s → IsCurrentMade log c.bytes s.bytes result
  pub short : BothWithin new.file log
  pub rest : RestStays log.current.spot old new

-- where the device failed, the home did at this spot; with any other fault it did not fail
abbrev pub HasFailedAs : LogFault → HomeView → HomeView → Type 0
HasFailedAs (Device spot) old new = HasFailed spot old new
HasFailedAs (Stopped call stable marks) old new = new.faults ≡ old.faults
HasFailedAs (Bad spot at) old new = new.faults ≡ old.faults
HasFailedAs (Differs spot at kept read) old new = new.faults ≡ old.faults
HasFailedAs (Full spot) old new = new.faults ≡ old.faults
HasFailedAs (InUse spot) old new = new.faults ≡ old.faults
HasFailedAs Memory old new = new.faults ≡ old.faults

-- The log of a node over its two files as they were read, which the home holds. One that is not resumed is fresh, and no file of it was used.
pub record IsAttachedOver (node : Node) (resume : Bool) (old new : HomeView) (log : LogView) : Type 0 where
  pub attached : (a : DiskView) × (b : DiskView) × IsToldAs (spot_of node 0) (old.file (spot_of node 0)) a × IsToldAs (spot_of node 1) (old.file (spot_of node 1)) b × IsAttached node a b log
  pub unused : resume ≡ false → IsWithin 1 (old.file (spot_of node 0)) × IsWithin 1 (old.file (spot_of node 1))
  pub fresh : resume ≡ false → IsFresh log
  pub short : IsWithin most_log_bytes (old.file (spot_of node 0)) × IsWithin most_log_bytes (old.file (spot_of node 1))
  pub held : IsHeld new log

-- what the attaching of the log of a node answers; the faults stand by their cases in `IsOfAttach`
abbrev pub IsAttachAnswer : Node → Bool → HomeView → HomeView → Result LogView LogFault → Type 0
IsAttachAnswer node resume old new (Ok log) = IsAttachedOver node resume old new log × (new.faults ≡ old.faults)
IsAttachAnswer node resume old new (Err fault) = IsOfAttach node resume (old.file (spot_of node 0)) (old.file (spot_of node 1)) fault × HasFailedAs fault old new

-- what the attaching of the log of a node leaves and gives
pub record HasAttached (node : Node) (resume : Bool) (old new : HomeView) (result : Result LogView LogFault) : Type 0 where
  pub answered : IsAttachAnswer node resume old new result
  pub file_a : new.file (spot_of node 0) ≡ old.file (spot_of node 0)
  pub file_b : new.file (spot_of node 1) ≡ old.file (spot_of node 1)
  pub rest : OtherNodesStay node old new

-- what the reading again of both files of a log answers; the faults stand by their cases in `IsOfReattach`
abbrev pub IsReattachAnswer : {H : Type 0} → (H → Spot → ℕ → List ℕ → Type 0) → (H → HomeView) → LogView → H → H → Result (Unit {0}) LogFault → Type 0
IsReattachAnswer gives seen log old new (Ok it) = AreReread gives seen log old new × ((seen new).faults ≡ (seen old).faults)
IsReattachAnswer gives seen log old new (Err fault) = IsOfReattach gives seen log old fault × HasFailedAs fault (seen old) (seen new)

-- what the reading again of both files of a log leaves
pub record HasReattached {H : Type 0} (gives : H → Spot → ℕ → List ℕ → Type 0) (seen : H → HomeView) (log : LogView) (old new : H) (result : Result (Unit {0}) LogFault) : Type 0 where
  pub answered : IsReattachAnswer gives seen log old new result
  pub current : (seen new).file log.current.spot ≡ (seen old).file log.current.spot
  pub spare : (seen new).file log.spare.spot ≡ (seen old).file log.spare.spot
  pub held : IsHeld (seen new) log
  pub rest : OtherNodesStay log.node (seen old) (seen new)
