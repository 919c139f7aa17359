-- What opened logs tell, and logs with a record that is not allowed at its place.
use Rattle.std.specs.Prelude.{ℕ, ◌≡◌, List, Option, None, Ok}
use Rattle.co_disk.specs.DiskModel.{read_of}
use Rattle.co_log.specs.LogView.{LogView}
use Rattle.co_log.specs.NodeFiles.{Items, newest_first}
use Rattle.co_outside.specs.declared.spot.Spot.{Spot}
use Rattle.co_record.specs.Stored.{HasRecords}
use Rattle.co_plain.specs.MemberView.{Numbers, first_refused_at_member}
use Rattle.co_plain.specs.CoordView.{recovered_commits, first_refused_at_coord}
use Rattle.co_recover.specs.declared.past.MemberPast.{MemberPast}
use Rattle.co_recover.specs.declared.fault.RecoverFault.{RecoverFault}
use Rattle.co_recover.specs.declared.fault.RecoverFault.TheVariants as recover
use Rattle.co_recover.specs.Recovered.{records_of, IsRefusedAt, IsMemberRecovery}
use Rattle.co_durable.specs.declared.fault.WorldFault.{WorldFault}
use Rattle.co_durable.specs.declared.fault.WorldFault.TheVariants.{Device, Differs, InUse, Bad, Full, Count, Old, Memory}
use Rattle.co_durable.specs.Pairs.{FirstWhere}

-- which record is the first that is not allowed behind so many others, in the log of a member or of a coordinator
abbrev pub member_refuses : ℕ → Items → Option ℕ
member_refuses coords items = first_refused_at_member coords (records_of items)

abbrev pub coord_refuses : ℕ → Items → Option ℕ
coord_refuses members items = first_refused_at_coord members (records_of items)

-- the current file of the log has these records
abbrev pub HasItems : LogView → Items → Type 0
HasItems log items = HasRecords (read_of log.current.state) items

abbrev pub IsReadable : LogView → Type 0
IsReadable log = (items : Items) × HasItems log items

-- what the records of a member's log tell
abbrev pub IsPastOf : ℕ → LogView → MemberPast → Type 0
IsPastOf coords log past = (items : Items) → HasItems log items → IsMemberRecovery coords items (Ok past)

-- the numbers of all commits among the records of a coordinator's log
pub record AreSeen (members : ℕ) (items : Items) (seen : Numbers) : Type 0 where
  pub allowed : coord_refuses members items ≡ None
  pub are : seen ≡ (recovered_commits (newest_first items)).seen

abbrev pub IsSeenIn : ℕ → LogView → Numbers → Type 0
IsSeenIn members log seen = (items : Items) → HasItems log items → AreSeen members items seen

-- every record of the log is allowed at its place
abbrev pub LogStands : (Items → Option ℕ) → LogView → Type 0
LogStands refuses log = (items : Items) → HasItems log items → refuses items ≡ None

-- the fault of a log with this current file that was not recovered
abbrev pub fallen : Spot → RecoverFault → WorldFault
fallen spot (recover.Inconsistent at) = Bad spot at
fallen spot recover.Memory = Memory

-- why a log told nothing: its first record that is not allowed stands at this place of its current file
abbrev pub LogFalls : (Items → Option ℕ) → WorldFault → LogView → Type 0
LogFalls refuses (Device spot) log = ⊥
LogFalls refuses (Differs spot at kept read) log = ⊥
LogFalls refuses (InUse spot) log = ⊥
LogFalls refuses (Bad spot at) log = (spot ≡ log.current.spot) × ((items : Items) → HasItems log items → IsRefusedAt items (refuses items) at)
LogFalls refuses (Full spot) log = ⊥
LogFalls refuses Count log = ⊥
LogFalls refuses (Old spot) log = ⊥
LogFalls refuses Memory log = Unit {0}

-- the first log with a record that is not allowed, behind others that stand
abbrev pub IsFirstToFall : (Items → Option ℕ) → List LogView → WorldFault → Type 0
IsFirstToFall refuses logs Memory = Unit {0}
IsFirstToFall refuses logs fault = FirstWhere (LogStands refuses) (LogFalls refuses fault) logs
