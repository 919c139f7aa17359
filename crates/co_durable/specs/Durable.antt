-- The durable records of a directory of logs: what the bytes of its files say, and nothing else.
use Rattle.std.specs.Prelude.{ℕ, ◌-◌, ◌≡◌, ◌⊎◌, List, [], map, slice_index_or, Option, None}
use Rattle.std.specs.List.{AllByRecursion}
use Rattle.co_base.specs.declared.node.Node.{Node}
use Rattle.co_outside.specs.declared.spot.Spot.{Spot}
use Rattle.co_outside.specs.Home.{File}
use Rattle.co_record.specs.declared.record.Record.{Record}
use Rattle.co_log.specs.LogView.{spot_of}
use Rattle.co_plain.specs.DurableRecords.{durable_records}
use Rattle.co_recover.specs.Recovered.{IsRefusedAt}
use Rattle.co_serial.specs.declared.member_row.MemberRow.{MemberRow}
use Rattle.co_durable.specs.declared.fault.WorldFault.{WorldFault}
use Rattle.co_durable.specs.declared.fault.WorldFault.TheVariants.{Device, Differs, InUse, Bad, Full, Count, Old, Memory}
use Rattle.co_serial.specs.MemberRows.{numbered_rows}
use Rattle.co_durable.specs.Nodes.{member_nodes, coord_nodes, nodes_of}
use Rattle.co_durable.specs.Pairs.{EachPair, FirstWhere}
use Rattle.co_durable.specs.Reading.{IsUnread}
use Rattle.co_log.specs.NodeFiles.{Items, newest_first, IsCurrentIn, HasRecordsIn}
use Rattle.co_durable.specs.Recovering.{member_refuses, coord_refuses}

-- the files of the node are a log
abbrev pub IsLogIn : (Spot → Option File) → Node → Type 0
IsLogIn file node = (items : Items) × HasRecordsIn file node items

-- the log of a node, newest record first, by its number; a node past the last has no records
abbrev pub log_of : List Items → ℕ → List Record
log_of logs number = slice_index_or (map newest_first logs) (number - 1) []

abbrev pub IsAllowedBy : (Items → Option ℕ) → Items → Type 0
IsAllowedBy refuses items = refuses items ≡ None

-- The durable records of the federation whose logs these are: for each member the records that its log tells, with
-- the writes of each voted transaction laid over whose coordinator's log has its commit.
pub record IsDurable (file : Spot → Option File) (members coords : ℕ) (rows : List MemberRow) : Type 0 where
  pub member_logs : List Items
  pub coord_logs : List Items
  pub read_members : EachPair (HasRecordsIn file) (member_nodes members) member_logs
  pub read_coords : EachPair (HasRecordsIn file) (coord_nodes coords) coord_logs
  pub allowed_members : AllByRecursion (IsAllowedBy (member_refuses coords)) member_logs
  pub allowed_coords : AllByRecursion (IsAllowedBy (coord_refuses members)) coord_logs
  pub are : rows ≡ numbered_rows (durable_records (log_of member_logs) (log_of coord_logs)) 1 members

-- every record of the node's log is allowed at its place
abbrev pub Stands : (Spot → Option File) → (Items → Option ℕ) → Node → Type 0
Stands file refuses node = (items : Items) × HasRecordsIn file node items × IsAllowedBy refuses items

-- the first record of the node's log that is not allowed stands at this place of this file, which is the current one
pub record Falls (file : Spot → Option File) (refuses : Items → Option ℕ) (spot : Spot) (at : ℕ) (node : Node) : Type 0 where
  pub part : ℕ
  pub items : Items
  pub current : IsCurrentIn file node part items
  pub where_is : spot ≡ spot_of node part
  pub refused : IsRefusedAt items (refuses items) at

-- the first node with a record that is not allowed at its place: a member, or a coordinator where all members stand
abbrev pub IsFirstFallen : (Spot → Option File) → ℕ → ℕ → Spot → ℕ → Type 0
IsFirstFallen file members coords spot at =
    FirstWhere (Stands file (member_refuses coords)) (Falls file (member_refuses coords) spot at) (member_nodes members)
    ⊎ (AllByRecursion (Stands file (member_refuses coords)) (member_nodes members)
    × FirstWhere (Stands file (coord_refuses members)) (Falls file (coord_refuses members) spot at) (coord_nodes coords))

-- Why there are no durable records, the first cause in the order of nodes: files that are no log, or too long, or at
-- which the home failed; and where all files are logs, a record that is not allowed at its place.
abbrev pub IsUndurable : (Spot → Option File) → ℕ → ℕ → WorldFault → Type 0
IsUndurable file members coords (Device spot) = FirstWhere (IsLogIn file) (IsUnread file (Device spot)) (nodes_of members coords)
IsUndurable file members coords (Differs spot at kept read) = ⊥
IsUndurable file members coords (InUse spot) = ⊥
IsUndurable file members coords (Bad spot at) =
    FirstWhere (IsLogIn file) (IsUnread file (Bad spot at)) (nodes_of members coords)
    ⊎ (AllByRecursion (IsLogIn file) (nodes_of members coords) × IsFirstFallen file members coords spot at)
IsUndurable file members coords (Full spot) = FirstWhere (IsLogIn file) (IsUnread file (Full spot)) (nodes_of members coords)
IsUndurable file members coords Count = ⊥
IsUndurable file members coords (Old spot) = ⊥
IsUndurable file members coords Memory = Unit {0}
