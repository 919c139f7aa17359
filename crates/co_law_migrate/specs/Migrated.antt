-- The log of a node after a migration: what a checkpoint of the node leaves that is opened over the log.
use Rattle.std.specs.Prelude.{ℕ, true, ◌≡◌, ◌⊎◌, List}
use Rattle.co_base.specs.declared.head.Kind.TheVariants.{Occ}
use Rattle.co_base.specs.declared.node.Node.{Node}
use Rattle.co_base.specs.declared.node.Node.TheVariants as node
use Rattle.co_record.specs.declared.record.Record.{Record}
use Rattle.co_plain.specs.CoordLog.{coord_checkpoint}
use Rattle.co_plain.specs.MemberLog.{member_checkpoint}
use Rattle.co_plain.specs.MemberView.{recovered_view}
use Rattle.co_plain.specs.Numbers.{MemberNumber, CoordNumber}
use Rattle.co_plain.specs.Opening.{Found, opened_log, member_with, opened_coord}
use Rattle.co_plain.specs.declared.coord_state.CoordState.{CoordState}
use Rattle.co_plain.specs.declared.member_state.MemberState.{MemberState}

-- these records are found, and the spare file is closed
abbrev pub found_closed : List Record → Found
found_closed records = record { records = records; spare_closed = true }

-- the member that is opened over them; it validates, and so writes nothing in place, and a checkpoint of it has no undos
abbrev pub member_over : MemberNumber → List Record → MemberState
member_over m records = member_with Occ (opened_log (node.Member m) (found_closed records)) (recovered_view records)

-- the coordinator that is
abbrev pub coord_over : CoordNumber → List Record → CoordState
coord_over c records = opened_coord c (found_closed records)

-- The log with its spare file filled, newest record first: of a member a header of the next generation, a checkpoint without undos and a prepare
-- record for each voted transaction; of a coordinator a header and a commit record for each commit without end.
abbrev pub migrated : Node → List Record → List Record
migrated (node.Member m) records = (member_checkpoint m (member_over m records)).state.log.stable
migrated (node.Coord c) records = (coord_checkpoint c (coord_over c records)).state.log.stable

-- the log of each node of a sort is the old one, or the old one migrated
abbrev pub MayGiveWay : (ℕ → Node) → (ℕ → List Record) → (ℕ → List Record) → Type 0
MayGiveWay node old new = (n : ℕ) → (new n ≡ old n) ⊎ (new n ≡ migrated (node n) (old n))
