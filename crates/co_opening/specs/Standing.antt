-- Attached logs as they are found: fresh, or of records that a run may go on from.
use Rattle.std.specs.Prelude.{ℕ, suc, ◌≡◌, ◌<◌, ◌⊎◌, false, Bool, List, [], reverse, Option, None, Ok}
use Rattle.std.specs.List.{AllByRecursion}
use Rattle.co_base.specs.Nodes.{IsValidNode}
use Rattle.co_base.specs.declared.node.Node.{Node}
use Rattle.co_base.specs.declared.node.Node.TheVariants as node
use Rattle.co_disk.specs.DiskView.{DiskView}
use Rattle.co_outside.specs.declared.spot.Spot.{Spot}
use Rattle.co_outside.specs.Home.{File}
use Rattle.co_frame.specs.Gate.{begins_closed}
use Rattle.co_record.specs.Spelling.{IsWritable}
use Rattle.co_log.specs.Attaching.{IsAttached}
use Rattle.co_log.specs.Fresh.{IsFresh}
use Rattle.co_log.specs.LogView.{LogView}
use Rattle.co_log.specs.NodeFiles.{Items}
use Rattle.co_node.specs.NodeLog.{RepresentsLog}
use Rattle.co_plain.specs.CoordView.{first_refused_at_coord, recovered_commits}
use Rattle.co_plain.specs.MemberView.{first_refused_at_member, recovered_view}
use Rattle.co_plain.specs.Opening.{Found, header_mark, opened_log}
use Rattle.co_recover.specs.Recovered.{past_of_member, past_of_coord, IsCoordRecovery}
use Rattle.co_recover.specs.declared.past.CoordPast.{CoordPast}
use Rattle.co_recover.specs.declared.past.MemberPast.{MemberPast}
use Rattle.co_durable.specs.Recovering.{HasItems}
use Rattle.co_opening.specs.Found.{IsFoundIn}
use Rattle.co_opening.specs.From.{BothFrom}

-- A log that was attached is fresh, and nothing was found; or it stands for the plain log that is opened over what was found.
pub record IsStanding (owner : Node) (log : LogView) (found : Found) : Type 0 where
  pub valid : IsValidNode owner
  pub a : DiskView
  pub b : DiskView
  pub attached : IsAttached owner a b log
  pub either : (IsFresh log × (found.records ≡ []) × (found.spare_closed ≡ begins_closed log.spare.state.stable))
      ⊎ ((0 < log.gate) × (header_mark owner found.records ≡ []) × RepresentsLog owner log (opened_log owner found))

-- what was found of a node, of which this is the log
pub record IsFoundLog (file : Spot → Option File) (resume : Bool) (owner : Node) (log : LogView) (found : Found) : Type 0 where
  pub standing : IsStanding owner log found
  pub in_file : IsFoundIn file owner found
  pub writable : AllByRecursion IsWritable found.records
  pub unused : resume ≡ false → found.records ≡ []

-- what was found of a member, in a federation of so many coordinators: its log, and what that tells
pub record IsMemberFound (coords m : ℕ) (log : LogView) (past : MemberPast) (found : Found) : Type 0 where
  pub standing : IsStanding (node.Member m) log found
  pub allowed : first_refused_at_member coords (reverse found.records) ≡ None
  pub past_is : past ≡ past_of_member (recovered_view found.records)

-- what was found of a coordinator, in a federation of so many members
pub record IsCoordFound (members c : ℕ) (log : LogView) (past : CoordPast) (found : Found) : Type 0 where
  pub standing : IsStanding (node.Coord c) log found
  pub allowed : first_refused_at_coord members (reverse found.records) ≡ None
  pub past_is : past ≡ past_of_coord (recovered_commits found.records)

-- so it is of the members from a number on
abbrev pub AreMembersFound : ℕ → (ℕ → Found) → ℕ → List LogView → List MemberPast → Type 0
AreMembersFound coords found p logs pasts = BothFrom (λ q log past. IsMemberFound coords (suc q) log past (found (suc q))) p logs pasts

abbrev pub AreCoordsFound : ℕ → (ℕ → Found) → ℕ → List LogView → List CoordPast → Type 0
AreCoordsFound members found p logs pasts = BothFrom (λ q log past. IsCoordFound members (suc q) log past (found (suc q))) p logs pasts

-- what the records of a coordinator's log tell
abbrev pub IsCoordPastOf : ℕ → LogView → CoordPast → Type 0
IsCoordPastOf members log past = (items : Items) → HasItems log items → IsCoordRecovery members items (Ok past)
