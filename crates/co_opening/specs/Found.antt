-- Logs as they are found: what the files of each node tell, and what that may be for a run.
use Rattle.std.specs.Prelude.{ℕ, ◌≡◌, ◌≤◌, ◌==◌, ◌&&◌, nat_le, false, List, [], length, reverse, if◌then◌else◌, Option, None}
use Rattle.std.specs.List.{AllByRecursion}
use Rattle.co_base.specs.declared.head.Kind.{Kind}
use Rattle.co_base.specs.declared.node.Node.{Node}
use Rattle.co_base.specs.declared.node.Node.TheVariants as node
use Rattle.co_outside.specs.declared.spot.Spot.{Spot}
use Rattle.co_outside.specs.Home.{File}
use Rattle.co_frame.specs.Gate.{begins_closed}
use Rattle.co_record.specs.Spelling.{IsWritable}
use Rattle.co_log.specs.NodeFiles.{Items, newest_first, IsCurrentIn}
use Rattle.co_plain.specs.CoordView.{first_refused_at_coord}
use Rattle.co_plain.specs.MemberView.{first_refused_at_member}
use Rattle.co_plain.specs.Opening.{Found, OnlyOwnLogs, fresh}
use Rattle.co_law_node.specs.Writable.{IsWithinBounds}

-- the files of a node as they are found: the records of the current one, and whether the other one is closed
pub record IsFoundIn (file : Spot → Option File) (owner : Node) (found : Found) : Type 0 where
  pub part : ℕ
  pub items : Items
  pub current : IsCurrentIn file owner part items
  pub records : found.records ≡ newest_first items
  pub spare : found.spare_closed ≡ begins_closed (if part == 0 then current.b else current.a)

-- what was found of each node, where the directory tells its files; of other nodes nothing is
pub record AreFound (file : Spot → Option File) (members coords : ℕ) (found_member found_coord : ℕ → Found) : Type 0 where
  pub member : (m : ℕ) → 1 ≤ m → m ≤ members → IsFoundIn file (node.Member m) (found_member m)
  pub coord : (c : ℕ) → 1 ≤ c → c ≤ coords → IsFoundIn file (node.Coord c) (found_coord c)
  pub no_member : (m : ℕ) → (nat_le 1 m && nat_le m members) ≡ false → found_member m ≡ fresh
  pub no_coord : (c : ℕ) → (nat_le 1 c && nat_le c coords) ≡ false → found_coord c ≡ fresh

-- The logs are those of the federation's own nodes, each as its grammar allows it, and their records are within their bounds.
pub record MayRun (kinds : List Kind) (coords : ℕ) (found_member found_coord : ℕ → Found) : Type 0 where
  pub own : OnlyOwnLogs kinds coords found_member found_coord
  pub members_allowed : (m : ℕ) → first_refused_at_member coords (reverse (found_member m).records) ≡ None
  pub coords_allowed : (c : ℕ) → first_refused_at_coord (length kinds) (reverse (found_coord c).records) ≡ None
  pub members_within : (m : ℕ) → AllByRecursion IsWithinBounds (found_member m).records
  pub coords_within : (c : ℕ) → AllByRecursion IsWritable (found_coord c).records

-- no log has a record
pub record AreUnused (found_member found_coord : ℕ → Found) : Type 0 where
  pub members : (m : ℕ) → (found_member m).records ≡ []
  pub coords : (c : ℕ) → (found_coord c).records ≡ []
