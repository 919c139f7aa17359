-- The logs of all nodes, with what they tell, as a federation may be opened over them.
use Rattle.std.specs.Prelude.{ℕ, ◌≡◌, ◌<◌, false, Bool, List, length, Option}
use Rattle.co_base.specs.Limits.{most_transactions}
use Rattle.co_base.specs.declared.head.Head.{Head}
use Rattle.co_outside.specs.declared.spot.Spot.{Spot}
use Rattle.co_outside.specs.Home.{File}
use Rattle.co_log.specs.LogView.{LogView}
use Rattle.co_plain.specs.Opening.{Found}
use Rattle.co_recover.specs.declared.past.CoordPast.{CoordPast}
use Rattle.co_recover.specs.declared.past.MemberPast.{MemberPast}
use Rattle.co_durable.specs.declared.fault.WorldFault.{WorldFault}
use Rattle.co_durable.specs.declared.fault.WorldFault.TheVariants.{Device, Differs, InUse, Bad, Full, Count, Old, Memory}
use Rattle.co_opening.specs.Fit.{AreFit}
use Rattle.co_opening.specs.Found.{AreFound, MayRun, AreUnused}
use Rattle.co_opening.specs.Standing.{AreMembersFound, AreCoordsFound}

-- what was found of each node, and that it may be run on
pub record AreJudged (file : Spot → Option File) (resume : Bool) (head : Head) (member_logs coord_logs : List LogView) (member_pasts : List MemberPast) (coord_pasts : List CoordPast) : Type 0 where
  pub found_member : ℕ → Found
  pub found_coord : ℕ → Found
  pub found : AreFound file (length head.kinds) head.coords found_member found_coord
  pub may : MayRun head.kinds head.coords found_member found_coord
  pub unused : resume ≡ false → AreUnused found_member found_coord
  pub fit : AreFit file head resume
  pub members : AreMembersFound head.coords found_member 0 member_logs member_pasts
  pub coords : AreCoordsFound (length head.kinds) found_coord 0 coord_logs coord_pasts
  pub many_members : length member_logs ≡ length head.kinds
  pub many_coords : length coord_logs ≡ head.coords

-- why these numbers were not made a list: there are too many, or there was no memory
abbrev pub IsUncounted : List ℕ → WorldFault → Type 0
IsUncounted numbers (Device spot) = ⊥
IsUncounted numbers (Differs spot at kept read) = ⊥
IsUncounted numbers (InUse spot) = ⊥
IsUncounted numbers (Bad spot at) = ⊥
IsUncounted numbers (Full spot) = ⊥
IsUncounted numbers Count = most_transactions < length numbers
IsUncounted numbers (Old spot) = ⊥
IsUncounted numbers Memory = Unit {0}

-- the faults of making a log
abbrev pub IsOfMaking : WorldFault → Type 0
IsOfMaking (Device spot) = Unit {0}
IsOfMaking (Differs spot at kept read) = ⊥
IsOfMaking (InUse spot) = ⊥
IsOfMaking (Bad spot at) = ⊥
IsOfMaking (Full spot) = ⊥
IsOfMaking Count = ⊥
IsOfMaking (Old spot) = ⊥
IsOfMaking Memory = Unit {0}

-- the faults of logs that are told
abbrev pub IsOfTelling : WorldFault → Type 0
IsOfTelling (Device spot) = ⊥
IsOfTelling (Differs spot at kept read) = ⊥
IsOfTelling (InUse spot) = ⊥
IsOfTelling (Bad spot at) = Unit {0}
IsOfTelling (Full spot) = ⊥
IsOfTelling Count = ⊥
IsOfTelling (Old spot) = ⊥
IsOfTelling Memory = Unit {0}

-- the faults of logs that are judged
abbrev pub IsOfJudging : WorldFault → Type 0
IsOfJudging (Device spot) = ⊥
IsOfJudging (Differs spot at kept read) = ⊥
IsOfJudging (InUse spot) = ⊥
IsOfJudging (Bad spot at) = Unit {0}
IsOfJudging (Full spot) = ⊥
IsOfJudging Count = ⊥
IsOfJudging (Old spot) = Unit {0}
IsOfJudging Memory = Unit {0}
