-- The names of log files.
use Rattle.std.specs.Prelude.{ℕ, ◌-◌, ◌++◌, ◌==◌, nat_lt, if◌then◌else◌, List, codes}
use Rattle.std.specs.Fmt.{decimal}
use Rattle.co_outside.specs.declared.spot.Spot.{Spot}

-- a node's letter and number: a byte below 128 is a member's, another one a coordinator's
abbrev pub node_name : ℕ → List ℕ
node_name node = if nat_lt node 128 then codes "m" ++ decimal node else codes "c" ++ decimal (node - 128)

abbrev pub part_name : ℕ → List ℕ
part_name part = if part == 0 then codes "a" else codes "b"

-- the node and the part, with a dot between them
abbrev pub spot_name : Spot → List ℕ
spot_name spot = node_name spot.node ++ codes "." ++ part_name spot.part
