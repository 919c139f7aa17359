-- Why the logs of a directory were not read.
use Rattle.std.specs.Prelude.{◌≡◌, ◌⊎◌, Option}
use Rattle.co_base.specs.Limits.{most_coordinators, most_members}
use Rattle.co_outside.specs.declared.spot.Spot.{Spot}
use Rattle.co_outside.specs.Home.{File}
use Rattle.co_durable.specs.declared.fault.WorldFault.{WorldFault}
use Rattle.co_durable.specs.declared.fault.WorldFault.TheVariants.{Device}
use Rattle.co_durable.specs.Durable.{IsUndurable}

-- By the files where the home tells them: a failed device is one of the nodes' files, or the directory could not be entered.
abbrev pub IsUnreadable : (Spot → Option File) → WorldFault → Type 0
IsUnreadable file (Device spot) = (spot ≡ record { node = 1; part = 0 }) ⊎ IsUndurable file most_members most_coordinators (Device spot)
IsUnreadable file fault = IsUndurable file most_members most_coordinators fault
