-- Why the logs of a directory were not read, from why it has no durable records.
use Rattle.std.proofs.Common.{◌≡◌, Option, Result, Ok, Err, inr, subst}
use Rattle.std.specs.Prelude.{IfErr}
use Rattle.co_base.specs.Limits.{most_coordinators, most_members}
use Rattle.co_outside.specs.declared.spot.Spot.{Spot}
use Rattle.co_outside.specs.Home.{File}
use Rattle.co_durable.specs.declared.fault.WorldFault.{WorldFault}
use Rattle.co_durable.specs.declared.fault.WorldFault.TheVariants.{Device, Differs, InUse, Bad, Full, Count, Old, Memory}
use Rattle.co_durable.specs.Durable.{IsUndurable}
use Rattle.co_durable.specs.Directory.{IsUnreadable}

pub undurable_refuses : (file : Spot → Option File) (fault : WorldFault) → IsUndurable file most_members most_coordinators fault → IsUnreadable file fault
undurable_refuses file (Device spot) u = inr u
undurable_refuses file (Differs spot at kept read) u = u
undurable_refuses file (InUse spot) u = u
undurable_refuses file (Bad spot at) u = u
undurable_refuses file (Full spot) u = u
undurable_refuses file Count u = u
undurable_refuses file (Old spot) u = u
undurable_refuses file Memory u = u

pub unread_result : {T : Type 0} (result : Result T WorldFault) (read file : Spot → Option File) → read ≡ file → IfErr result (IsUndurable read most_members most_coordinators) → IfErr result (IsUnreadable file)
unread_result (Ok x) read file same u = tt
unread_result (Err fault) read file same u = undurable_refuses file fault (subst (λ (f : Spot → Option File). IsUndurable f most_members most_coordinators fault) same u)
