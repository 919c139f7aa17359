-- How the fault of a log write is passed on: a stop is no fault of the node.
use Rattle.std.specs.Prelude.{◌≡◌, Result, Ok, Err}
use Rattle.co_log.specs.declared.fault.LogFault.{LogFault}
use Rattle.co_log.specs.declared.fault.LogFault.TheVariants.{Device, Stopped, Bad, Differs, Full, InUse, Memory}
use Rattle.co_log.specs.declared.fault.NodeFault.{NodeFault}
use Rattle.co_log.specs.declared.fault.NodeFault.TheVariants as node
use Rattle.co_node.specs.declared.written.Written.{Written}
use Rattle.co_node.specs.declared.written.Written.TheVariants as written

abbrev pub IsPassedOn : LogFault → Result Written NodeFault → Type 0
IsPassedOn (Device spot) result = result ≡ Err (node.Device spot)
IsPassedOn (Stopped call stable marks) result = result ≡ Ok (written.Stopped call marks)
IsPassedOn (Bad spot at) result = ⊥
IsPassedOn (Differs spot at kept read) result = result ≡ Err (node.Differs spot at kept read)
IsPassedOn (Full spot) result = result ≡ Err (node.Full spot)
IsPassedOn (InUse spot) result = ⊥
IsPassedOn Memory result = result ≡ Err node.Memory
