-- The fault of a call on a log, as the node that made the call sees it.
use Rattle.std.specs.Prelude.{◌≡◌, Result, Ok, Err}
use Rattle.co_log.specs.declared.fault.LogFault.{LogFault}
use Rattle.co_log.specs.declared.fault.LogFault.TheVariants.{Device, Stopped, Bad, Differs, Full, InUse, Memory}
use Rattle.co_log.specs.declared.fault.NodeFault.{NodeFault}
use Rattle.co_log.specs.declared.fault.NodeFault.TheVariants as node
use Rattle.co_log.specs.declared.fault.StoppedWrite.{StoppedWrite}

-- a fault of a call other than attaching
abbrev pub IsOfNode : LogFault → Type 0
IsOfNode (Device spot) = Unit {0}
IsOfNode (Stopped call stable marks) = Unit {0}
IsOfNode (Bad spot at) = ⊥
IsOfNode (Differs spot at kept read) = Unit {0}
IsOfNode (Full spot) = Unit {0}
IsOfNode (InUse spot) = ⊥
IsOfNode Memory = Unit {0}

-- a stop, or the fault with which a run ends
abbrev pub IsSplit : LogFault → Result StoppedWrite NodeFault → Type 0
IsSplit (Device spot) result = result ≡ Err (node.Device spot)
IsSplit (Stopped call stable marks) result = result ≡ Ok (record { call = call; stable = stable; marks = marks })
IsSplit (Bad spot at) result = ⊥
IsSplit (Differs spot at kept read) result = result ≡ Err (node.Differs spot at kept read)
IsSplit (Full spot) result = result ≡ Err (node.Full spot)
IsSplit (InUse spot) result = ⊥
IsSplit Memory result = result ≡ Err node.Memory
