-- The faults of a log write whose batch is spelled out are some of those of a log write.
use Rattle.std.proofs.Common.{◌≡◌, subst}
use Rattle.co_outside.specs.declared.spot.Spot.{Spot}
use Rattle.co_log.specs.declared.fault.LogFault.{LogFault}
use Rattle.co_log.specs.declared.fault.LogFault.TheVariants.{Device, Stopped, Bad, Differs, Full, InUse, Memory}
use Rattle.co_log.specs.Appending.{IsOfAppend}
use Rattle.co_log.specs.Fresh.{IsOfDevice}

pub device_append : (spot : Spot) (e : LogFault) → IsOfDevice spot e → IsOfAppend spot e
device_append spot (Device at) of = of
device_append spot (Stopped call stable marks) of = absurd of
device_append spot (Bad at place) of = absurd of
device_append spot (Differs at place kept read) of = absurd of
device_append spot (Full at) of = absurd of
device_append spot (InUse at) of = absurd of
device_append spot Memory of = tt

pub device_full : (spot : Spot) (e : LogFault) → IsOfDevice spot e → e ≡ Full spot → ⊥
device_full spot e of is = subst (IsOfDevice spot) is of
