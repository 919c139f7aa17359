-- How the fault of an event is told: that of a node as that of its federation.
use Rattle.std.proofs.Common.{◌≡◌, sym, subst}
use Rattle.std.specs.Prelude.{Result, Ok, Err, IfErr, IsErr}
use Rattle.std.specs.Result.{IsErrAnd}
use Rattle.co_durable.specs.declared.fault.WorldFault.{WorldFault}

-- a fault that is passed on
pub passed_on : {A : Type 0} (out : Result A WorldFault) (fault : WorldFault) (P : WorldFault → Type 0) → IsErr out × IsErrAnd out (λ e. e ≡ fault) → P fault → IfErr out P
passed_on (Ok a) fault P is p = tt
passed_on (Err e) fault P is p = subst P (sym is.1) p
