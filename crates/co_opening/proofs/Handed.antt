-- What follows from the answer of a call, and from the error that `?` hands on.
use Rattle.std.proofs.Common.{◌≡◌, sym, ap, subst, ◌∙◌}
use Rattle.std.proofs.lemmas.Bool.{false≢true}
use Rattle.std.specs.Prelude.{Result, Ok, Err, IfOk, IfErr, IsErr, IsErrOf}
use Rattle.std.specs.Result.{IsErrAnd}
use Rattle.co_outside.specs.declared.spot.Spot.{Spot}
use Rattle.co_durable.specs.declared.fault.WorldFault.{WorldFault}
use Rattle.co_durable.specs.declared.fault.WorldFault.TheVariants.{Device, Memory}
use Rattle.co_opening.specs.Opened.{IsOfFound}

same_fault : {S : Type 0} (fault at : WorldFault) → IsErrOf {T = S} (Err fault) at → fault ≡ at
same_fault fault at is = cc

pub handed : {T S : Type 0} (answer : Result T WorldFault) (fault at : WorldFault) → IsErrAnd answer (λ e. e ≡ fault) → IsErrOf {T = S} (Err fault) at → IsErrOf answer at
handed (Ok x) fault at p is = absurd p
handed {S = S} (Err e) fault at p is = ap Err (p ∙ same_fault {S = S} fault at is)

pub handed_back : {T S : Type 0} (answer : Result T WorldFault) (fault at : WorldFault) → IsErrAnd answer (λ e. e ≡ fault) → IsErrOf answer at → IsErrOf {T = S} (Err fault) at
handed_back (Ok x) fault at p is = absurd p
handed_back {T = T} (Err e) fault at p is = ap Err (sym p ∙ same_fault {S = T} e at is)

-- what holds of the error that is handed on
pub handed_in : {T : Type 0} (P : WorldFault → Type 0) (answer : Result T WorldFault) (fault : WorldFault) → IsErrAnd answer (λ e. e ≡ fault) → P fault → IfErr answer P
handed_in P (Ok x) fault same is = absurd same
handed_in P (Err e) fault same is = subst P (sym same) is

-- and so of the fault that the answer tells
pub handed_at : {T : Type 0} (P : WorldFault → Type 0) (answer : Result T WorldFault) (fault at : WorldFault) → IsErrAnd answer (λ e. e ≡ fault) → IsErrOf answer at → P fault → P at
handed_at P (Ok x) fault at same told is = absurd same
handed_at {T = T} P (Err e) fault at same told is = subst P (sym same ∙ same_fault {S = T} e at told) is

-- an error is no value
pub no_value : {T E : Type 0} (P : T → Type 0) (answer : Result T E) → IsErr answer → IfOk answer P
no_value P (Ok x) is = absurd (false≢true is)
no_value P (Err e) is = tt

-- a value is no error
pub not_err : {T E : Type 0} (x : T) (at : E) → IsErrOf (Ok x) at → ⊥
not_err x at is = absurd cc

-- the file at which the directory failed
pub same_device : {T : Type 0} (spot at : Spot) → IsErrOf {T = T} (Err (Device spot)) (Device at) → spot ≡ at
same_device spot at is = cc

-- what follows of any error
pub of_error : {T E : Type 0} (P Q : E → Type 0) (answer : Result T E) → ((e : E) → P e → Q e) → IfErr answer P → IfErr answer Q
of_error P Q (Ok x) f is = tt
of_error P Q (Err e) f is = f e is

-- no memory is no failure of the directory
pub no_device : {T : Type 0} (answer : Result T WorldFault) (spot : Spot) → IsErrAnd answer (λ e. e ≡ Memory) → IsErrOf answer (Device spot) → ⊥
no_device (Ok x) spot is at = absurd is
no_device {T = T} (Err e) spot is at = absurd (let same : Memory ≡ Device spot = sym is ∙ same_fault {S = T} e (Device spot) at in cc)

-- and neither is what the files are refused for
pub found_device : {T : Type 0} (fault : WorldFault) (spot : Spot) → IsOfFound fault → IsErrOf {T = T} (Err fault) (Device spot) → ⊥
found_device {T = T} fault spot found is = subst IsOfFound (same_fault {S = T} fault (Device spot) is) found
