-- Calls that fail where they are due, and what they answer.
use Rattle.std.proofs.Common.{◌≡◌, ◌∙◌, Result, Ok, Err, IsErrOf, IsErrAnd, ap, sym}
use Rattle.co_outside.specs.declared.spot.Spot.{Spot}
use Rattle.co_outside.specs.declared.home.HomeCall.{HomeCall}
use Rattle.co_outside.specs.declared.home.HomeFault.{HomeFault}
use Rattle.co_outside.specs.declared.home.HomeFault.TheVariants.{Failed, Memory}
use Rattle.co_outside.specs.Home.{HomeView, FailsAsDue}

-- a fault that is handed on
pub due_handed : {T U : Type 0} (spot : Spot) (call : HomeCall) (old new : HomeView) (r : Result T HomeFault) (s : Result U HomeFault) (e : HomeFault) → r ≡ Err e → IsErrAnd s (λ x. x ≡ e) → FailsAsDue spot call old new r → FailsAsDue spot call old new s
due_handed spot call old new r (Ok y) e was is due = absurd is
due_handed {U = U} spot call old new r (Err x) e was is due = λ calls told.
    let d = due calls told in
    let s : Result U HomeFault = Err x in
    let back = λ (h : IsErrOf s Failed). let it : x ≡ Failed = cc in was ∙ ap Err (sym is ∙ it) in
    let on = λ (h : IsErrOf r Failed). let it : e ≡ Failed = cc in let same : s ≡ Err Failed = ap Err (is ∙ it) in same in
    ((λ h. d.0.0 (back h), λ has. on (d.0.1 has)), d.1)

-- another answer of a call that was not due
pub due_other : {T U : Type 0} (spot : Spot) (call : HomeCall) (old new : HomeView) (r : Result T HomeFault) (s : Result U HomeFault) → (IsErrOf r Failed → ⊥) → (IsErrOf s Failed → ⊥) → FailsAsDue spot call old new r → FailsAsDue spot call old new s
due_other spot call old new r s not_r not_s due = λ calls told.
    let d = due calls told in
    ((λ h. absurd (not_s h), λ h. absurd (not_r (d.0.1 h))), d.1)

pub memory_no_fault : {U : Type 0} (s : Result U HomeFault) → IsErrAnd s (λ x. x ≡ Memory) → IsErrOf s Failed → ⊥
memory_no_fault (Ok y) is h = absurd is
memory_no_fault (Err x) is h = let e : Memory ≡ Failed = cc in cc

pub ok_no_fault : {T : Type 0} (r : Result T HomeFault) (x : T) → r ≡ Ok x → IsErrOf r Failed → ⊥
ok_no_fault r x is h = absurd (cc)
