-- A call of a home answers as the call of its directory does.
use Rattle.std.proofs.Common.{◌≡◌, inl, inr, subst, false, Bool, List}
use Rattle.std.specs.Prelude.{ℕ, Result, Ok, Err, IfOk, OnErr, IsErr}
use Rattle.co_files.specs.declared.call.Work.{Work}
use Rattle.co_files.specs.declared.call.Call.{Call}
use Rattle.co_files.specs.Calls.{IsOneCall}
use Rattle.co_files.specs.Folder.{IsCallAt, IsCallOrNone}

one_answered : {T E F : Type 0} (work : T → Work) (failed : Work) (old new : List Call) (done : Result T E) (result : Result T F)
    → IfOk result (λ v. done ≡ Ok v) → OnErr result (IsErr done) → IsOneCall work failed old new done → IsOneCall work failed old new result
one_answered {T = T} {E = E} work failed old new (Ok value) (Ok given) same not_done call =
    let P : Result T E → Type 0 = λ r. IsOneCall work failed old new r in
    subst P same call
one_answered work failed old new (Ok value) (Err fault) same not_done call = absurd (cc)
one_answered work failed old new (Err error) (Ok given) same not_done call = absurd (cc)
one_answered work failed old new (Err error) (Err fault) same not_done call = call

pub answered : {T E F : Type 0} (path : List ℕ) (makes : Bool) (work : T → Work) (failed : Work) (old new : List Call) (done : Result T E) (result : Result T F)
    → IfOk result (λ v. done ≡ Ok v) → OnErr result (IsErr done) → IsCallAt path makes work failed old new done → IsCallAt path makes work failed old new result
answered path makes work failed old new done result same not_done (first, attended, call) = (first, attended, one_answered work failed first new done result same not_done call)

pub answered_or_none : {T E F : Type 0} (path : List ℕ) (work : T → Work) (failed : Work) (before after old new : List Call) (done : Result T E) (result : Result T F)
    → IfOk result (λ v. done ≡ Ok v) → OnErr result (IsErr done) → IsCallOrNone path work failed before after old new done → IsCallOrNone path work failed before after old new result
answered_or_none path work failed before after old new done result same not_done (inl call) = inl (answered path false work failed old new done result same not_done call)
answered_or_none path work failed before after old new (Ok value) (Ok given) same not_done (inr none) = inr none
answered_or_none path work failed before after old new done (Err fault) same not_done (inr (none, still, missed)) = inr (none, still, tt)
answered_or_none path work failed before after old new (Err error) (Ok given) same not_done (inr none) = absurd (cc)
