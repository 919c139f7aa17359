-- How a command ends that follows a schedule and writes one text at its end.
use Rattle.std.proofs.Common.{◌≡◌, inl, inr, ℕ, List, Option, Some, Result, Ok, Err, refl, subst}
use Rattle.co_top.specs.Following.{IsOfSchedule, IsFollowedEnd, Written, CutOff, IsOfFollowed}
use Rattle.co_top.specs.Replayed.{status_of}
use Rattle.co_top.specs.Telling.{IsTextPut}
use Rattle.co_top.specs.declared.status.Status.{Status}
use Rattle.co_top.specs.declared.status.Status.TheVariants as status

pub written : (input held : List ℕ) (Has : List ℕ → Type 0) (text_of : (i : List ℕ) → Has i → List ℕ) (h : Has input) (before told : Option (List ℕ)) (result : Result (Unit {0}) Status) → before ≡ Some held → IsTextPut (text_of input h) before told result → IsFollowedEnd input Has text_of held told (status_of result)
written input held Has text_of h before told (Ok u) same put = Written h (put held same) refl
written input held Has text_of h before told (Err status.Write) same put = let p = put held same in CutOff h p.0 p.1 (inl refl)
written input held Has text_of h before told (Err status.Memory) same put = let p = put held same in CutOff h p.0 p.1 (inr refl)
written input held Has text_of h before told (Err status.Done) same put = absurd put
written input held Has text_of h before told (Err status.Usage) same put = absurd put
written input held Has text_of h before told (Err (status.Schedule line what)) same put = absurd put
written input held Has text_of h before told (Err status.Read) same put = absurd put
written input held Has text_of h before told (Err (status.Device spot)) same put = absurd put
written input held Has text_of h before told (Err (status.Differs spot at kept read)) same put = absurd put
written input held Has text_of h before told (Err (status.InUse spot)) same put = absurd put
written input held Has text_of h before told (Err (status.BadLog spot at)) same put = absurd put
written input held Has text_of h before told (Err (status.OldLog spot)) same put = absurd put
written input held Has text_of h before told (Err (status.NotSerial txn line)) same put = absurd put
written input held Has text_of h before told (Err (status.Transcript line)) same put = absurd put
written input held Has text_of h before told (Err (status.Limit what)) same put = absurd put

-- the status is one of such a command's
pub text_own : (text : List ℕ) (before told : Option (List ℕ)) (result : Result (Unit {0}) Status) → IsTextPut text before told result → IsOfFollowed (status_of result)
text_own text before told (Ok u) put = tt
text_own text before told (Err status.Write) put = tt
text_own text before told (Err status.Memory) put = tt
text_own text before told (Err status.Done) put = absurd put
text_own text before told (Err status.Usage) put = absurd put
text_own text before told (Err (status.Schedule line what)) put = absurd put
text_own text before told (Err status.Read) put = absurd put
text_own text before told (Err (status.Device spot)) put = absurd put
text_own text before told (Err (status.Differs spot at kept read)) put = absurd put
text_own text before told (Err (status.InUse spot)) put = absurd put
text_own text before told (Err (status.BadLog spot at)) put = absurd put
text_own text before told (Err (status.OldLog spot)) put = absurd put
text_own text before told (Err (status.NotSerial txn line)) put = absurd put
text_own text before told (Err (status.Transcript line)) put = absurd put
text_own text before told (Err (status.Limit what)) put = absurd put

pub schedule_own : (why : Status) → IsOfSchedule why → IsOfFollowed why
schedule_own status.Done own = absurd own
schedule_own status.Usage own = absurd own
schedule_own (status.Schedule line what) own = tt
schedule_own status.Read own = tt
schedule_own status.Write own = absurd own
schedule_own (status.Device spot) own = absurd own
schedule_own (status.Differs spot at kept read) own = absurd own
schedule_own (status.InUse spot) own = absurd own
schedule_own (status.BadLog spot at) own = absurd own
schedule_own (status.OldLog spot) own = absurd own
schedule_own (status.NotSerial txn line) own = absurd own
schedule_own (status.Transcript line) own = absurd own
schedule_own (status.Limit what) own = tt
schedule_own status.Memory own = tt

-- no schedule ends as the sink does, and no text as the source
pub schedule_not_write : (why : Status) → IsOfSchedule why → why ≡ status.Write → ⊥
schedule_not_write why own e = subst IsOfSchedule e own

pub text_not_read : (text : List ℕ) (before told : Option (List ℕ)) (result : Result (Unit {0}) Status) → IsTextPut text before told result → result ≡ Err status.Read → ⊥
text_not_read text before told result put e = let p = subst (IsTextPut text before told) e put in p
