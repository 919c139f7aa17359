-- How a trial ends, by how the line of its summary was put.
use Rattle.std.proofs.Common.{◌≡◌, inr, ℕ, List, Option, Some, Result, Ok, Err, subst}
use Rattle.co_outside.specs.declared.spot.Spot.{Spot}
use Rattle.co_trial.specs.Trials.{IsTrial}
use Rattle.co_trial.specs.declared.summary.Summary.{Summary}
use Rattle.co_top.specs.Replayed.{status_of}
use Rattle.co_top.specs.Trials.{IsSummaryTold, IsOfTrial, IsTrialEnd}
use Rattle.co_top.specs.declared.status.Status.{Status}
use Rattle.co_top.specs.declared.status.Status.TheVariants as status

pub summary_ended : (number events : ℕ) (summary : Summary) (held : List ℕ) (before told : Option (List ℕ)) (result : Result (Unit {0}) Status) → IsTrial number events summary → before ≡ Some held → IsSummaryTold summary before told result →
    IsTrialEnd number events held told (status_of result)
summary_ended number events summary held before told (Ok u) is same put = (summary, is, put held same)
summary_ended number events summary held before told (Err status.Write) is same put = let p = put held same in (summary, is, p.0, p.1)
summary_ended number events summary held before told (Err status.Memory) is same put = let p = put held same in inr (summary, is, p.0, p.1)
summary_ended number events summary held before told (Err status.Done) is same put = absurd put
summary_ended number events summary held before told (Err status.Usage) is same put = absurd put
summary_ended number events summary held before told (Err (status.Schedule line what)) is same put = absurd put
summary_ended number events summary held before told (Err status.Read) is same put = absurd put
summary_ended number events summary held before told (Err (status.Device spot)) is same put = absurd put
summary_ended number events summary held before told (Err (status.Differs spot at kept read)) is same put = absurd put
summary_ended number events summary held before told (Err (status.InUse spot)) is same put = absurd put
summary_ended number events summary held before told (Err (status.BadLog spot at)) is same put = absurd put
summary_ended number events summary held before told (Err (status.OldLog spot)) is same put = absurd put
summary_ended number events summary held before told (Err (status.NotSerial txn line)) is same put = absurd put
summary_ended number events summary held before told (Err (status.Transcript line)) is same put = absurd put
summary_ended number events summary held before told (Err (status.Limit what)) is same put = absurd put

-- the status is one of a trial
pub summary_own : (summary : Summary) (before told : Option (List ℕ)) (result : Result (Unit {0}) Status) → IsSummaryTold summary before told result → IsOfTrial (status_of result)
summary_own summary before told (Ok u) put = tt
summary_own summary before told (Err status.Write) put = tt
summary_own summary before told (Err status.Memory) put = tt
summary_own summary before told (Err status.Done) put = tt
summary_own summary before told (Err status.Usage) put = absurd put
summary_own summary before told (Err (status.Schedule line what)) put = absurd put
summary_own summary before told (Err status.Read) put = absurd put
summary_own summary before told (Err (status.Device spot)) put = absurd put
summary_own summary before told (Err (status.Differs spot at kept read)) put = absurd put
summary_own summary before told (Err (status.InUse spot)) put = absurd put
summary_own summary before told (Err (status.BadLog spot at)) put = absurd put
summary_own summary before told (Err (status.OldLog spot)) put = absurd put
summary_own summary before told (Err (status.NotSerial txn line)) put = absurd put
summary_own summary before told (Err (status.Transcript line)) put = absurd put
summary_own summary before told (Err (status.Limit what)) put = absurd put

-- so it is none of these
pub not_usage : (s : Status) → IsOfTrial s → s ≡ status.Usage → ⊥
not_usage s own is = subst IsOfTrial is own

pub not_read : (s : Status) → IsOfTrial s → s ≡ status.Read → ⊥
not_read s own is = subst IsOfTrial is own

pub not_device : (s : Status) (spot : Spot) → IsOfTrial s → s ≡ status.Device spot → ⊥
not_device s spot own is = subst IsOfTrial is own

-- the status is that of the sink where that failed
pub write_of : (result : Result (Unit {0}) Status) → status_of result ≡ status.Write → result ≡ Err status.Write
write_of (Ok u) e = absurd (let z : status.Done ≡ status.Write = e in cc)
write_of (Err why) e = let z : why ≡ status.Write = e in cc
