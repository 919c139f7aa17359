-- How a log write leaves the home where its records were spelled out first, or could not be.
use Rattle.std.proofs.Common.{◌≡◌, ◌++◌, ◌∙◌, ℕ, List, refl, sym, subst, arith, inl, inr}
use Rattle.std.specs.Prelude.{Some, Result, Ok, Err}
use Rattle.co_base.specs.declared.mark.Mark.{Mark}
use Rattle.co_disk.proofs.Rests.{rest_here}
use Rattle.co_outside.specs.Home.{File, HomeView}
use Rattle.co_record.specs.declared.record.Record.{Record}
use Rattle.co_log.specs.Appending.{IsTooLong}
use Rattle.co_log.specs.Batches.{AreSpelledFor, IsBatchOf}
use Rattle.co_log.specs.Calls.{MayForce, HasForced, HasOldAlone, IsForceAnswer}
use Rattle.co_log.specs.Current.{IsOrdered, IsCurrentForced}
use Rattle.co_log.specs.LogFile.{EndsAt}
use Rattle.co_log.specs.LogView.{LogView}
use Rattle.co_log.specs.Others.{BothWithin}
use Rattle.co_log.specs.declared.batch.SpelledBatch.{SpelledBatch}
use Rattle.co_log.specs.declared.fault.LogFault.{LogFault}
use Rattle.co_log.specs.declared.fault.LogFault.TheVariants.{Device, Stopped, Bad, Differs, Full, InUse, Memory}
use Rattle.co_log.proofs.Ordered.{held_current}
use Rattle.co_log.proofs.Unmade.{read_stable}
use Rattle.co_log.proofs.Versions.{ends_newest}

-- a file is not too long with what was spelled out for it
pub fits : (log : LogView) (more : List Record) (batch : SpelledBatch) → IsBatchOf log more batch → IsTooLong log.gate (log.waiting ++ more) → ⊥
fits log more batch is long = omega (arith, is.batch.short, long)

-- what is so of a log write that is never too long, where the file is not
pub forced_fits : (long : Type 0) (log after : LogView) (more : List Record) (old new : HomeView) (r : Result (List Mark) LogFault) → (long → ⊥) → HasForced ⊥ log after more old new r → HasForced long log after more old new r
forced_fits long log after more old new r never did = record { answered = by r did.answered; told = did.told; current = did.current; short = did.short; rest = did.rest }
  where
    by : (r : Result (List Mark) LogFault) → IsForceAnswer ⊥ log after more old new r → IsForceAnswer long log after more old new r
    by (Ok marks) is = (is.0, is.1, never)
    by (Err (Device at)) is = (is.0, is.1, never)
    by (Err (Stopped call stable marks)) is = (is.0, is.1, never)
    by (Err (Bad at place)) is = is
    by (Err (Differs at place kept read)) is = is
    by (Err (Full at)) is = absurd is.1
    by (Err (InUse at)) is = is
    by (Err Memory) is = is

module _ (log : LogView) (more : List Record) (home : HomeView) (may : MayForce home log) where
  -- where nothing was written, the file has what it had
  old_alone : HasOldAlone log home
  old_alone items live f told =
      subst (λ (bytes : List ℕ). EndsAt bytes log.gate items) (sym (may.held.current.told f told ∙ read_stable log.current.state live.still)) (ends_newest log items may.newest live)

  unspelled_answer : (e : LogFault) → AreSpelledFor log more (Err e) → IsForceAnswer (IsTooLong log.gate (log.waiting ++ more)) log log more home home (Err e)
  unspelled_answer (Device at) is = absurd is
  unspelled_answer (Stopped call stable marks) is = absurd is
  unspelled_answer (Bad at place) is = absurd is
  unspelled_answer (Differs at place kept read) is = absurd is
  unspelled_answer (Full at) is = (is.0, is.1, refl)
  unspelled_answer (InUse at) is = absurd is
  unspelled_answer Memory is = (old_alone, refl)

  unspelled_current : (e : LogFault) → AreSpelledFor log more (Err e) → (items : List (ℕ × Record)) → IsOrdered log items → (c s : File) → home.file log.current.spot ≡ Some c → home.file log.spare.spot ≡ Some s
      → IsCurrentForced log items (log.waiting ++ more) c.bytes s.bytes (Err e)
  unspelled_current (Device at) is items o c s told_c told_s = absurd is
  unspelled_current (Stopped call stable marks) is items o c s told_c told_s = absurd is
  unspelled_current (Bad at place) is items o c s told_c told_s = absurd is
  unspelled_current (Differs at place kept read) is items o c s told_c told_s = absurd is
  unspelled_current (Full at) is items o c s told_c told_s = held_current home log items c s may.held o told_c told_s
  unspelled_current (InUse at) is items o c s told_c told_s = absurd is
  unspelled_current Memory is items o c s told_c told_s = held_current home log items c s may.held o told_c told_s

  -- records that were not spelled out leave the log and the home as they were
  pub unspelled_forced : (e : LogFault) → AreSpelledFor log more (Err e) → BothWithin home.file log → HasForced (IsTooLong log.gate (log.waiting ++ more)) log log more home home (Err e)
  unspelled_forced e is within = record {
    answered = unspelled_answer e is;
    told = λ items live f told. inr (inl (old_alone items live f told));
    current = unspelled_current e is;
    short = within;
    rest = rest_here log.current.spot home;
  }
