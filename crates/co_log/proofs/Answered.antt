-- The answers of log calls by their cases, from what is so of each, and back.
use Rattle.std.proofs.Common.{◌≡◌, ◌⊎◌, ℕ, Bool, false, List, refl, ap, subst, inl, inr, Result, Ok, Err, IfOk, IfErr, OnOk, IsErrOf}
use Rattle.co_base.specs.Limits.{most_log_bytes}
use Rattle.co_base.specs.declared.mark.Mark.{Mark}
use Rattle.co_base.specs.declared.mark.MarkKind.TheVariants as kind
use Rattle.co_base.specs.declared.node.Node.{Node}
use Rattle.co_outside.specs.Home.{HomeView, IsClean, HasFailed}
use Rattle.co_outside.specs.declared.spot.Spot.{Spot}
use Rattle.co_disk.specs.DiskView.{DiskView}
use Rattle.co_record.specs.declared.record.Record.{Record}
use Rattle.co_log.specs.Attaching.{IsAttached, IsWithin, IsToldAs, IsOfAttach}
use Rattle.co_log.specs.Calls.{IsWriteAnswer, IsForcedWith, HasOldAlone, HasNoBatch, IsForceAnswer, IsCloseAnswer, IsFillAnswer, IsMakeAnswer, HasFailedAs, IsAttachedOver, IsAttachAnswer, IsReattachAnswer}
use Rattle.co_log.specs.Forcing.{IsDone, IsOfForce}
use Rattle.co_log.specs.Fresh.{IsFresh, IsMade, IsOfDevice}
use Rattle.co_log.specs.LogView.{LogView, IsHeld, spot_of}
use Rattle.co_log.specs.Rereading.{IsOfReattach, AreReread}
use Rattle.co_log.specs.Spare.{IsClosing, IsOfClosing, IsFilling, IsOverfull}
use Rattle.co_log.specs.declared.fault.LogFault.{LogFault}
use Rattle.co_log.specs.declared.fault.LogFault.TheVariants.{Device, Stopped, Bad, Differs, Full, InUse, Memory}

-- What is so of the home and of the answer of a log write, one by one.
pub record HasWriteParts {A : Type 0} (spot : Spot) (long : Type 0) (after : LogView) (old new : HomeView) (result : Result A LogFault) : Type 0 where
  pub held : IsDone result → IsHeld new after
  pub clean : IsDone result → IsClean new spot
  pub full : IsErrOf result (Full spot) → long
  pub refused : long → IsErrOf result (Full spot) ⊎ IsErrOf result Memory
  pub faults : IfErr result (IsOfForce spot)
  pub device : IsErrOf result (Device spot) → HasFailed spot old new
  pub quiet : (IsErrOf result (Device spot) → ⊥) → new.faults ≡ old.faults

module _ {A : Type 0} (spot : Spot) (did : Result A LogFault → Type 0) (long kept : Type 0) (after : LogView) (old new : HomeView) where
  ended_of : (r : Result A LogFault) → IsWriteAnswer spot did long kept after old new r → IsDone r → did r
  ended_of (Ok it) is done = is.0
  ended_of (Err (Device at)) is done = absurd done
  ended_of (Err (Stopped call stable marks)) is done = is.0
  ended_of (Err (Bad at place)) is done = absurd done
  ended_of (Err (Differs at place kept_byte read)) is done = absurd done
  ended_of (Err (Full at)) is done = absurd done
  ended_of (Err (InUse at)) is done = absurd done
  ended_of (Err Memory) is done = absurd done

  parts_of : (r : Result A LogFault) → IsWriteAnswer spot did long kept after old new r → HasWriteParts spot long after old new r
  parts_of (Ok it) is =
      record { held = λ _. is.1.held; clean = λ _. is.1.clean; full = λ no. cc; refused = λ too. absurd (is.2 too); faults = tt; device = λ no. cc; quiet = λ _. is.1.quiet }
  parts_of (Err (Device at)) is =
      record {
        held = λ no. absurd no;
        clean = λ no. absurd no;
        full = λ no. cc;
        refused = λ too. absurd (is.2 too);
        faults = is.0;
        device = λ _. is.1;
        quiet = λ silent. absurd (silent (ap (λ (s : Spot). Err (Device s)) is.0));
      }
  parts_of (Err (Stopped call stable marks)) is =
      record { held = λ _. is.1.held; clean = λ _. is.1.clean; full = λ no. cc; refused = λ too. absurd (is.2 too); faults = tt; device = λ no. cc; quiet = λ _. is.1.quiet }
  parts_of (Err (Bad at place)) is = absurd is
  parts_of (Err (Differs at place kept_byte read)) is = absurd is
  parts_of (Err (Full at)) is =
      record { held = λ no. absurd no; clean = λ no. absurd no; full = λ _. is.1; refused = λ _. inl (ap (λ (s : Spot). Err (Full s)) is.0); faults = is.0; device = λ no. cc; quiet = λ _. is.2 }
  parts_of (Err (InUse at)) is = absurd is
  parts_of (Err Memory) is = record { held = λ no. absurd no; clean = λ no. absurd no; full = λ no. cc; refused = λ _. inr refl; faults = tt; device = λ no. cc; quiet = λ _. is.1 }

  -- and back
  pub answer_of : (r : Result A LogFault) → (IsDone r → did r) → (IsErrOf r Memory → kept) → HasWriteParts spot long after old new r → IsWriteAnswer spot did long kept after old new r
  answer_of (Ok it) ended wanting p =
      (ended tt, record { held = p.held tt; clean = p.clean tt; quiet = p.quiet (λ no. cc) }, λ too. elim (p.refused too) [ inl w ↦ cc | inr w ↦ cc ])
  answer_of (Err (Device at)) ended wanting p =
      (p.faults, p.device (ap (λ (s : Spot). Err (Device s)) p.faults), λ too. elim (p.refused too) [ inl w ↦ cc | inr w ↦ cc ])
  answer_of (Err (Stopped call stable marks)) ended wanting p =
      (ended tt, record { held = p.held tt; clean = p.clean tt; quiet = p.quiet (λ no. cc) }, λ too. elim (p.refused too) [ inl w ↦ cc | inr w ↦ cc ])
  answer_of (Err (Bad at place)) ended wanting p = p.faults
  answer_of (Err (Differs at place kept_byte read)) ended wanting p = p.faults
  answer_of (Err (Full at)) ended wanting p = (p.faults, p.full (ap (λ (s : Spot). Err (Full s)) p.faults), p.quiet (λ no. cc))
  answer_of (Err (InUse at)) ended wanting p = p.faults
  answer_of (Err Memory) ended wanting p = (wanting refl, p.quiet (λ no. cc))

module _ (log after : LogView) (old new : HomeView) where
  pub force_parts : (long : Type 0) (more : List Record) (r : Result (List Mark) LogFault) → IsForceAnswer long log after more old new r → HasWriteParts log.current.spot long after old new r
  force_parts long more = parts_of log.current.spot (IsForcedWith log after more) long (HasOldAlone log new) after old new

  pub close_parts : (r : Result (Unit {0}) LogFault) → IsCloseAnswer log after old new r → HasWriteParts log.spare.spot ⊥ after old new r
  close_parts = parts_of log.spare.spot (IsClosing log after) ⊥ (Unit {0}) after old new

  pub fill_parts : (more : List Record) (r : Result Mark LogFault) → IsFillAnswer log after more old new r → HasWriteParts log.spare.spot (IsOverfull log more) after old new r
  fill_parts more = parts_of log.spare.spot (IsFilling log more after) (IsOverfull log more) (HasNoBatch log new) after old new

  pub forced_of : (long : Type 0) (more : List Record) (r : Result (List Mark) LogFault) → IsForceAnswer long log after more old new r → IsDone r → IsForcedWith log after more r
  forced_of long more = ended_of log.current.spot (IsForcedWith log after more) long (HasOldAlone log new) after old new

  pub closing_of : (r : Result (Unit {0}) LogFault) → IsCloseAnswer log after old new r → IsDone r → IsClosing log after r
  closing_of = ended_of log.spare.spot (IsClosing log after) ⊥ (Unit {0}) after old new

  pub filling_of : (more : List Record) (r : Result Mark LogFault) → IsFillAnswer log after more old new r → IsDone r → IsFilling log more after r
  filling_of more = ended_of log.spare.spot (IsFilling log more after) (IsOverfull log more) (HasNoBatch log new) after old new

-- the faults of a closing are those of a log write, but that none is too long
pub closing_faults : (spot : Spot) (r : Result (Unit {0}) LogFault) → IfErr r (IsOfClosing spot) → IfErr r (IsOfForce spot)
closing_faults spot (Ok it) may = tt
closing_faults spot (Err (Device at)) may = may
closing_faults spot (Err (Stopped call stable marks)) may = tt
closing_faults spot (Err (Bad at place)) may = may
closing_faults spot (Err (Differs at place kept read)) may = may
closing_faults spot (Err (Full at)) may = absurd may
closing_faults spot (Err (InUse at)) may = may
closing_faults spot (Err Memory) may = tt

pub closing_fits : (spot : Spot) (r : Result (Unit {0}) LogFault) → IfErr r (IsOfClosing spot) → IsErrOf r (Full spot) → ⊥
closing_fits spot r may is = subst (λ (x : Result (Unit {0}) LogFault). IfErr x (IsOfClosing spot)) is may

pub make_answered : (log after : LogView) (old new : HomeView) (r : Result Mark LogFault) → OnOk r (IsMade log after) → IfOk r (λ m. m ≡ record { node = log.node; kind = kind.Header; number = 1 }) → OnOk r (IsHeld new after) → OnOk r (IsClean new log.current.spot)
    → IfErr r (IsOfDevice log.current.spot) → (IsErrOf r (Device log.current.spot) → HasFailed log.current.spot old new) → ((IsErrOf r (Device log.current.spot) → ⊥) → new.faults ≡ old.faults) → IsMakeAnswer log after old new r
make_answered log after old new (Ok mark) made is held clean of failed quiet = (made, is, record { held = held; clean = clean; quiet = quiet (λ no. cc) })
make_answered log after old new (Err (Device at)) made is held clean of failed quiet = (of, failed (ap (λ (s : Spot). Err (Device s)) of))
make_answered log after old new (Err (Stopped call stable marks)) made is held clean of failed quiet = of
make_answered log after old new (Err (Bad at place)) made is held clean of failed quiet = of
make_answered log after old new (Err (Differs at place kept read)) made is held clean of failed quiet = of
make_answered log after old new (Err (Full at)) made is held clean of failed quiet = of
make_answered log after old new (Err (InUse at)) made is held clean of failed quiet = of
make_answered log after old new (Err Memory) made is held clean of failed quiet = quiet (λ no. cc)

-- how the count of faults stands with each fault
failed_as : {A : Type 0} (old new : HomeView) (e : LogFault) → ((spot : Spot) → IsErrOf {T = A} (Err e) (Device spot) → HasFailed spot old new) → (((spot : Spot) → IsErrOf {T = A} (Err e) (Device spot) → ⊥) → new.faults ≡ old.faults) → HasFailedAs e old new
failed_as old new (Device spot) failed quiet = failed spot refl
failed_as old new (Stopped call stable marks) failed quiet = quiet (λ spot no. cc)
failed_as old new (Bad spot at) failed quiet = quiet (λ spot no. cc)
failed_as old new (Differs spot at kept read) failed quiet = quiet (λ spot no. cc)
failed_as old new (Full spot) failed quiet = quiet (λ spot no. cc)
failed_as old new (InUse spot) failed quiet = quiet (λ spot no. cc)
failed_as old new Memory failed quiet = quiet (λ spot no. cc)

pub attached_if : (node : Node) (resume : Bool) (old new : HomeView) (r : Result LogView LogFault)
    → IfOk r (λ log. (a : DiskView) × (b : DiskView) × IsToldAs (spot_of node 0) (old.file (spot_of node 0)) a × IsToldAs (spot_of node 1) (old.file (spot_of node 1)) b × IsAttached node a b log)
    → (resume ≡ false → OnOk r (IsWithin 1 (old.file (spot_of node 0)) × IsWithin 1 (old.file (spot_of node 1)))) → (resume ≡ false → IfOk r IsFresh)
    → OnOk r (IsWithin most_log_bytes (old.file (spot_of node 0)) × IsWithin most_log_bytes (old.file (spot_of node 1))) → IfOk r (IsHeld new) → IfOk r (IsAttachedOver node resume old new)
attached_if node resume old new (Ok log) attached unused fresh short held = record { attached = attached; unused = unused; fresh = fresh; short = short; held = held }
attached_if node resume old new (Err e) attached unused fresh short held = tt

pub attach_answered : (node : Node) (resume : Bool) (old new : HomeView) (r : Result LogView LogFault) → IfOk r (IsAttachedOver node resume old new) → IfErr r (IsOfAttach node resume (old.file (spot_of node 0)) (old.file (spot_of node 1)))
    → ((spot : Spot) → IsErrOf r (Device spot) → HasFailed spot old new) → (((spot : Spot) → IsErrOf r (Device spot) → ⊥) → new.faults ≡ old.faults) → IsAttachAnswer node resume old new r
attach_answered node resume old new (Ok log) over of failed quiet = (over, quiet (λ spot no. cc))
attach_answered node resume old new (Err e) over of failed quiet = (of, failed_as {A = LogView} old new e failed quiet)

pub reattach_answered : {H : Type 0} (gives : H → Spot → ℕ → List ℕ → Type 0) (seen : H → HomeView) (log : LogView) (old new : H) (r : Result (Unit {0}) LogFault) → OnOk r (AreReread gives seen log old new) → IfErr r (IsOfReattach gives seen log old)
    → ((spot : Spot) → IsErrOf r (Device spot) → HasFailed spot (seen old) (seen new)) → (((spot : Spot) → IsErrOf r (Device spot) → ⊥) → (seen new).faults ≡ (seen old).faults) → IsReattachAnswer gives seen log old new r
reattach_answered gives seen log old new (Ok it) same of failed quiet = (same, quiet (λ spot no. cc))
reattach_answered gives seen log old new (Err e) same of failed quiet = (of, failed_as {A = Unit {0}} (seen old) (seen new) e failed quiet)

-- the home failed where the device did, and not else
pub as_failed : (old new : HomeView) (e : LogFault) (spot : Spot) → HasFailedAs e old new → e ≡ Device spot → HasFailed spot old new
as_failed old new e spot is same = subst (λ (f : LogFault). HasFailedAs f old new) same is

pub as_quiet : (old new : HomeView) (e : LogFault) → HasFailedAs e old new → ((spot : Spot) → e ≡ Device spot → ⊥) → new.faults ≡ old.faults
as_quiet old new (Device spot) is silent = absurd (silent spot refl)
as_quiet old new (Stopped call stable marks) is silent = is
as_quiet old new (Bad spot at) is silent = is
as_quiet old new (Differs spot at kept read) is silent = is
as_quiet old new (Full spot) is silent = is
as_quiet old new (InUse spot) is silent = is
as_quiet old new Memory is silent = is

-- What an attach says of its answer, one by one.
pub record HasAttachParts (node : Node) (resume : Bool) (old new : HomeView) (result : Result LogView LogFault) : Type 0 where
  pub attached : IfOk result (λ log. (a : DiskView) × (b : DiskView) × IsToldAs (spot_of node 0) (old.file (spot_of node 0)) a × IsToldAs (spot_of node 1) (old.file (spot_of node 1)) b × IsAttached node a b log)
  pub unused : resume ≡ false → OnOk result (IsWithin 1 (old.file (spot_of node 0)) × IsWithin 1 (old.file (spot_of node 1)))
  pub fresh : resume ≡ false → IfOk result IsFresh
  pub short : OnOk result (IsWithin most_log_bytes (old.file (spot_of node 0)) × IsWithin most_log_bytes (old.file (spot_of node 1)))
  pub held : IfOk result (IsHeld new)
  pub faults : IfErr result (IsOfAttach node resume (old.file (spot_of node 0)) (old.file (spot_of node 1)))
  pub device : (spot : Spot) → IsErrOf result (Device spot) → HasFailed spot old new
  pub quiet : ((spot : Spot) → IsErrOf result (Device spot) → ⊥) → new.faults ≡ old.faults

pub attach_parts : (node : Node) (resume : Bool) (old new : HomeView) (r : Result LogView LogFault) → IsAttachAnswer node resume old new r → HasAttachParts node resume old new r
attach_parts node resume old new (Ok log) is =
    record { attached = is.0.attached; unused = is.0.unused; fresh = is.0.fresh; short = is.0.short; held = is.0.held; faults = tt; device = λ spot no. cc; quiet = λ _. is.1 }
attach_parts node resume old new (Err e) is =
    record { attached = tt; unused = λ _. tt; fresh = λ _. tt; short = tt; held = tt; faults = is.0; device = λ spot no. as_failed old new e spot is.1 cc; quiet = λ silent. as_quiet old new e is.1 (λ spot same. silent spot (ap Err same)) }
