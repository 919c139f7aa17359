-- How a log write leaves the directory.
use Rattle.std.proofs.Common.{◌≡◌, ◌⊎◌, ℕ, true, List, refl, sym, ap, subst, ◌∙◌, inl, inr}
use Rattle.std.specs.Prelude.{Option, Some, Result, Ok, Err, IsErr, IsErrOf}
use Rattle.std.specs.Result.{IsErrAnd}
use Rattle.co_base.specs.declared.node.Node.{Node}
use Rattle.co_outside.specs.declared.spot.Spot.{Spot}
use Rattle.co_outside.specs.Home.{File, IsClean, RestStays, HomeView}
use Rattle.co_base.specs.Limits.{most_log_bytes}
use Rattle.co_record.specs.declared.record.Record.{Record}
use Rattle.co_log.specs.Attaching.{IsWithin}
use Rattle.co_log.specs.Current.{IsCurrentOf, IsOldCurrent, IsNewCurrent, IsCurrentForced, IsCurrentAfter}
use Rattle.co_log.specs.LogFile.{next_items}
use Rattle.co_base.specs.declared.mark.Mark.{Mark}
use Rattle.co_log.specs.Forcing.{IsDone}
use Rattle.co_log.specs.LogView.{LogView, HasSpots, spot_of}
use Rattle.co_log.specs.NodeFiles.{Items, HasRecordsIn}
use Rattle.co_log.specs.Others.{BothWithin}
use Rattle.co_log.specs.declared.fault.LogFault.{LogFault}
use Rattle.co_log.specs.declared.fault.LogFault.TheVariants.{Device, Stopped, Bad, Differs, Full, InUse, Memory}
use Rattle.co_log.specs.declared.fault.NodeFault.{NodeFault}
use Rattle.co_log.specs.declared.fault.NodeFault.TheVariants as node
use Rattle.co_log.proofs.Answered.{HasWriteParts}
use Rattle.co_log.proofs.Spots.{at_each, at_parts, spots_apart}
use Rattle.co_node.specs.Answers.{AreTold, AreWithin, LeftAs, IsServed, IsAnswered}
use Rattle.co_node.specs.Ended.{IsPassedOn}
use Rattle.co_node.specs.Sizes.{IsOverlong}
use Rattle.co_node.specs.declared.written.Written.{Written}

same_file : {a b : File} {o : Option File} → o ≡ Some a → o ≡ Some b → b.bytes ≡ a.bytes
same_file one two = ap (λ (f : File). f.bytes) (let h : _ ≡ _ = injected (sym two ∙ one) in h)
  where
    injected : {a b : File} → Some a ≡ Some b → a ≡ b
    injected e = cc

-- two files of a node are its parts in some order
abbrev pub ArePartsOf : Node → Spot → Spot → Type 0
ArePartsOf node x y = ((x ≡ spot_of node 0) × (y ≡ spot_of node 1)) ⊎ ((x ≡ spot_of node 1) × (y ≡ spot_of node 0))

flipped : (node : Node) (x y : Spot) → ArePartsOf node x y → ArePartsOf node y x
flipped node x y (inl own) = inr (own.1, own.0)
flipped node x y (inr own) = inl (own.1, own.0)

-- a node of whose told files the one is current has its records
pub current_records : (file : Spot → Option File) (node : Node) (x y : Spot) (c s : File) (version generation : ℕ) (items : Items) → ArePartsOf node x y → IsWithin most_log_bytes (file x) → IsWithin most_log_bytes (file y)
    → file x ≡ Some c → file y ≡ Some s → IsCurrentOf node version generation c.bytes s.bytes items → HasRecordsIn file node items
current_records file node x y c s version generation items parts within_x within_y is_c is_s current = elim parts [
  | inl own ↦ (
    0,
    record {
      a = c.bytes;
      b = s.bytes;
      told_a = λ f is. same_file (ap file (sym own.0) ∙ is_c) is;
      told_b = λ f is. same_file (ap file (sym own.1) ∙ is_s) is;
      within_a = subst (λ (t : Spot). IsWithin most_log_bytes (file t)) own.0 within_x;
      within_b = subst (λ (t : Spot). IsWithin most_log_bytes (file t)) own.1 within_y;
      current = inr (inl (refl, (version, generation, current)));
    },
  )
  | inr own ↦ (
    1,
    record {
      a = s.bytes;
      b = c.bytes;
      told_a = λ f is. same_file (ap file (sym own.1) ∙ is_s) is;
      told_b = λ f is. same_file (ap file (sym own.0) ∙ is_c) is;
      within_a = subst (λ (t : Spot). IsWithin most_log_bytes (file t)) own.1 within_y;
      within_b = subst (λ (t : Spot). IsWithin most_log_bytes (file t)) own.0 within_x;
      current = inr (inr (refl, (version, generation, current)));
    },
  )
]

-- the told files of a log
pub record AreToldOf (file : Spot → Option File) (log : LogView) : Type 0 where
  pub current : File
  pub spare : File
  pub is_current : file log.current.spot ≡ Some current
  pub is_spare : file log.spare.spot ≡ Some spare

pub told_of : (file : Spot → Option File) (log : LogView) → HasSpots log → AreTold file log.node → AreToldOf file log
told_of file log (inl own) told = record { current = told.a; spare = told.b; is_current = ap file own.0 ∙ told.is_a; is_spare = ap file own.1 ∙ told.is_b }
told_of file log (inr own) told = record { current = told.b; spare = told.a; is_current = ap file own.0 ∙ told.is_b; is_spare = ap file own.1 ∙ told.is_a }

-- the old file of the log is current with these records
pub old_records : (file : Spot → Option File) (log : LogView) (version generation : ℕ) (items : Items) → HasSpots log → BothWithin file log → (told : AreToldOf file log) → IsCurrentOf log.node version generation told.current.bytes told.spare.bytes items → HasRecordsIn file log.node items
old_records file log version generation items spots within told current =
    current_records file log.node log.current.spot log.spare.spot told.current told.spare version generation items spots within.0 within.1 told.is_current told.is_spare current

-- and the spare is
pub new_records : (file : Spot → Option File) (log : LogView) (version generation : ℕ) (items : Items) → HasSpots log → BothWithin file log → (told : AreToldOf file log) → IsCurrentOf log.node version generation told.spare.bytes told.current.bytes items → HasRecordsIn file log.node items
new_records file log version generation items spots within told current =
    current_records file log.node log.spare.spot log.current.spot told.spare told.current version generation items (flipped log.node log.current.spot log.spare.spot spots) within.1 within.0 told.is_spare told.is_current current

-- both files of a log, by the parts of its node
pub both_within : (file : Spot → Option File) (log : LogView) → HasSpots log → AreWithin file log.node → BothWithin file log
both_within file log spots within = at_each (λ s. IsWithin most_log_bytes (file s)) log spots within.a within.b

pub node_within : (file : Spot → Option File) (log : LogView) → HasSpots log → BothWithin file log → AreWithin file log.node
node_within file log spots both = let parts = at_parts (λ s. IsWithin most_log_bytes (file s)) log spots both.0 both.1 in record { a = parts.0; b = parts.1 }

-- which records the current file has where the directory failed, or there was no memory
pub forced_left : (log : LogView) (items : Items) (more : List Record) (c s : List ℕ) (fault : LogFault) (at : Spot) → IsErrOf {T = List Mark} (Err fault) (Device at) → IsCurrentForced log items more c s (Err fault)
    → IsOldCurrent log items c s ⊎ IsOldCurrent log (next_items true log.gate items more) c s
forced_left log items more c s fault at is current = subst (λ (r : Result (List Mark) LogFault). IsCurrentForced log items more c s r) is current

pub forced_wants : (log : LogView) (items : Items) (more : List Record) (c s : List ℕ) (fault : LogFault) → IsErrOf {T = List Mark} (Err fault) Memory → IsCurrentForced log items more c s (Err fault) → IsOldCurrent log items c s
forced_wants log items more c s fault is current = subst (λ (r : Result (List Mark) LogFault). IsCurrentForced log items more c s r) is current

pub filled_left : (log : LogView) (items : Items) (more : List Record) (c s : List ℕ) (fault : LogFault) (at : Spot) → IsErrOf {T = Mark} (Err fault) (Device at) → IsCurrentAfter log items more c s (Err fault)
    → IsOldCurrent log items c s ⊎ IsNewCurrent log more c s
filled_left log items more c s fault at is current = subst (λ (r : Result Mark LogFault). IsCurrentAfter log items more c s r) is current

pub filled_wants : (log : LogView) (items : Items) (more : List Record) (c s : List ℕ) (fault : LogFault) → IsErrOf {T = Mark} (Err fault) Memory → IsCurrentAfter log items more c s (Err fault) → IsOldCurrent log items c s
filled_wants log items more c s fault is current = subst (λ (r : Result Mark LogFault). IsCurrentAfter log items more c s r) is current

-- a file that stays is clean as it was
pub still_clean : (old new : HomeView) (s : Spot) → new.file s ≡ old.file s → IsClean old s → IsClean new s
still_clean old new s same was = λ f told. was f (sym same ∙ told)

-- What is known of a log write at one file of a node when it has ended, by its answer.
pub record Wrote {T : Type 0} (log after : LogView) (at : Spot) (long : Type 0) (this that : List Record) (old new : HomeView) (result : Result T LogFault) : Type 0 where
  pub spots : HasSpots log
  pub its : (at ≡ log.current.spot) ⊎ (at ≡ log.spare.spot)
  pub parts : HasWriteParts at long after old new result
  pub overlong : long → IsOverlong that
  pub untouched : long → new ≡ old
  pub broken : IsErrOf result (Device at) → LeftAs new.file log.node this that
  pub wanting : IsErrOf result Memory → LeftAs new.file log.node this this
  pub short : BothWithin new.file log
  pub rest : RestStays at old new

module _ (log after : LogView) (at : Spot) (long : Type 0) (this that : List Record) (old new : HomeView) where
  -- the files of the node are the one that was written and one that stays
  clean_kept : (s : Spot) → (s ≡ log.current.spot) ⊎ (s ≡ log.spare.spot) → HasSpots log → (at ≡ log.current.spot) ⊎ (at ≡ log.spare.spot) → IsClean new at → RestStays at old new → IsClean old s → IsClean new s
  clean_kept s (inl here) spots (inl is) clean rest was = subst (λ (t : Spot). IsClean new t) (is ∙ sym here) clean
  clean_kept s (inr here) spots (inr is) clean rest was = subst (λ (t : Spot). IsClean new t) (is ∙ sym here) clean
  clean_kept s (inl here) spots (inr is) clean rest was = still_clean old new s (rest.others.files s (λ e. spots_apart log spots (sym here ∙ e ∙ is))) was
  clean_kept s (inr here) spots (inl is) clean rest was = still_clean old new s (rest.others.files s (λ e. spots_apart log spots (sym is ∙ sym e ∙ here))) was

  place_a : HasSpots log → (spot_of log.node 0 ≡ log.current.spot) ⊎ (spot_of log.node 0 ≡ log.spare.spot)
  place_a (inl own) = inl (sym own.0)
  place_a (inr own) = inr (sym own.1)

  place_b : HasSpots log → (spot_of log.node 1 ≡ log.current.spot) ⊎ (spot_of log.node 1 ≡ log.spare.spot)
  place_b (inl own) = inr (sym own.1)
  place_b (inr own) = inl (sym own.0)

  served : {T : Type 0} (result : Result T LogFault) → Wrote log after at long this that old new result → IsDone result → (IsErrOf result (Device at) → ⊥) → IsServed log.node after old new
  served result w done silent = record {
    held = w.parts.held done;
    clean_a = clean_kept (spot_of log.node 0) (place_a w.spots) w.spots w.its (w.parts.clean done) w.rest;
    clean_b = clean_kept (spot_of log.node 1) (place_b w.spots) w.spots w.its (w.parts.clean done) w.rest;
    within = node_within new.file log w.spots w.short;
    quiet = w.parts.quiet silent;
  }

  pub fault_answered : (T : Type 0) (e : LogFault) (out : Result Written NodeFault) → Wrote {T = T} log after at long this that old new (Err e) → IsPassedOn e out → IsAnswered log.node at long this that after old new out
  fault_answered T (Stopped call stable marks) out w is =
      subst (IsAnswered log.node at long this that after old new) (sym is) (λ l. none (w.parts.refused l), served (Err (Stopped call stable marks)) w tt (λ e. absurd cc))
    where
      none : (IsErrOf {T = T} (Err (Stopped call stable marks)) (Full at)) ⊎ (IsErrOf {T = T} (Err (Stopped call stable marks)) Memory) → ⊥
      none (inl e) = absurd cc
      none (inr e) = absurd cc
  fault_answered T (Device spot) out w is =
      let of = w.parts.faults in
      let it : IsErrOf {T = T} (Err (Device spot)) (Device at) = ap (λ (s : Spot). Err (Device s)) of in
      let failed = w.parts.device it in
      subst (IsAnswered log.node at long this that after old new) (sym is)
      (λ l. none (w.parts.refused l), record { spot = of; count = failed.count; last = failed.named ∙ sym of; left = w.broken it })
    where
      none : (IsErrOf {T = T} (Err (Device spot)) (Full at)) ⊎ (IsErrOf {T = T} (Err (Device spot)) Memory) → ⊥
      none (inl e) = absurd cc
      none (inr e) = absurd cc
  fault_answered T (Full spot) out w is =
      let of = w.parts.faults in
      let l = w.parts.full (ap (λ (s : Spot). Err (Full s)) of) in
      subst (IsAnswered log.node at long this that after old new) (sym is) (record { spot = of; long = l; overlong = w.overlong l; untouched = w.untouched l })
  fault_answered T Memory out w is =
      subst (IsAnswered log.node at long this that after old new) (sym is) (record { left = w.wanting refl; quiet = w.parts.quiet (λ e. absurd cc) })
  fault_answered T (Bad spot place) out w is = absurd w.parts.faults
  fault_answered T (Differs spot place kept read) out w is = absurd w.parts.faults
  fault_answered T (InUse spot) out w is = absurd w.parts.faults

-- want of memory before anything was written
pub memory_answered : (owner : Node) (at : Spot) (long : Type 0) (this that : List Record) (log : LogView) (home : HomeView) (out : Result Written NodeFault) → IsErr out × IsErrAnd out (λ e. e ≡ node.Memory) → LeftAs home.file owner this this
    → IsAnswered owner at long this that log home home out
memory_answered owner at long this that log home (Ok x) is left = absurd is.1
memory_answered owner at long this that log home (Err e) is left = subst (λ (f : NodeFault). IsAnswered owner at long this that log home home (Err f)) (sym is.1) (record { left = left; quiet = refl })

-- a write that failed was not too long
pub not_failed : {T : Type 0} (at spot : Spot) (fault : LogFault) → IsErrOf {T = T} (Err fault) (Device spot) → (IsErrOf {T = T} (Err fault) (Full at)) ⊎ (IsErrOf {T = T} (Err fault) Memory) → ⊥
not_failed at spot fault is (inl e) = absurd cc
not_failed at spot fault is (inr e) = absurd cc
