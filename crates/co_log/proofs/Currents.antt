-- Which file is current, and with which records.
use Rattle.std.proofs.Common.{◌≡◌, ℕ, ◌+◌, ◌++◌, Bool, true, false, List, [], ◌∷◌, refl, sym, ap, subst, ◌∙◌, arith, inl, inr}
use Rattle.std.specs.Prelude.{Some, Result, Ok, Err}
use Rattle.std.specs.Result.{IsErrAnd}
use Rattle.co_base.specs.declared.node.Node.{Node}
use Rattle.co_outside.specs.Home.{HomeView, File, Agrees, RestStays}
use Rattle.co_outside.specs.declared.spot.Spot.{Spot}
use Rattle.co_disk.specs.DiskModel.{read_of}
use Rattle.co_disk.specs.DiskView.{DiskView}
use Rattle.co_frame.specs.Gate.{begins_closed}
use Rattle.co_record.specs.declared.record.Record.{Record}
use Rattle.co_log.specs.declared.fault.LogFault.{LogFault}
use Rattle.co_log.specs.declared.fault.LogFault.TheVariants.{Device, Stopped, Bad, Differs, Full, InUse, Memory}
use Rattle.co_record.specs.Format.{IsVersion, newest}
use Rattle.co_log.specs.Appending.{IsOfAppend}
use Rattle.co_log.specs.Attaching.{IsOlder}
use Rattle.co_log.specs.Current.{BeginsWith, IsOrdered, IsOldCurrent, IsNewCurrent, IsCurrentIf, IsCurrentAfter, IsCurrentForced, IsCurrentMade}
use Rattle.co_log.specs.LogFile.{next_gate, next_items, placed_from, EndsIn, EndsAt, EndsAfter, OldOrBoth}
use Rattle.co_log.specs.Fresh.{IsFresh}
use Rattle.co_frame.specs.LogText.{IsLogText}
use Rattle.co_record.specs.declared.record.Record.TheVariants.{Header}
use Rattle.co_log.specs.LogView.{LogView, IsHeld}
use Rattle.co_log.specs.Scanning.{IsLogFileIn, IsLogFile}
use Rattle.co_log.specs.Spare.{IsSpareImage, filling}
use Rattle.co_log.proofs.Spots.{spots_apart}
use Rattle.co_log.proofs.Versions.{newest_known, ends_newest}
use Rattle.co_log.proofs.Unmade.{ends_at_front, ends_at_once, read_stable, closed_file}

begins_more : (node : Node) (generation : ℕ) (items more : List (ℕ × Record)) → BeginsWith node generation items → BeginsWith node generation (items ++ more)
begins_more node generation [] more begins = absurd begins
begins_more node generation (x ∷ items) more begins = begins

pub begins_next : (stable : Bool) (node : Node) (generation gate : ℕ) (items : List (ℕ × Record)) (more : List Record) → BeginsWith node generation items → BeginsWith node generation (next_items stable gate items more)
begins_next true node generation gate items more begins = begins_more node generation items (placed_from (gate + 5) more) begins
begins_next false node generation gate items more begins = begins

-- a file that begins with a header is a log file of its generation
pub log_file_in : (node : Node) (generation version : ℕ) → IsVersion version → (bytes : List ℕ) (gate : ℕ) (items : List (ℕ × Record)) → EndsIn version bytes gate items → BeginsWith node generation items → IsLogFileIn version node bytes gate (Some generation)
log_file_in node generation version known bytes gate [] ends begins = absurd begins
log_file_in node generation version known bytes gate (x ∷ items) ends begins = (items, known, subst (λ (y : ℕ × Record). EndsIn version bytes gate (y ∷ items)) begins ends)

pub log_file : (node : Node) (generation version : ℕ) → IsVersion version → (bytes : List ℕ) (gate : ℕ) (items : List (ℕ × Record)) → EndsIn version bytes gate items → BeginsWith node generation items → IsLogFile node bytes gate (Some generation)
log_file node generation version known bytes gate items ends begins = (version, log_file_in node generation version known bytes gate items ends begins)

-- a file without a batch is older than any other
pub none_older : (node : Node) (bytes : List ℕ) (generation : ℕ) → EndsAt bytes 0 [] → IsOlder node bytes generation
none_older node bytes generation ends = inl (ends_at_front bytes [] ends)

-- a spare that is being closed stays the older file
pub image_older : (node : Node) (old image : List ℕ) (generation : ℕ) → IsOlder node old generation → IsSpareImage old image → IsOlder node image generation
image_older node old image generation older image' = elim image'.0 [
  | inl same ↦ subst (λ (b : List ℕ). IsOlder node b generation) (sym same) older
  | inr other ↦ elim other [
    | inl shut ↦ none_older node image generation (ends_at_once image shut)
    | inr short ↦ inl (inl (short, refl))
  ]
]

-- the old file is still current where the other one is older
pub old_current : (log : LogView) (items : List (ℕ × Record)) (current spare : List ℕ) → IsOrdered log items → current ≡ log.current.state.stable → IsOlder log.node spare log.generation → IsOldCurrent log items current spare
old_current log items current spare o same older =
    record { gate = log.gate; known = o.live.known; ends = subst (λ (b : List ℕ). EndsIn log.version b log.gate items) (sym same) o.live.ends; header = o.header; older = older }

-- a filled file is current
pub new_current : (log : LogView) (items : List (ℕ × Record)) (more : List Record) (current spare : List ℕ) → IsOrdered log items → current ≡ log.current.state.stable → EndsAfter true spare 0 [] (filling log more) → IsNewCurrent log more current spare
new_current log items more current spare o same ends = record {
  gate = next_gate true 0 (filling log more);
  known = newest_known;
  ends = ends;
  header = refl;
  older = inr (log.gate, log.generation, log_file log.node log.generation log.version o.live.known current log.gate items (subst (λ (b : List ℕ). EndsIn log.version b log.gate items) (sym same) o.live.ends) o.header, omega arith);
}

pub current_if : (stable : Bool) (log : LogView) (items : List (ℕ × Record)) (more : List Record) (current spare : List ℕ) → IsOrdered log items → current ≡ log.current.state.stable → EndsAfter stable spare 0 [] (filling log more) → IsCurrentIf stable log items more current spare
current_if true log items more current spare o same ends = new_current log items more current spare o same ends
current_if false log items more current spare o same ends = old_current log items current spare o same (none_older log.node spare log.generation ends)

-- after a fault
pub current_fault : (log : LogView) (items : List (ℕ × Record)) (more : List Record) (current spare : List ℕ) (at : Spot) (e : LogFault) → IsOfAppend at e → IsOrdered log items → current ≡ log.current.state.stable → OldOrBoth spare 0 [] (filling log more)
    → (e ≡ Full at → EndsAt spare 0 []) → (e ≡ Memory → EndsAt spare 0 []) → IsCurrentAfter log items more current spare (Err e)
current_fault log items more current spare at (Device spot) of o same either full memory = elim either [
  | inl old ↦ inl (old_current log items current spare o same (none_older log.node spare log.generation old))
  | inr both ↦ inr (new_current log items more current spare o same both)
]
current_fault log items more current spare at (Stopped call stable marks) of o same either full memory = absurd of
current_fault log items more current spare at (Bad spot place) of o same either full memory = absurd of
current_fault log items more current spare at (Differs spot place kept read) of o same either full memory = absurd of
current_fault log items more current spare at (Full spot) of o same either full memory = old_current log items current spare o same (none_older log.node spare log.generation (full (ap Full of)))
current_fault log items more current spare at (InUse spot) of o same either full memory = absurd of
current_fault log items more current spare at Memory of o same either full memory = old_current log items current spare o same (none_older log.node spare log.generation (memory refl))

-- ---- over a home

-- the told current file is what the log keeps of it, after calls on the spare alone
pub current_told : (old new : HomeView) (log : LogView) (spot : Spot) (f : File) → IsHeld old log → log.current.state.pending ≡ [] → spot ≡ log.spare.spot
    → RestStays spot old new → new.file log.current.spot ≡ Some f → f.bytes ≡ log.current.state.stable
current_told old new log spot f held still its rest told =
    let kept = rest.others.files log.current.spot (λ e. spots_apart log held.spots (e ∙ its)) in
    held.current.told f (sym kept ∙ told) ∙ read_stable log.current.state still

-- which file is current after a filling that met no fault
pub filled_current : (old new : HomeView) (log : LogView) (disk : DiskView) (more : List Record) (stable : Bool) → IsHeld old log
    → RestStays log.spare.spot old new → Agrees new log.spare.spot (read_of disk.state) → disk.state.pending ≡ [] → EndsAfter stable disk.state.stable 0 [] (filling log more)
    → (items : List (ℕ × Record)) → IsOrdered log items → (c s : File) → new.file log.current.spot ≡ Some c → new.file log.spare.spot ≡ Some s → IsCurrentIf stable log items more c.bytes s.bytes
filled_current old new log disk more stable held rest agrees still ends items o c s told_c told_s =
    let same = current_told old new log log.spare.spot c held o.live.still refl rest told_c in
    let whole : s.bytes ≡ disk.state.stable = agrees.told s told_s ∙ read_stable disk.state still in
    current_if stable log items more c.bytes s.bytes o same (subst (λ (b : List ℕ). EndsAfter stable b 0 [] (filling log more)) (sym whole) ends)

-- the old file stays current where nothing was called
pub untouched_current : (home : HomeView) (log : LogView) → IsHeld home log → log.spare.state.pending ≡ [] → begins_closed log.spare.state.stable ≡ true
    → (items : List (ℕ × Record)) → IsOrdered log items → (c s : File) → home.file log.current.spot ≡ Some c → home.file log.spare.spot ≡ Some s → IsOldCurrent log items c.bytes s.bytes
untouched_current home log held still closed items o c s told_c told_s =
    old_current log items c.bytes s.bytes o (held.current.told c told_c ∙ read_stable log.current.state o.live.still) (none_older log.node s.bytes log.generation (closed_file log.spare.state s.bytes still closed (held.spare.told s told_s)))

-- and where its spare is closed
pub closing_current : (old new : HomeView) (log : LogView) (spot : Spot) → IsHeld old log → spot ≡ log.spare.spot → RestStays spot old new
    → ((f : File) → new.file log.spare.spot ≡ Some f → IsSpareImage log.spare.state.stable f.bytes)
    → (items : List (ℕ × Record)) → IsOrdered log items → (c s : File) → new.file log.current.spot ≡ Some c → new.file log.spare.spot ≡ Some s → IsOldCurrent log items c.bytes s.bytes
closing_current old new log spot held its rest told items o c s told_c told_s =
    old_current log items c.bytes s.bytes o (current_told old new log spot c held o.live.still its rest told_c) (image_older log.node log.spare.state.stable s.bytes log.generation o.older (told s told_s))

-- a result that is known to be this fault
pub err_is : {A : Type 0} (r : Result A LogFault) (x : LogFault) → IsErrAnd r (λ e. e ≡ x) → r ≡ Err x
err_is (Ok y) x is = absurd is
err_is (Err e) x is = ap Err is

-- and is this other one
pub same_err : {A : Type 0} (r : Result A LogFault) (x y : LogFault) → IsErrAnd r (λ e. e ≡ x) → r ≡ Err y → x ≡ y
same_err (Ok z) x y is h = absurd is
same_err (Err e) x y is h = let it : e ≡ y = cc in sym is ∙ it

-- which file is current after a filling that met a fault
pub faulted_current : (old new : HomeView) (log : LogView) (more : List Record) (e : LogFault) → IsHeld old log → log.spare.state.pending ≡ []
    → begins_closed log.spare.state.stable ≡ true → RestStays log.spare.spot old new → IsOfAppend log.spare.spot e → ((f : File) → new.file log.spare.spot ≡ Some f → OldOrBoth f.bytes 0 [] (filling log more))
    → (e ≡ Full log.spare.spot → new ≡ old) → (e ≡ Memory → (f : File) → new.file log.spare.spot ≡ Some f → EndsAt f.bytes 0 [])
    → (items : List (ℕ × Record)) → IsOrdered log items → (c s : File) → new.file log.current.spot ≡ Some c → new.file log.spare.spot ≡ Some s → IsCurrentAfter log items more c.bytes s.bytes (Err e)
faulted_current old new log more e held still closed rest of either full early items o c s told_c told_s =
    current_fault log items more c.bytes s.bytes log.spare.spot e of o (current_told old new log log.spare.spot c held o.live.still refl rest told_c) (either s told_s)
    (λ is. closed_file log.spare.state s.bytes still closed (held.spare.told s (subst (λ (h : HomeView). h.file log.spare.spot ≡ Some s) (full is) told_s)))
    (λ is. early is s told_s)

-- ---- after a log write on the current file

-- the current file has these records
pub now_current : (log : LogView) → log.version ≡ newest → (items : List (ℕ × Record)) (stable : Bool) (gate : ℕ) (more : List Record) (current spare : List ℕ) → BeginsWith log.node log.generation items → IsOlder log.node spare log.generation → EndsAfter stable current gate items more
    → IsOldCurrent log (next_items stable gate items more) current spare
now_current log latest items stable gate more current spare begins older ends = record { gate = next_gate stable gate more; known = subst IsVersion (sym latest) newest_known; ends = subst (λ (v : ℕ). EndsIn v current (next_gate stable gate more) (next_items stable gate items more)) (sym latest) ends; header = begins_next stable log.node log.generation gate items more begins; older = older }

-- after a fault
pub force_fault : (log : LogView) → log.version ≡ newest → (items : List (ℕ × Record)) (more : List Record) (current spare : List ℕ) (at : Spot) (e : LogFault) → IsOfAppend at e → BeginsWith log.node log.generation items → IsOlder log.node spare log.generation → OldOrBoth current log.gate items more
    → (e ≡ Full at → EndsAt current log.gate items) → (e ≡ Memory → EndsAt current log.gate items) → IsCurrentForced log items more current spare (Err e)
force_fault log latest items more current spare at (Device spot) of begins older either full memory = elim either [
  | inl old ↦ inl (now_current log latest items false log.gate more current spare begins older old)
  | inr both ↦ inr (now_current log latest items true log.gate more current spare begins older both)
]
force_fault log latest items more current spare at (Stopped call stable marks) of begins older either full memory = absurd of
force_fault log latest items more current spare at (Bad spot place) of begins older either full memory = absurd of
force_fault log latest items more current spare at (Differs spot place kept read) of begins older either full memory = absurd of
force_fault log latest items more current spare at (Full spot) of begins older either full memory = now_current log latest items false log.gate more current spare begins older (full (ap Full of))
force_fault log latest items more current spare at (InUse spot) of begins older either full memory = absurd of
force_fault log latest items more current spare at Memory of begins older either full memory = now_current log latest items false log.gate more current spare begins older (memory refl)

-- the told spare is what the log keeps of it, after calls on the current file alone, and so it is older
pub spare_older : (old new : HomeView) (log : LogView) (items : List (ℕ × Record)) (f : File) → IsHeld old log → IsOrdered log items → new.file log.spare.spot ≡ old.file log.spare.spot → new.file log.spare.spot ≡ Some f → IsOlder log.node f.bytes log.generation
spare_older old new log items f held o kept told = subst (λ (b : List ℕ). IsOlder log.node b log.generation) (sym (held.spare.told f (sym kept ∙ told) ∙ read_stable log.spare.state o.still)) o.older

module _ (old new : HomeView) (log : LogView) (held : IsHeld old log) (rest : RestStays log.current.spot old new) (latest : log.version ≡ newest) where
  spare_kept : new.file log.spare.spot ≡ old.file log.spare.spot
  spare_kept = rest.others.files log.spare.spot (λ e. spots_apart log held.spots (sym e))

  -- where it met no fault
  pub forced_current : (disk : DiskView) (items : List (ℕ × Record)) (more : List Record) (stable : Bool) → Agrees new log.current.spot (read_of disk.state) → disk.state.pending ≡ [] → EndsAfter stable disk.state.stable log.gate items more → IsOrdered log items
      → (c s : File) → new.file log.current.spot ≡ Some c → new.file log.spare.spot ≡ Some s → IsOldCurrent log (next_items stable log.gate items more) c.bytes s.bytes
  forced_current disk items more stable agrees still ends o c s told_c told_s =
      let whole : c.bytes ≡ disk.state.stable = agrees.told c told_c ∙ read_stable disk.state still in
      now_current log latest items stable log.gate more c.bytes s.bytes o.header (spare_older old new log items s held o spare_kept told_s) (subst (λ (b : List ℕ). EndsAfter stable b log.gate items more) (sym whole) ends)

  -- and where it met one
  pub force_faulted : (items : List (ℕ × Record)) (more : List Record) (e : LogFault) → IsOfAppend log.current.spot e → ((f : File) → new.file log.current.spot ≡ Some f → OldOrBoth f.bytes log.gate items more) → (e ≡ Full log.current.spot → new ≡ old)
      → (e ≡ Memory → (f : File) → new.file log.current.spot ≡ Some f → EndsAt f.bytes log.gate items) → IsOrdered log items
      → (c s : File) → new.file log.current.spot ≡ Some c → new.file log.spare.spot ≡ Some s → IsCurrentForced log items more c.bytes s.bytes (Err e)
  force_faulted items more e of either full early o c s told_c told_s =
      force_fault log latest items more c.bytes s.bytes log.current.spot e of o.header (spare_older old new log items s held o spare_kept told_s) (either c told_c)
      (λ is.
      let before : old.file log.current.spot ≡ Some c = subst (λ (h : HomeView). h.file log.current.spot ≡ Some c) (full is) told_c in
      subst (λ (b : List ℕ). EndsAt b log.gate items) (sym (held.current.told c before ∙ read_stable log.current.state o.live.still)) (ends_newest log items latest o.live))
      (λ is. early is c told_c)

-- ---- after a making

pub made_fault : (log : LogView) (current spare : List ℕ) (at : Spot) (e : LogFault) → IsOfAppend at e → (e ≡ Full at → ⊥) → OldOrBoth current 0 [] (Header log.node 1 ∷ []) → (e ≡ Memory → EndsAt current 0 []) → IsLogText spare [] → IsCurrentMade log current spare (Err e)
made_fault log current spare at (Device spot) of not_full either memory none = elim either [
  | inl old ↦ inl (ends_at_front current [] old, none)
  | inr both ↦ inr record { gate = next_gate true 0 (Header log.node 1 ∷ []); known = newest_known; ends = both; header = refl; older = inl none }
]
made_fault log current spare at (Stopped call stable marks) of not_full either memory none = absurd of
made_fault log current spare at (Bad spot place) of not_full either memory none = absurd of
made_fault log current spare at (Differs spot place kept read) of not_full either memory none = absurd of
made_fault log current spare at (Full spot) of not_full either memory none = absurd (not_full (ap Full of))
made_fault log current spare at (InUse spot) of not_full either memory none = absurd of
made_fault log current spare at Memory of not_full either memory none = (ends_at_front current [] (memory refl), none)

-- the told spare of a fresh log has no batch, where no call was on it
pub spare_none : (old new : HomeView) (log : LogView) (f : File) → IsHeld old log → IsFresh log → new.file log.spare.spot ≡ old.file log.spare.spot → new.file log.spare.spot ≡ Some f → IsLogText f.bytes []
spare_none old new log f held fresh kept told = subst (λ (b : List ℕ). IsLogText b []) (sym (held.spare.told f (sym kept ∙ told) ∙ read_stable log.spare.state fresh.spare_still)) fresh.spare_none
