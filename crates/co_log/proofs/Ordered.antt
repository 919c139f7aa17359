-- Logs whose files are in order stay so.
use Rattle.std.proofs.Common.{◌≡◌, ◌⊎◌, ℕ, ◌+◌, ◌<◌, Bool, true, false, List, [], ◌∷◌, ◌++◌, refl, sym, ap, subst, ◌∙◌, arith, inl, inr}
use Rattle.std.specs.Prelude.{Option, Some, None, Result, Ok, Err, length, map, if◌then◌else◌}
use Rattle.std.proofs.lemmas.List.{map-append}
use Rattle.co_record.specs.Format.{IsVersion, newest}
use Rattle.co_record.specs.Spelling.{spelling}
use Rattle.co_base.specs.Nodes.{IsValidNode}
use Rattle.co_base.specs.declared.mark.Mark.{Mark}
use Rattle.co_base.specs.declared.node.Node.{Node}
use Rattle.co_outside.specs.Home.{HomeView, File}
use Rattle.co_disk.specs.DiskView.{DiskView}
use Rattle.co_record.specs.declared.record.Record.{Record}
use Rattle.co_record.specs.declared.record.Record.TheVariants.{Header}
use Rattle.co_log.specs.declared.fault.LogFault.{LogFault}
use Rattle.co_log.specs.declared.fault.LogFault.TheVariants.{Device, Stopped, Bad, Differs, Full, InUse, Memory}
use Rattle.co_frame.specs.LogText.{IsLogText, gated}
use Rattle.co_frame.specs.Gate.{begins_closed, closes_spare}
use Rattle.co_log.specs.Attaching.{built, IsToldAs, IsOlder, IsAttached, IsCurrent}
use Rattle.co_log.specs.Current.{BeginsWith, IsCurrentOf, IsOrdered}
use Rattle.co_log.specs.Forcing.{IsWritten, IsForced, IsDone, counts}
use Rattle.co_log.specs.Fresh.{IsFresh, IsMade, header_alone}
use Rattle.co_log.specs.LogFile.{next_items, placed_from, records_of, EndsIn}
use Rattle.co_log.specs.LogView.{LogView, IsLive, IsHeld, spot_of}
use Rattle.co_log.specs.Spare.{IsClosed, IsClosing, IsFilled, IsUnfilled, IsFilledIf, IsFilling, filling, filled_items}
use Rattle.co_log.proofs.Attached.{behind_front}
use Rattle.co_log.proofs.Currents.{log_file, none_older, image_older, old_current, begins_next}
use Rattle.co_log.proofs.Unmade.{ends_at_once, read_stable}

-- the same of a log with the same node and generation
moved : (log after : LogView) (items : List (ℕ × Record)) → after.node ≡ log.node → after.generation ≡ log.generation → BeginsWith log.node log.generation items → BeginsWith after.node after.generation items
moved log after items node generation begins = subst (λ (n : Node). BeginsWith n after.generation items) (sym node) (subst (λ (g : ℕ). BeginsWith log.node g items) (sym generation) begins)

older_moved : (log after : LogView) (spare : List ℕ) → after.node ≡ log.node → after.generation ≡ log.generation → IsOlder log.node spare log.generation → IsOlder after.node spare after.generation
older_moved log after spare node generation older = subst (λ (n : Node). IsOlder n spare after.generation) (sym node) (subst (λ (g : ℕ). IsOlder log.node spare g) (sym generation) older)

pub made_ordered : (log after : LogView) → IsFresh log → IsValidNode log.node → IsMade log after → IsOrdered after (header_alone log.node)
made_ordered log after fresh valid made =
    let begins : BeginsWith log.node 1 (header_alone log.node) = refl in
    record {
      valid = subst IsValidNode (sym made.node) valid;
      live = made.live;
      header = subst (λ (n : Node). BeginsWith n after.generation (header_alone log.node)) (sym made.node) (subst (λ (g : ℕ). BeginsWith log.node g (header_alone log.node)) (sym made.generation) begins);
      still = subst (λ (d : DiskView). d.state.pending ≡ []) (sym made.spare) fresh.spare_still;
      older = inl (subst (λ (d : DiskView). IsLogText d.state.stable []) (sym made.spare) fresh.spare_none);
    }

pub written_ordered : (stable : Bool) (log after : LogView) (items : List (ℕ × Record)) (more : List Record) → IsOrdered log items → IsWritten stable log items more after → IsOrdered after (next_items stable log.gate items more)
written_ordered stable log after items more o w = record {
  valid = subst IsValidNode (sym w.node) o.valid;
  live = w.live;
  header = moved log after (next_items stable log.gate items more) w.node w.generation (begins_next stable log.node log.generation log.gate items more o.header);
  still = subst (λ (d : DiskView). d.state.pending ≡ []) (sym w.spare) o.still;
  older = older_moved log after after.spare.state.stable w.node w.generation (subst (λ (d : DiskView). IsOlder log.node d.state.stable log.generation) (sym w.spare) o.older);
}

live_moved : (log after : LogView) (items : List (ℕ × Record)) → after.version ≡ log.version → after.current ≡ log.current → after.gate ≡ log.gate → IsLive log items → IsLive after items
live_moved log after items version current gate live = record {
  known = subst IsVersion (sym version) live.known;
  made = subst (λ (n : ℕ). 0 < n) (sym gate) live.made;
  still = subst (λ (d : DiskView). d.state.pending ≡ []) (sym current) live.still;
  ends = subst (λ (v : ℕ). EndsIn v after.current.state.stable after.gate items) (sym version)
      (subst (λ (n : ℕ). EndsIn log.version after.current.state.stable n items) (sym gate) (subst (λ (d : DiskView). EndsIn log.version d.state.stable log.gate items) (sym current) live.ends));
}

pub closed_ordered : (closed : Bool) (log after : LogView) (items : List (ℕ × Record)) → IsOrdered log items → IsClosed closed log after → IsOrdered after items
closed_ordered closed log after items o c = record {
  valid = subst IsValidNode (sym c.node) o.valid;
  live = live_moved log after items c.version c.current c.gate o.live;
  header = moved log after items c.node c.generation o.header;
  still = c.still;
  older = older_moved log after after.spare.state.stable c.node c.generation (image_older log.node log.spare.state.stable after.spare.state.stable log.generation o.older c.image);
}

pub filled_ordered : (log after : LogView) (items : List (ℕ × Record)) (more : List Record) → IsOrdered log items → IsFilled log after more → IsOrdered after (placed_from 5 (filling log more))
filled_ordered log after items more o f =
    let begins : BeginsWith log.node (log.generation + 1) (placed_from 5 (filling log more)) = refl in
    let older : IsOlder log.node log.current.state.stable (log.generation + 1) = inr (log.gate, log.generation, log_file log.node log.generation log.version o.live.known log.current.state.stable log.gate items o.live.ends o.header, omega arith) in
    record {
      valid = subst IsValidNode (sym f.node) o.valid;
      live = f.live;
      header = subst (λ (n : Node). BeginsWith n after.generation (placed_from 5 (filling log more))) (sym f.node) (subst (λ (g : ℕ). BeginsWith log.node g (placed_from 5 (filling log more))) (sym f.generation) begins);
      still = subst (λ (d : DiskView). d.state.pending ≡ []) (sym f.spare) o.live.still;
      older = subst (λ (n : Node). IsOlder n after.spare.state.stable after.generation) (sym f.node)
          (subst (λ (g : ℕ). IsOlder log.node after.spare.state.stable g) (sym f.generation) (subst (λ (d : DiskView). IsOlder log.node d.state.stable (log.generation + 1)) (sym f.spare) older));
    }

pub unfilled_ordered : (log after : LogView) (items : List (ℕ × Record)) → IsOrdered log items → IsUnfilled log after → IsOrdered after items
unfilled_ordered log after items o u = record {
  valid = subst IsValidNode (sym u.node) o.valid;
  live = live_moved log after items u.version u.current u.gate o.live;
  header = moved log after items u.node u.generation o.header;
  still = u.still;
  older = none_older after.node after.spare.state.stable after.generation (ends_at_once after.spare.state.stable u.closed);
}

-- ---- calls

pub forced_ordered : (log after : LogView) (items : List (ℕ × Record)) (more : List Record) (result : Result (List Mark) LogFault) → IsOrdered log items → IsForced log items more after result → IsDone result → IsOrdered after (next_items (counts result) log.gate items more)
forced_ordered log after items more (Ok marks) o f done = written_ordered true log after items more o f.2
forced_ordered log after items more (Err (Stopped call stable marks)) o f done = written_ordered stable log after items more o f.4
forced_ordered log after items more (Err (Device spot)) o f done = absurd done
forced_ordered log after items more (Err (Bad spot at)) o f done = absurd done
forced_ordered log after items more (Err (Differs spot at kept read)) o f done = absurd done
forced_ordered log after items more (Err (Full spot)) o f done = absurd done
forced_ordered log after items more (Err (InUse spot)) o f done = absurd done
forced_ordered log after items more (Err Memory) o f done = absurd done

pub closing_ordered : (log after : LogView) (items : List (ℕ × Record)) (result : Result (Unit {0}) LogFault) → IsOrdered log items → IsClosing log after result → IsDone result → IsOrdered after items
closing_ordered log after items (Ok x) o f done = closed_ordered true log after items o f.0
closing_ordered log after items (Err (Stopped call stable marks)) o f done = closed_ordered (closes_spare f.0) log after items o f.5
closing_ordered log after items (Err (Device spot)) o f done = absurd done
closing_ordered log after items (Err (Bad spot at)) o f done = absurd done
closing_ordered log after items (Err (Differs spot at kept read)) o f done = absurd done
closing_ordered log after items (Err (Full spot)) o f done = absurd done
closing_ordered log after items (Err (InUse spot)) o f done = absurd done
closing_ordered log after items (Err Memory) o f done = absurd done

pub filling_ordered : (log after : LogView) (items : List (ℕ × Record)) (more : List Record) (result : Result Mark LogFault) → IsOrdered log items → IsFilling log more after result → IsDone result → IsOrdered after (filled_items (counts result) log items more)
filling_ordered log after items more (Ok mark) o f done = filled_ordered log after items more o f.2
filling_ordered log after items more (Err (Stopped call stable marks)) o f done = by_image stable f.4
  where
    by_image : (b : Bool) → IsFilledIf b log after more → IsOrdered after (filled_items b log items more)
    by_image true is = filled_ordered log after items more o is
    by_image false is = unfilled_ordered log after items o is
filling_ordered log after items more (Err (Device spot)) o f done = absurd done
filling_ordered log after items more (Err (Bad spot at)) o f done = absurd done
filling_ordered log after items more (Err (Differs spot at kept read)) o f done = absurd done
filling_ordered log after items more (Err (Full spot)) o f done = absurd done
filling_ordered log after items more (Err (InUse spot)) o f done = absurd done
filling_ordered log after items more (Err Memory) o f done = absurd done

-- ---- versions

pub forced_version : (log after : LogView) (items : List (ℕ × Record)) (more : List Record) (result : Result (List Mark) LogFault) → IsForced log items more after result → IsDone result → after.version ≡ log.version
forced_version log after items more (Ok marks) f done = f.2.version
forced_version log after items more (Err (Stopped call stable marks)) f done = f.4.version
forced_version log after items more (Err (Device spot)) f done = absurd done
forced_version log after items more (Err (Bad spot at)) f done = absurd done
forced_version log after items more (Err (Differs spot at kept read)) f done = absurd done
forced_version log after items more (Err (Full spot)) f done = absurd done
forced_version log after items more (Err (InUse spot)) f done = absurd done
forced_version log after items more (Err Memory) f done = absurd done

pub closing_version : (log after : LogView) (result : Result (Unit {0}) LogFault) → IsClosing log after result → IsDone result → after.version ≡ log.version
closing_version log after (Ok x) f done = f.0.version
closing_version log after (Err (Stopped call stable marks)) f done = f.5.version
closing_version log after (Err (Device spot)) f done = absurd done
closing_version log after (Err (Bad spot at)) f done = absurd done
closing_version log after (Err (Differs spot at kept read)) f done = absurd done
closing_version log after (Err (Full spot)) f done = absurd done
closing_version log after (Err (InUse spot)) f done = absurd done
closing_version log after (Err Memory) f done = absurd done

pub filling_version : (log after : LogView) (more : List Record) (result : Result Mark LogFault) → IsFilling log more after result → IsDone result → after.version ≡ (if counts result then newest else log.version)
filling_version log after more (Ok mark) f done = f.2.version
filling_version log after more (Err (Stopped call stable marks)) f done = by_image stable f.4
  where
    by_image : (b : Bool) → IsFilledIf b log after more → after.version ≡ (if b then newest else log.version)
    by_image true is = is.version
    by_image false is = is.version
filling_version log after more (Err (Device spot)) f done = absurd done
filling_version log after more (Err (Bad spot at)) f done = absurd done
filling_version log after more (Err (Differs spot at kept read)) f done = absurd done
filling_version log after more (Err (Full spot)) f done = absurd done
filling_version log after more (Err (InUse spot)) f done = absurd done
filling_version log after more (Err Memory) f done = absurd done

-- the records alone, oldest first
placed_records : (at : ℕ) (more : List Record) → map (λ p. p.1) (placed_from at more) ≡ more
placed_records at [] = refl
placed_records at (item ∷ more) = ap (λ (rs : List Record). item ∷ rs) (placed_records (at + length (spelling newest item)) more)

pub next_records : (stable : Bool) (gate : ℕ) (items : List (ℕ × Record)) (more : List Record) → records_of (next_items stable gate items more) ≡ (if stable then records_of items ++ more else records_of items)
next_records true gate items more = map-append _ items (placed_from (gate + 5) more) ∙ ap (λ (rs : List Record). records_of items ++ rs) (placed_records (gate + 5) more)
next_records false gate items more = refl

pub filled_records : (stable : Bool) (log : LogView) (items : List (ℕ × Record)) (more : List Record) → records_of (filled_items stable log items more) ≡ (if stable then filling log more else records_of items)
filled_records true log items more = placed_records 5 (filling log more)
filled_records false log items more = refl

-- an attached log has nothing waiting, and no stop is armed
pub attached_unarmed : (node : Node) (a b : DiskView) (log : LogView) → IsAttached node a b log → (log.node ≡ node) × (log.waiting ≡ []) × (log.stop ≡ None)
attached_unarmed node a b log attached = elim attached [
  | inl fresh ↦ subst Unarmed (sym fresh.0) (refl, refl, refl)
  | inr live ↦ elim live [ inl one ↦ subst Unarmed (sym one.is) (refl, refl, refl) | inr other ↦ subst Unarmed (sym other.is) (refl, refl, refl) ]
]
  where
    Unarmed : LogView → Type 0
    Unarmed l = (l.node ≡ node) × (l.waiting ≡ []) × (l.stop ≡ None)

-- ---- logs that are attached

current_ordered : (node : Node) (current spare : DiskView) (log : LogView) → IsValidNode node → current.state.pending ≡ [] → spare.state.pending ≡ [] → IsCurrent node current spare log → (items : List (ℕ × Record)) × IsOrdered log items
current_ordered node current spare log valid still spare_still c =
    let first : ℕ × Record = (5, Header node c.generation) in
    let here : LogView = built node c.version current spare c.gate c.generation in
    let begins : BeginsWith node c.generation (first ∷ c.file.0) = refl in
    subst (λ (l : LogView). (items : List (ℕ × Record)) × IsOrdered l items) (sym c.is) (
      first ∷ c.file.0,
      record {
        valid = valid;
        live = record { made = behind_front c.version current.state.stable c.gate first c.file.0 c.file.2; known = c.file.1; still = still; ends = c.file.2 };
        header = begins;
        still = spare_still;
        older = c.older;
      },
    )

pub attached_ordered : (node : Node) (a b : DiskView) (log : LogView) → IsValidNode node → a.state.pending ≡ [] → b.state.pending ≡ [] → IsAttached node a b log → (IsFresh log × IsValidNode log.node) ⊎ ((items : List (ℕ × Record)) × IsOrdered log items)
attached_ordered node a b log valid still_a still_b attached = elim attached [
  | inl fresh ↦ inl (subst (λ (l : LogView). IsFresh l × IsValidNode l.node) (sym fresh.0) (record { unmade = refl; version = refl; still = still_a; spare_still = still_b; none = fresh.1; spare_none = fresh.2 }, valid))
  | inr live ↦ inr (elim live [ inl one ↦ current_ordered node a b log valid still_a still_b one | inr other ↦ current_ordered node b a log valid still_b still_a other ])
]

-- ---- logs and their homes

abbrev pub IsFound : LogView → Type 0
IsFound log = (IsFresh log × IsValidNode log.node) ⊎ ((items : List (ℕ × Record)) × IsOrdered log items)

pub found : (node : Node) (file_a file_b : Option File) (log : LogView) → IsValidNode node → ((a : DiskView) × (b : DiskView) × IsToldAs (spot_of node 0) file_a a × IsToldAs (spot_of node 1) file_b b × IsAttached node a b log) → IsFound log
found node file_a file_b log valid told = attached_ordered node told.0 told.1 log valid told.2.still told.3.still told.4

-- a log that keeps its disks, its gate and its generation
pub ordered_same : (log after : LogView) (items : List (ℕ × Record)) → after.node ≡ log.node → after.version ≡ log.version → after.current ≡ log.current → after.spare ≡ log.spare → after.gate ≡ log.gate → after.generation ≡ log.generation → IsOrdered log items → IsOrdered after items
ordered_same log after items node version current spare gate generation o = record {
  valid = subst IsValidNode (sym node) o.valid;
  live = live_moved log after items version current gate o.live;
  header = moved log after items node generation o.header;
  still = subst (λ (d : DiskView). d.state.pending ≡ []) (sym spare) o.still;
  older = older_moved log after after.spare.state.stable node generation (subst (λ (d : DiskView). IsOlder log.node d.state.stable log.generation) (sym spare) o.older);
}

-- the told files of a log in order are current as it has them
pub held_current : (home : HomeView) (log : LogView) (items : List (ℕ × Record)) (c s : File) → IsHeld home log → IsOrdered log items → home.file log.current.spot ≡ Some c → home.file log.spare.spot ≡ Some s → IsCurrentOf log.node log.version log.generation c.bytes s.bytes items
held_current home log items c s held o told_c told_s =
    let older = subst (λ (b : List ℕ). IsOlder log.node b log.generation) (sym (held.spare.told s told_s ∙ read_stable log.spare.state o.still)) o.older in
    old_current log items c.bytes s.bytes o (held.current.told c told_c ∙ read_stable log.current.state o.live.still) older

-- a file with a batch begins with an open gate
pub live_open : (version : ℕ) (bytes : List ℕ) (gate : ℕ) (items : List (ℕ × Record)) → 0 < gate → EndsIn version bytes gate items → begins_closed bytes ≡ false
live_open version bytes gate items made e = ap begins_closed e.text.text ∙ by_batches e.batches e.place
  where
    by_batches : (batches : List (List ℕ)) → gate ≡ length (gated batches) → begins_closed (gated batches ++ e.text.gate ∷ e.text.rest) ≡ false
    by_batches [] at = absurd (omega (arith, at, made))
    by_batches (b ∷ bs) at = refl
