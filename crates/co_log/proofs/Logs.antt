-- Logs after a log write on their current file.
use Rattle.std.proofs.Common.{◌≡◌, ℕ, ◌+◌, ◌<◌, Bool, true, false, List, [], refl, sym, ap, subst, ◌∙◌, arith}
use Rattle.std.specs.Prelude.{Option, Some, None, if◌then◌else◌}
use Rattle.co_base.specs.declared.leaves.Leaves.{Leaves}
use Rattle.co_base.specs.declared.mark.Mark.{Mark}
use Rattle.co_record.specs.declared.record.Record.{Record}
use Rattle.co_log.specs.declared.append.Ending.TheVariants.{Whole, Stopped}
use Rattle.co_base.specs.declared.leaves.Stop.{Stop}
use Rattle.co_log.specs.Appending.{IsEnding}
use Rattle.co_record.specs.Format.{IsVersion, newest}
use Rattle.co_frame.specs.Gate.{batch_is_stable, begins_closed}
use Rattle.co_log.specs.Forcing.{IsWritten}
use Rattle.co_log.specs.LogFile.{next_gate, next_items, EndsIn, EndsAfter}
use Rattle.co_log.specs.Spare.{IsFilled, IsFilledIf, filling, turned}
use Rattle.co_disk.specs.DiskView.{DiskView}
use Rattle.co_log.specs.LogView.{LogView, IsLive}
use Rattle.co_log.specs.Marks.{marks_of}
use Rattle.co_log.proofs.Versions.{newest_known}
use Rattle.co_log.proofs.Unmade.{first_shut}

-- what a log write does not touch, or clears
pub record IsTidy (log after : LogView) : Type 0 where
  pub node : after.node ≡ log.node
  pub version : after.version ≡ log.version
  pub spot : after.current.spot ≡ log.current.spot
  pub spare : after.spare ≡ log.spare
  pub generation : after.generation ≡ log.generation
  pub waiting : after.waiting ≡ []
  pub disarmed : after.stop ≡ None
  pub still : after.current.state.pending ≡ []

further : (stable : Bool) (gate : ℕ) (more : List Record) → 0 < gate → 0 < next_gate stable gate more
further true gate more made = omega (arith, made)
further false gate more made = made

pub written : (stable : Bool) (log after : LogView) → log.version ≡ newest → (items : List (ℕ × Record)) (more : List Record) → IsTidy log after → IsLive log items → after.gate ≡ next_gate stable log.gate more → EndsAfter stable after.current.state.stable log.gate items more → IsWritten stable log items more after
written stable log after latest items more tidy live at ends = record {
  node = tidy.node;
  version = tidy.version;
  spot = tidy.spot;
  spare = tidy.spare;
  generation = tidy.generation;
  waiting = tidy.waiting;
  disarmed = tidy.disarmed;
  live = record { made = subst (λ (n : ℕ). 0 < n) (sym at) (further stable log.gate more live.made); known = subst IsVersion (sym (tidy.version ∙ latest)) newest_known; still = tidy.still; ends = subst (λ (v : ℕ). EndsIn v after.current.state.stable after.gate (next_items stable log.gate items more)) (sym (tidy.version ∙ latest)) (subst (λ (n : ℕ). EndsIn newest after.current.state.stable n (next_items stable log.gate items more)) (sym at) ends) };
}

pub whole : (log after : LogView) → log.version ≡ newest → (items : List (ℕ × Record)) (more front : List Record) (stop : Option Stop) (told : List Mark) → more ≡ front → stop ≡ log.stop → told ≡ marks_of log.node front → IsTidy log after → IsLive log items
    → IsEnding (Whole after.gate) stop after.current log.gate items more → (log.stop ≡ None) × (told ≡ marks_of log.node front) × IsWritten true log items front after
whole log after latest items more front stop told same armed marks tidy live e =
    (sym armed ∙ e.0, marks, subst (λ (m : List Record). IsWritten true log items m after) same (written true log after latest items more tidy live e.1 e.2))

pub stopped : (log after : LogView) → log.version ≡ newest → (items : List (ℕ × Record)) (more front : List Record) (stop : Option Stop) (told marks : List Mark) (call : ℕ) (stable : Bool) → more ≡ front → stop ≡ log.stop → told ≡ marks_of log.node front
    → marks ≡ (if stable then told else []) → IsTidy log after → IsLive log items → IsEnding (Stopped call stable after.gate) stop after.current log.gate items more
    → (leaves : Leaves) × (log.stop ≡ Some (let s : Stop = record { call = call; leaves = leaves } in s)) × (stable ≡ batch_is_stable call leaves) × (marks ≡ (if stable then marks_of log.node front else [])) × IsWritten stable log items front after
stopped log after latest items more front stop told marks call stable same armed tells is tidy live e =
    (e.0, sym armed ∙ e.1, e.2, is ∙ ap (λ (m : List Mark). if stable then m else []) tells, subst (λ (m : List Record). IsWritten stable log items m after) same (written stable log after latest items more tidy live e.3 e.4))

-- ---- spares that are filled

-- the log after a log write on its spare, before the files are exchanged
abbrev pub after_filling : LogView → DiskView → List Record → Option Stop → LogView
after_filling log disk waiting stop = record { node = log.node; version = log.version; current = log.current; spare = disk; gate = log.gate; generation = log.generation; waiting = waiting; stop = stop }

pub filled : (log : LogView) (open' : begins_closed log.current.state.stable ≡ false) (disk : DiskView) (waiting : List Record) (stop : Option Stop) (items : List Record) (next : ℕ) → disk.spot ≡ log.spare.spot → waiting ≡ [] → stop ≡ None → disk.state.pending ≡ [] → next ≡ next_gate true 0 (filling log items) → EndsAfter true disk.state.stable 0 [] (filling log items)
    → IsFilled log (turned (after_filling log disk waiting stop) next (log.generation + 1)) items
filled log open' disk waiting stop items next its none disarmed still at ends = record {
  node = refl;
  version = refl;
  spot = its;
  spare = refl;
  generation = refl;
  waiting = none;
  disarmed = disarmed;
  opens = open';
  live = record { made = omega (arith, at); known = newest_known; still = still; ends = subst (λ (n : ℕ). EndsIn newest disk.state.stable n (next_items true 0 [] (filling log items))) (sym at) ends };
}

pub filled_if : (stable : Bool) (log : LogView) (open' : begins_closed log.current.state.stable ≡ false) (disk : DiskView) (waiting : List Record) (stop : Option Stop) (items : List Record) (next : ℕ) → disk.spot ≡ log.spare.spot → waiting ≡ [] → stop ≡ None → disk.state.pending ≡ [] → next ≡ next_gate stable 0 (filling log items)
    → EndsAfter stable disk.state.stable 0 [] (filling log items) → IsFilledIf stable log (if stable then turned (after_filling log disk waiting stop) next (log.generation + 1) else after_filling log disk waiting stop) items
filled_if true log open' disk waiting stop items next its none disarmed still at ends = filled log open' disk waiting stop items next its none disarmed still at ends
filled_if false log open' disk waiting stop items next its none disarmed still at ends =
    record { node = refl; version = refl; current = refl; gate = refl; generation = refl; waiting = none; disarmed = disarmed; spot = its; still = still; closed = first_shut disk.state.stable ends }
