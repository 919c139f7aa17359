use Rattle.std.proofs.Common.{◌≡◌, ◌++◌, ℕ, List, ap, sym, subst, ◌∙◌, refl, true}
use Rattle.std.specs.Prelude.{Some, Result, Ok, Err}
use Rattle.co_base.specs.declared.mark.Mark.{Mark}
use Rattle.co_outside.specs.Home.{File}
use Rattle.co_log.specs.declared.fault.LogFault.{LogFault}
use Rattle.co_log.specs.Current.{IsOrdered, IsOldCurrent, IsCurrentForced}
use Rattle.co_log.specs.LogFile.{next_items}
use Rattle.co_log.proofs.Currents.{forced_current, force_faulted, err_is}
use Rattle.co_record.specs.declared.record.Record.{Record}
use Rattle.co_log.specs.declared.append.Ending.{Ending}
use Rattle.co_log.specs.declared.fault.LogFault.TheVariants as faults
use Rattle.co_log.specs.Appending.{IsEnding}
use Rattle.co_log.specs.Batches.{IsBatchAt, IsBatchOf}
use Rattle.co_log.specs.Forcing.{IsForced}
use Rattle.co_log.specs.LogView.{LogView, IsLive, IsHeld}
use Rattle.co_log.proofs.Faults.{device_append, device_full}
use Rattle.co_log.proofs.Logs.{IsTidy, whole, stopped}
use Rattle.co_record.specs.Format.{newest}
use Rattle.co_log.proofs.Versions.{ends_newest}
use Rattle.co_log.proofs.log.Log.lay_batch.Goals as goal

pub lay-requires-clause-batch : goal.lay-requires-clause-batch
lay-requires-clause-batch g c =
    let is = subst (λ (l : LogView). IsBatchOf l c.requires.batch.0 c.args.batch) (sym c.self.view_is) c.requires.batch.1 in
    let front = c.self.inside.waiting.items ++ c.requires.batch.0 in
    (front, subst (λ (b : List ℕ). IsBatchAt c.self.inside.gate front b) (sym c.deref.ensures.value) is.batch)

pub returns-in-Whole-clause-forced : goal.returns-in-Whole-clause-forced
returns-in-Whole-clause-forced g c =
    let log : LogView = record { node = c.self.inside.node; version = c.self.inside.version; current = c.self.inside.current; spare = c.self.inside.spare; gate = c.self.inside.gate; generation = c.self.inside.generation; waiting = c.self.inside.waiting.items; stop = c.self.inside.stop } in
    let after : LogView = record { node = c.self.inside.node; version = c.self.inside.version; current = c.lay.new.disk; spare = c.self.inside.spare; gate = c.in-Whole.next; generation = c.self.inside.generation; waiting = c.clear.new.self.items; stop = c.lay.new.stop } in
    let latest = subst (λ (l : LogView). l.version ≡ newest) (sym c.self.view_is) c.requires.newest in
    let tidy : IsTidy log after = record { node = refl; version = refl; spot = c.lay.ensures.spot; spare = refl; generation = refl; waiting = c.clear.ensures.items; disarmed = c.in_ok-ending.ensures.disarmed; still = c.in_ok-ending.ensures.stable } in
    subst (λ (l : LogView). (more : List Record) (items : List (ℕ × Record)) → IsBatchOf l more c.args.batch → IsLive l items → IsForced l items (l.waiting ++ more) after (Ok c.args.batch.told)) c.self.view_is
    (λ more items is live.
    let front = c.self.inside.waiting.items ++ more in
    let laid = subst (λ (b : List ℕ). IsBatchAt c.self.inside.gate front b) (sym c.deref.ensures.value) is.batch in
    let ended = subst (λ (e : Ending). IsEnding e c.self.inside.stop c.lay.new.disk c.self.inside.gate items front) c.in-Whole.is (c.in_ok-ending.ensures.ended front items laid (ends_newest log items latest live)) in
    whole log after latest items front front c.self.inside.stop c.args.batch.told refl refl is.told tidy live ended)

pub returns-clause-forced : goal.returns-clause-forced
returns-clause-forced g c =
    let log : LogView = record { node = c.self.inside.node; version = c.self.inside.version; current = c.self.inside.current; spare = c.self.inside.spare; gate = c.self.inside.gate; generation = c.self.inside.generation; waiting = c.self.inside.waiting.items; stop = c.self.inside.stop } in
    let after : LogView = record { node = c.self.inside.node; version = c.self.inside.version; current = c.lay.new.disk; spare = c.self.inside.spare; gate = c.in-Stopped.next; generation = c.self.inside.generation; waiting = c.clear.new.self.items; stop = c.lay.new.stop } in
    let latest = subst (λ (l : LogView). l.version ≡ newest) (sym c.self.view_is) c.requires.newest in
    let tidy : IsTidy log after = record { node = refl; version = refl; spot = c.lay.ensures.spot; spare = refl; generation = refl; waiting = c.clear.ensures.items; disarmed = c.in_ok-ending.ensures.disarmed; still = c.in_ok-ending.ensures.stable } in
    subst (λ (l : LogView). (more : List Record) (items : List (ℕ × Record)) → IsBatchOf l more c.args.batch → IsLive l items → IsForced l items (l.waiting ++ more) after (Err (faults.Stopped c.in-Stopped.call c.in-Stopped.stable c.marks_if-marks.result))) c.self.view_is
    (λ more items is live.
    let front = c.self.inside.waiting.items ++ more in
    let laid = subst (λ (b : List ℕ). IsBatchAt c.self.inside.gate front b) (sym c.deref.ensures.value) is.batch in
    let ended = subst (λ (e : Ending). IsEnding e c.self.inside.stop c.lay.new.disk c.self.inside.gate items front) c.in-Stopped.is (c.in_ok-ending.ensures.ended front items laid (ends_newest log items latest live)) in
    stopped log after latest items front front c.self.inside.stop c.args.batch.told c.marks_if-marks.result c.in-Stopped.call c.in-Stopped.stable refl refl is.told c.marks_if-marks.ensures tidy live ended)

pub invariant_of-self : goal.invariant_of-self
invariant_of-self g c = (c.self.invariant.0, c.lay.ensures.stop, c.lay.ensures.read, c.self.invariant.3)

pub returns-in-Whole-clause-current : goal.returns-in-Whole-clause-current
returns-in-Whole-clause-current g c =
    let log : LogView = record { node = c.self.inside.node; version = c.self.inside.version; current = c.self.inside.current; spare = c.self.inside.spare; gate = c.self.inside.gate; generation = c.self.inside.generation; waiting = c.self.inside.waiting.items; stop = c.self.inside.stop } in
    let latest = subst (λ (l : LogView). l.version ≡ newest) (sym c.self.view_is) c.requires.newest in
    let held = subst (λ (l : LogView). IsHeld (g.H.Home.seen c.args.home.now) l) (sym c.self.view_is) c.requires.held in
    subst (λ (l : LogView). (more : List Record) (items : List (ℕ × Record)) → IsBatchOf l more c.args.batch → IsOrdered l items → (this that : File) → (g.H.Home.seen c.lay.new.home).file l.current.spot ≡ Some this → (g.H.Home.seen c.lay.new.home).file l.spare.spot ≡ Some that → IsOldCurrent l (next_items true l.gate items (l.waiting ++ more)) this.bytes that.bytes) c.self.view_is
    (λ more items is o.
    let front = c.self.inside.waiting.items ++ more in
    let laid = subst (λ (b : List ℕ). IsBatchAt c.self.inside.gate front b) (sym c.deref.ensures.value) is.batch in
    let ended = subst (λ (e : Ending). IsEnding e c.self.inside.stop c.lay.new.disk c.self.inside.gate items front) c.in-Whole.is (c.in_ok-ending.ensures.ended front items laid (ends_newest log items latest o.live)) in
    forced_current (g.H.Home.seen c.args.home.now) (g.H.Home.seen c.lay.new.home) log held c.in_ok-ending.ensures.rest latest c.lay.new.disk items front true c.in_ok-ending.ensures.agrees c.in_ok-ending.ensures.stable
    ended.2 o)

pub returns-clause-current : goal.returns-clause-current
returns-clause-current g c =
    let log : LogView = record { node = c.self.inside.node; version = c.self.inside.version; current = c.self.inside.current; spare = c.self.inside.spare; gate = c.self.inside.gate; generation = c.self.inside.generation; waiting = c.self.inside.waiting.items; stop = c.self.inside.stop } in
    let latest = subst (λ (l : LogView). l.version ≡ newest) (sym c.self.view_is) c.requires.newest in
    let held = subst (λ (l : LogView). IsHeld (g.H.Home.seen c.args.home.now) l) (sym c.self.view_is) c.requires.held in
    subst (λ (l : LogView). (more : List Record) (items : List (ℕ × Record)) → IsBatchOf l more c.args.batch → IsOrdered l items → (this that : File) → (g.H.Home.seen c.lay.new.home).file l.current.spot ≡ Some this → (g.H.Home.seen c.lay.new.home).file l.spare.spot ≡ Some that → IsOldCurrent l (next_items c.in-Stopped.stable l.gate items (l.waiting ++ more)) this.bytes that.bytes) c.self.view_is
    (λ more items is o.
    let front = c.self.inside.waiting.items ++ more in
    let laid = subst (λ (b : List ℕ). IsBatchAt c.self.inside.gate front b) (sym c.deref.ensures.value) is.batch in
    let ended = subst (λ (e : Ending). IsEnding e c.self.inside.stop c.lay.new.disk c.self.inside.gate items front) c.in-Stopped.is (c.in_ok-ending.ensures.ended front items laid (ends_newest log items latest o.live)) in
    forced_current (g.H.Home.seen c.args.home.now) (g.H.Home.seen c.lay.new.home) log held c.in_ok-ending.ensures.rest latest c.lay.new.disk items front c.in-Stopped.stable c.in_ok-ending.ensures.agrees c.in_ok-ending.ensures.stable
    ended.4 o)

pub returns-in_err-ending-clause-current : goal.returns-in_err-ending-clause-current
returns-in_err-ending-clause-current g c =
    let log : LogView = record { node = c.self.inside.node; version = c.self.inside.version; current = c.self.inside.current; spare = c.self.inside.spare; gate = c.self.inside.gate; generation = c.self.inside.generation; waiting = c.self.inside.waiting.items; stop = c.self.inside.stop } in
    let latest = subst (λ (l : LogView). l.version ≡ newest) (sym c.self.view_is) c.requires.newest in
    let held = subst (λ (l : LogView). IsHeld (g.H.Home.seen c.args.home.now) l) (sym c.self.view_is) c.requires.held in
    let e = c.in_err-ending.field-0.0 in
    let is = err_is c.from_residual.result e c.from_residual.ensures.1 in
    subst (λ (r : Result (List Mark) LogFault). (more : List Record) (items : List (ℕ × Record)) → IsBatchOf c.args.self.now more c.args.batch → IsOrdered c.args.self.now items → (this that : File) → (g.H.Home.seen c.lay.new.home).file c.args.self.now.current.spot ≡ Some this → (g.H.Home.seen c.lay.new.home).file c.args.self.now.spare.spot ≡ Some that
    → IsCurrentForced c.args.self.now items (c.args.self.now.waiting ++ more) this.bytes that.bytes r) (sym is)
    (subst (λ (l : LogView). (more : List Record) (items : List (ℕ × Record)) → IsBatchOf l more c.args.batch → IsOrdered l items → (this that : File) → (g.H.Home.seen c.lay.new.home).file l.current.spot ≡ Some this → (g.H.Home.seen c.lay.new.home).file l.spare.spot ≡ Some that → IsCurrentForced l items (l.waiting ++ more) this.bytes that.bytes (Err e)) c.self.view_is
    (λ more items laid o.
    let front = c.self.inside.waiting.items ++ more in
    let at = subst (λ (b : List ℕ). IsBatchAt c.self.inside.gate front b) (sym c.deref.ensures.value) laid.batch in
    force_faulted (g.H.Home.seen c.args.home.now) (g.H.Home.seen c.lay.new.home) log held c.in_err-ending.ensures.rest latest items front e (device_append log.current.spot e c.in_err-ending.ensures.faults)
    (λ f told. c.in_err-ending.ensures.told front items at (ends_newest log items latest o.live) f told)
    (λ h. absurd (device_full log.current.spot e c.in_err-ending.ensures.faults h)) (λ h f told. c.lay.ensures.memory items (ends_newest log items latest o.live) (c.in_err-ending.was ∙ ap Err h) f told) o))
