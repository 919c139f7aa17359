use Rattle.std.proofs.Common.{◌≡◌, [], ◌∷◌, ℕ, List, sym, ap, subst, ◌∙◌, inr, true}
use Rattle.std.specs.Prelude.{Some, Result, Ok, Err, if◌then◌else◌}
use Rattle.co_base.specs.declared.mark.Mark.{Mark}
use Rattle.co_outside.specs.Home.{File}
use Rattle.co_outside.specs.declared.spot.Spot.{Spot}
use Rattle.co_record.specs.declared.record.Record.{Record}
use Rattle.co_log.specs.declared.append.Ending.{Ending}
use Rattle.co_log.specs.declared.fault.LogFault.{LogFault}
use Rattle.co_log.specs.declared.fault.LogFault.TheVariants as faults
use Rattle.co_log.specs.Appending.{IsEnding}
use Rattle.co_frame.specs.Gate.{begins_closed}
use Rattle.co_log.specs.LogFile.{OldOrBoth}
use Rattle.co_log.specs.LogView.{LogView, IsHeld, IsLive}
use Rattle.co_log.specs.Current.{IsOrdered, IsCurrentIf, IsCurrentAfter}
use Rattle.co_log.proofs.Currents.{filled_current, faulted_current, err_is, same_err}
use Rattle.co_log.specs.Spare.{IsFilling, filling, filling_mark}
use Rattle.co_log.proofs.Logs.{filled, filled_if}
use Rattle.co_log.proofs.Ordered.{live_open}
use Rattle.co_log.proofs.Unmade.{ends_at_once}
use Rattle.co_log.proofs.Spots.{spare_held}
use Rattle.co_log.proofs.log.Log.write_filling.Goals as goal

pub append-requires-clause-ends : goal.append-requires-clause-ends
append-requires-clause-ends g c = ([], ends_at_once c.self.inside.spare.state.stable (subst (λ (l : LogView). begins_closed l.spare.state.stable ≡ true) (sym c.self.view_is) c.requires.closed))

pub returns-in_err-ending-clause-told : goal.returns-in_err-ending-clause-told
returns-in_err-ending-clause-told g c = inr (λ f told.
    let ends = ends_at_once c.self.inside.spare.state.stable (subst (λ (l : LogView). begins_closed l.spare.state.stable ≡ true) (sym c.self.view_is) c.requires.closed) in
    let told' = subst (λ (s : Spot). (g.H.Home.seen c.append.new.home).file s ≡ Some f) (sym (ap (λ (l : LogView). l.spare.spot) c.self.view_is)) told in
    subst (λ (l : LogView). OldOrBoth f.bytes 0 [] (filling l c.args.items.now)) c.self.view_is (c.in_err-ending.ensures.told [] ends f told'))

pub returns-in-Whole-clause-filling : goal.returns-in-Whole-clause-filling
returns-in-Whole-clause-filling g c =
    let log : LogView = record { node = c.self.inside.node; version = c.self.inside.version; current = c.self.inside.current; spare = c.self.inside.spare; gate = c.self.inside.gate; generation = c.self.inside.generation; waiting = c.self.inside.waiting.items; stop = c.self.inside.stop } in
    let items = c.args.items.now in
    let ends = ends_at_once c.self.inside.spare.state.stable (subst (λ (l : LogView). begins_closed l.spare.state.stable ≡ true) (sym c.self.view_is) c.requires.closed) in
    let ended = subst (λ (e : Ending). IsEnding e c.self.inside.stop c.append.new.disk 0 [] (filling log items)) c.in-Whole.is (c.in_ok-ending.ensures.ended [] ends) in
    let open' = live_open log.version log.current.state.stable log.gate _ (subst (λ (l : LogView). IsLive l c.requires.live.0) (sym c.self.view_is) c.requires.live.1).made (subst (λ (l : LogView). IsLive l c.requires.live.0) (sym c.self.view_is) c.requires.live.1).ends in
    let done = filled log open' c.append.new.disk c.clear.new.self.items c.append.new.stop items c.in-Whole.next c.append.ensures.spot c.clear.ensures.items c.in_ok-ending.ensures.disarmed c.in_ok-ending.ensures.stable ended.1 ended.2 in
    subst (λ (l : LogView). IsFilling l items c.turn.new.self (Ok c.args.mark)) c.self.view_is
    (subst (λ (a : LogView). IsFilling log items a (Ok c.args.mark)) (sym c.turn.ensures.turned) (ended.0, c.requires.mark ∙ ap filling_mark (sym c.self.view_is), done))

pub returns-in-Stopped-clause-filling : goal.returns-in-Stopped-clause-filling
returns-in-Stopped-clause-filling g c =
    let log : LogView = record { node = c.self.inside.node; version = c.self.inside.version; current = c.self.inside.current; spare = c.self.inside.spare; gate = c.self.inside.gate; generation = c.self.inside.generation; waiting = c.self.inside.waiting.items; stop = c.self.inside.stop } in
    let items = c.args.items.now in
    let ends = ends_at_once c.self.inside.spare.state.stable (subst (λ (l : LogView). begins_closed l.spare.state.stable ≡ true) (sym c.self.view_is) c.requires.closed) in
    let ended = subst (λ (e : Ending). IsEnding e c.self.inside.stop c.append.new.disk 0 [] (filling log items)) c.in-Stopped.is (c.in_ok-ending.ensures.ended [] ends) in
    let open' = live_open log.version log.current.state.stable log.gate _ (subst (λ (l : LogView). IsLive l c.requires.live.0) (sym c.self.view_is) c.requires.live.1).made (subst (λ (l : LogView). IsLive l c.requires.live.0) (sym c.self.view_is) c.requires.live.1).ends in
    let done = filled_if c.in-Stopped.stable log open' c.append.new.disk c.clear.new.self.items c.append.new.stop items c.in-Stopped.next c.append.ensures.spot c.clear.ensures.items c.in_ok-ending.ensures.disarmed c.in_ok-ending.ensures.stable ended.3 ended.4 in
    subst (λ (l : LogView). IsFilling l items c.turn_if.new.self (Err (faults.Stopped c.in-Stopped.call c.in-Stopped.stable c.marks_if-marks.result))) c.self.view_is
    (subst (λ (a : LogView). IsFilling log items a (Err (faults.Stopped c.in-Stopped.call c.in-Stopped.stable c.marks_if-marks.result))) (sym c.turn_if.ensures.turned)
    (ended.0, ended.1, ended.2, c.marks_if-marks.ensures ∙ ap (λ (m : List Mark). if c.in-Stopped.stable then m else []) (c.requires.marks ∙ ap (λ (m : Mark). m ∷ []) (c.requires.mark ∙ ap filling_mark (sym c.self.view_is))), done))

pub returns-in_err-ending-clause-current : goal.returns-in_err-ending-clause-current
returns-in_err-ending-clause-current g c =
    let log : LogView = record { node = c.self.inside.node; version = c.self.inside.version; current = c.self.inside.current; spare = c.self.inside.spare; gate = c.self.inside.gate; generation = c.self.inside.generation; waiting = c.self.inside.waiting.items; stop = c.self.inside.stop } in
    let items = c.args.items.now in
    let closed = subst (λ (l : LogView). begins_closed l.spare.state.stable ≡ true) (sym c.self.view_is) c.requires.closed in
    let ends = ends_at_once c.self.inside.spare.state.stable closed in
    let still = subst (λ (l : LogView). l.spare.state.pending ≡ []) (sym c.self.view_is) c.requires.still in
    let held = subst (λ (l : LogView). IsHeld (g.H.Home.seen c.args.home.now) l) (sym c.self.view_is) c.requires.held in
    let e = c.in_err-ending.field-0.0 in
    let is = err_is c.from_residual.result e c.from_residual.ensures.1 in
    subst (λ (r : Result Mark LogFault). (kept : List (ℕ × Record)) → IsOrdered c.args.self.now kept → (this that : File) → (g.H.Home.seen c.append.new.home).file c.args.self.now.current.spot ≡ Some this → (g.H.Home.seen c.append.new.home).file c.args.self.now.spare.spot ≡ Some that
    → IsCurrentAfter c.args.self.now kept items this.bytes that.bytes r) (sym is)
    (subst (λ (l : LogView). (kept : List (ℕ × Record)) → IsOrdered l kept → (this that : File) → (g.H.Home.seen c.append.new.home).file l.current.spot ≡ Some this → (g.H.Home.seen c.append.new.home).file l.spare.spot ≡ Some that → IsCurrentAfter l kept items this.bytes that.bytes (Err e)) c.self.view_is
    (faulted_current (g.H.Home.seen c.args.home.now) (g.H.Home.seen c.append.new.home) log items e held still closed c.in_err-ending.ensures.rest c.in_err-ending.ensures.faults (λ f told. c.in_err-ending.ensures.told [] ends f told)
    (λ h. ap g.H.Home.seen (c.append.ensures.untouched (c.append.ensures.full (c.in_err-ending.was ∙ ap Err h))).2) (λ h f told. c.append.ensures.memory [] ends (c.in_err-ending.was ∙ ap Err h) f told)))

pub returns-in_err-ending-clause-memory : goal.returns-in_err-ending-clause-memory
returns-in_err-ending-clause-memory g c = λ is f told.
    let ends = ends_at_once c.self.inside.spare.state.stable (subst (λ (l : LogView). begins_closed l.spare.state.stable ≡ true) (sym c.self.view_is) c.requires.closed) in
    let told' = subst (λ (s : Spot). (g.H.Home.seen c.append.new.home).file s ≡ Some f) (sym (ap (λ (l : LogView). l.spare.spot) c.self.view_is)) told in
    c.append.ensures.memory [] ends (c.in_err-ending.was ∙ ap Err (same_err c.from_residual.result c.in_err-ending.field-0.0 faults.Memory c.from_residual.ensures.1 is)) f told'

pub invariant_of-self : goal.invariant_of-self
invariant_of-self g c = (c.self.invariant.0, c.append.ensures.stop, c.self.invariant.2, c.append.ensures.read)

pub returns-in-Whole-clause-current : goal.returns-in-Whole-clause-current
returns-in-Whole-clause-current g c =
    let log : LogView = record { node = c.self.inside.node; version = c.self.inside.version; current = c.self.inside.current; spare = c.self.inside.spare; gate = c.self.inside.gate; generation = c.self.inside.generation; waiting = c.self.inside.waiting.items; stop = c.self.inside.stop } in
    let items = c.args.items.now in
    let ends = ends_at_once c.self.inside.spare.state.stable (subst (λ (l : LogView). begins_closed l.spare.state.stable ≡ true) (sym c.self.view_is) c.requires.closed) in
    let ended = subst (λ (e : Ending). IsEnding e c.self.inside.stop c.append.new.disk 0 [] (filling log items)) c.in-Whole.is (c.in_ok-ending.ensures.ended [] ends) in
    let held = subst (λ (l : LogView). IsHeld (g.H.Home.seen c.args.home.now) l) (sym c.self.view_is) c.requires.held in
    subst (λ (l : LogView). (kept : List (ℕ × Record)) → IsOrdered l kept → (this that : File) → (g.H.Home.seen c.append.new.home).file l.current.spot ≡ Some this → (g.H.Home.seen c.append.new.home).file l.spare.spot ≡ Some that → IsCurrentIf true l kept items this.bytes that.bytes) c.self.view_is
    (filled_current (g.H.Home.seen c.args.home.now) (g.H.Home.seen c.append.new.home) log c.append.new.disk items true held c.in_ok-ending.ensures.rest c.in_ok-ending.ensures.agrees c.in_ok-ending.ensures.stable ended.2)

pub returns-in-Stopped-clause-current : goal.returns-in-Stopped-clause-current
returns-in-Stopped-clause-current g c =
    let log : LogView = record { node = c.self.inside.node; version = c.self.inside.version; current = c.self.inside.current; spare = c.self.inside.spare; gate = c.self.inside.gate; generation = c.self.inside.generation; waiting = c.self.inside.waiting.items; stop = c.self.inside.stop } in
    let items = c.args.items.now in
    let ends = ends_at_once c.self.inside.spare.state.stable (subst (λ (l : LogView). begins_closed l.spare.state.stable ≡ true) (sym c.self.view_is) c.requires.closed) in
    let ended = subst (λ (e : Ending). IsEnding e c.self.inside.stop c.append.new.disk 0 [] (filling log items)) c.in-Stopped.is (c.in_ok-ending.ensures.ended [] ends) in
    let held = subst (λ (l : LogView). IsHeld (g.H.Home.seen c.args.home.now) l) (sym c.self.view_is) c.requires.held in
    subst (λ (l : LogView). (kept : List (ℕ × Record)) → IsOrdered l kept → (this that : File) → (g.H.Home.seen c.append.new.home).file l.current.spot ≡ Some this → (g.H.Home.seen c.append.new.home).file l.spare.spot ≡ Some that → IsCurrentIf c.in-Stopped.stable l kept items this.bytes that.bytes) c.self.view_is
    (filled_current (g.H.Home.seen c.args.home.now) (g.H.Home.seen c.append.new.home) log c.append.new.disk items c.in-Stopped.stable held c.in_ok-ending.ensures.rest c.in_ok-ending.ensures.agrees c.in_ok-ending.ensures.stable ended.4)

pub returns-in-Whole-clause-held : goal.returns-in-Whole-clause-held
returns-in-Whole-clause-held g c = λ done.
    let log : LogView = record { node = c.self.inside.node; version = c.self.inside.version; current = c.self.inside.current; spare = c.self.inside.spare; gate = c.self.inside.gate; generation = c.self.inside.generation; waiting = c.self.inside.waiting.items; stop = c.self.inside.stop } in
    let held = subst (λ (l : LogView). IsHeld (g.H.Home.seen c.args.home.now) l) (sym c.self.view_is) c.requires.held in
    c.turn.ensures.held (g.H.Home.seen c.append.new.home)
    (spare_held (g.H.Home.seen c.args.home.now) (g.H.Home.seen c.append.new.home) log c.append.new.disk c.clear.new.self.items c.append.new.stop held c.append.ensures.spot c.in_ok-ending.ensures.rest c.in_ok-ending.ensures.agrees)

pub returns-in-Stopped-clause-held : goal.returns-in-Stopped-clause-held
returns-in-Stopped-clause-held g c = λ done.
    let log : LogView = record { node = c.self.inside.node; version = c.self.inside.version; current = c.self.inside.current; spare = c.self.inside.spare; gate = c.self.inside.gate; generation = c.self.inside.generation; waiting = c.self.inside.waiting.items; stop = c.self.inside.stop } in
    let held = subst (λ (l : LogView). IsHeld (g.H.Home.seen c.args.home.now) l) (sym c.self.view_is) c.requires.held in
    c.turn_if.ensures.held (g.H.Home.seen c.append.new.home)
    (spare_held (g.H.Home.seen c.args.home.now) (g.H.Home.seen c.append.new.home) log c.append.new.disk c.clear.new.self.items c.append.new.stop held c.append.ensures.spot c.in_ok-ending.ensures.rest c.in_ok-ending.ensures.agrees)
