use Rattle.std.proofs.Common.{◌≡◌, length, ◌∙◌, ◌++◌, List, ℕ, Option, Some, Ok, Err, refl, sym, ap, subst}
use Rattle.std.specs.Prelude.{IfErr}
use Rattle.co_message.specs.declared.item.Item.{Item}
use Rattle.co_plain.specs.Opening.{opened}
use Rattle.co_schedule.specs.Lines.{ahead}
use Rattle.co_top.specs.Heads.{IsReadStatus, IsEnding}
use Rattle.co_top.specs.Played.{StaysReady, IsOver}
use Rattle.co_top.specs.Ran.{IsEventFault, IsRunEnd, NoHead, Unopened}
use Rattle.co_top.specs.Running.{IsBetween}
use Rattle.co_top.specs.Telling.{HasEnded}
use Rattle.co_base.specs.declared.head.Head.{Head}
use Rattle.co_opening.specs.Rest.{OnlyOwnFilesChange}
use Rattle.co_outside.specs.declared.spot.Spot.{Spot}
use Rattle.co_top.specs.Replayed.{status_of, opening_text, IsOpeningTold}
use Rattle.co_top.specs.declared.status.Status.TheVariants as status
use Rattle.co_top.proofs.Ending.{over, opening_over, opening_ends, over_ends, played_out, same_error, err_inner, ended_quiet, failed_as}
use Rattle.co_top.proofs.Laws.{ready}
use Rattle.co_top.proofs.Plays.{err_is, not_err, refused_between}
use Rattle.co_top.proofs.replay.replay_to_end.Goals as goal

pub returns-in_err-lines-clause-write : goal.returns-in_err-lines-clause-write
returns-in_err-lines-clause-write g c = λ h.
    absurd (subst (λ o. IfErr o IsReadStatus) h (subst (λ o. IfErr o IsReadStatus) (sym (err_is c.from_residual.result c.in_err-lines.field-0.0 c.from_residual.ensures)) c.in_err-lines.ensures.own))

pub returns-in_err-lines-clause-device : goal.returns-in_err-lines-clause-device
returns-in_err-lines-clause-device g c = λ spot h.
    absurd (subst (λ o. IfErr o IsReadStatus) h (subst (λ o. IfErr o IsReadStatus) (sym (err_is c.from_residual.result c.in_err-lines.field-0.0 c.from_residual.ensures)) c.in_err-lines.ensures.own))

pub returns-in_err-lines-clause-end : goal.returns-in_err-lines-clause-end
returns-in_err-lines-clause-end g c = λ input held l t.
    subst (λ o. IsRunEnd g.H.Home.seen c.args.resume input (g.S.Source.left c.read_first.new.source) held (g.K.Sink.told c.args.out.now) c.args.home.now c.args.home.now (status_of o))
    (sym (err_is c.from_residual.result c.in_err-lines.field-0.0 c.from_residual.ensures)) (NoHead (t, c.in_err-lines.ensures.streamed input l) refl (c.in_err-lines.ensures.fault input l))

pub returns-in_err-world-clause-end : goal.returns-in_err-world-clause-end
returns-in_err-world-clause-end g c = λ input held l t.
    let read = c.in_ok-lines.ensures.read input l in
    subst (λ o. IsRunEnd g.H.Home.seen c.args.resume input (g.S.Source.left c.read_first.new.source) held (g.K.Sink.told c.args.out.now) c.args.home.now c.open.new.home (status_of o))
    (sym (err_is c.from_residual-in_err-world.result c.in_err-world.field-0.0 c.from_residual-in_err-world.ensures))
    (Unopened (t, c.in_ok-lines.ensures.streamed input l)
    (record { head = c.in_ok-lines.head; text = read.0; headed = read.1; cause = c.in_err-world.ensures.refused; untouched = c.in_err-world.ensures.untouched; left = c.open.ensures.made }))

pub returns-in_err-world-clause-others : goal.returns-in_err-world-clause-others
returns-in_err-world-clause-others g c = λ input l s apart. let read = c.in_ok-lines.ensures.read input l in c.open.ensures.made.own.others s (λ own. apart c.in_ok-lines.head read.0 read.1 own)

pub returns-in_err-world-clause-clean : goal.returns-in_err-world-clause-clean
returns-in_err-world-clause-clean g c = λ between s was.
    let is = err_is c.from_residual-in_err-world.result c.in_err-world.field-0.0 c.from_residual-in_err-world.ensures in
    let of = refused_between (g.H.Home.seen c.args.home.now).file c.in_ok-lines.head c.args.resume c.in_err-world.field-0.0 c.in_err-world.ensures.refused (subst (λ o. IsBetween (status_of o)) is between) in
    λ f told. was f (sym (c.in_err-world.ensures.untouched of s) ∙ told)

pub returns-in_err-head-clause-others : goal.returns-in_err-head-clause-others
returns-in_err-head-clause-others g c = λ input l s apart. let read = c.in_ok-lines.ensures.read input l in c.open.ensures.made.own.others s (λ own. apart c.in_ok-lines.head read.0 read.1 own)

pub returns-in_err-head-clause-clean : goal.returns-in_err-head-clause-clean
returns-in_err-head-clause-clean g c = λ between. c.in_ok-world.ensures.clean

pub returns-in_err-head-clause-end : goal.returns-in_err-head-clause-end
returns-in_err-head-clause-end g c = λ input held l t.
    let read = c.in_ok-lines.ensures.read input l in
    subst (λ o. IsRunEnd g.H.Home.seen c.args.resume input (g.S.Source.left c.read_first.new.source) held (g.K.Sink.told c.tell_opening.new.out) c.args.home.now c.open.new.home (status_of o))
    (sym (err_is c.from_residual-in_err-head.result c.in_err-head.field-0.0 c.from_residual-in_err-head.ensures))
    (opening_over g.E.Engine.takes g.E.Engine.stands_for g.H.Home.seen c.args.resume input (g.S.Source.left c.read_first.new.source) (c.in_ok-lines.ensures.streamed input l) held c.args.home.now c.in_ok-lines.head read.0 read.1 c.in_ok-world.world c.in_ok-world.items c.in_ok-world.ensures.opened
    c.open.new.home c.in_ok-world.ensures.held (g.K.Sink.told c.tell_opening.new.out) c.in_err-head.field-0.0
    (subst (λ o. IsOpeningTold c.in_ok-lines.head c.in_ok-world.items o (g.K.Sink.told c.tell_opening.new.out) (Err c.in_err-head.field-0.0)) t
    (subst (λ (xs : List Item). IsOpeningTold c.in_ok-lines.head xs (g.K.Sink.told c.args.out.now) (g.K.Sink.told c.tell_opening.new.out) (Err c.in_err-head.field-0.0)) c.as_slice.ensures c.in_err-head.ensures.told)))

pub replay_lines-requires-clause-stands : goal.replay_lines-requires-clause-stands
replay_lines-requires-clause-stands g c =
    let at = c.in_ok-world.ensures.opened in (
      opened c.in_ok-lines.head.kinds c.in_ok-lines.head.coords at.found_member at.found_coord,
      at.stands,
      subst (λ h. StaysReady h (opened c.in_ok-lines.head.kinds c.in_ok-lines.head.coords at.found_member at.found_coord)) (sym c.in_ok-head.ensures.told.0) (ready c.in_ok-lines.head at.found_member at.found_coord at.may),
    )

pub returns-in_err-head-clause-own : goal.returns-in_err-head-clause-own
returns-in_err-head-clause-own g c =
    subst (λ o. IfErr o IsEnding) (sym (err_is c.from_residual-in_err-head.result c.in_err-head.field-0.0 c.from_residual-in_err-head.ensures))
    (opening_ends c.in_ok-lines.head c.as_slice.result.now (g.K.Sink.told c.args.out.now) (g.K.Sink.told c.tell_opening.new.out) c.in_err-head.field-0.0 c.in_err-head.ensures.told)

pub returns-in_err-head-clause-quiet_sink : goal.returns-in_err-head-clause-quiet_sink
returns-in_err-head-clause-quiet_sink g c = λ other.
    c.in_err-head.ensures.quiet (λ e. other (same_error c.in_err-head.field-0.0 status.Write _ c.from_residual-in_err-head.result e refl (err_is c.from_residual-in_err-head.result c.in_err-head.field-0.0 c.from_residual-in_err-head.ensures)))

-- ---- to the end

pub returns-in-Ok-clause-end : goal.returns-in-Ok-clause-end
returns-in-Ok-clause-end g c = λ input held l t.
    let read = c.in_ok-lines.ensures.read input l in
    let head = c.in_ok-lines.head in
    let items : List Item = c.in_ok-world.items in
    let at = c.in_ok-world.ensures.opened in
    let s0 = opened head.kinds head.coords at.found_member at.found_coord in
    let home = g.H.Home.seen c.replay_lines.new.home in
    let world = c.replay_lines.new.world in
    let over_at = IsOver g.E.Engine.takes g.E.Engine.stands_for in
    let out = g.K.Sink.told c.replay_lines.new.out in
    let left = g.S.Source.left c.replay_lines.new.source in
    let stays : StaysReady c.in_ok-head.head s0 = subst (λ h. StaysReady h s0) (sym c.in_ok-head.ensures.told.0) (ready head at.found_member at.found_coord at.may) in
    let put : g.K.Sink.told c.tell_opening.new.out ≡ Some (held ++ opening_text head items) =
    c.in_ok-head.ensures.told.1 held t ∙ ap (λ (xs : List Item). Some (held ++ opening_text head xs)) c.as_slice.ensures in
    over g.E.Engine.takes g.E.Engine.stands_for g.H.Home.seen c.args.resume input held c.args.home.now head read.0 read.1 c.in_ok-world.world items at left out c.replay_lines.new.home world (Ok c.in-Ok.number)
    (λ spot place kept got e. absurd (not_err _ _ e))
    (subst (λ (m : Option (List ℕ)). over_at head s0 (Some read.0) left m out home world (Ok c.in-Ok.number)) put
    (subst (λ (a : Option (List ℕ)). over_at head s0 a left (g.K.Sink.told c.tell_opening.new.out) out home world (Ok c.in-Ok.number)) read.2
    (subst (λ h. over_at h s0 (ahead c.in_ok-lines.lines (g.S.Source.left c.read_first.new.source)) left (g.K.Sink.told c.tell_opening.new.out) out home world (Ok c.in-Ok.number))
    c.in_ok-head.ensures.told.0 (c.in-Ok.ensures.over s0 at.stands stays))))

pub returns-in-Ok-clause-reached : goal.returns-in-Ok-clause-reached
returns-in-Ok-clause-reached g c =
    let head = c.in_ok-lines.head in
    let items : List Item = c.in_ok-world.items in
    let at = c.in_ok-world.ensures.opened in
    let s0 = opened head.kinds head.coords at.found_member at.found_coord in
    let home = g.H.Home.seen c.replay_lines.new.home in
    let world = c.replay_lines.new.world in
    let out = g.K.Sink.told c.replay_lines.new.out in
    let mid = g.K.Sink.told c.tell_opening.new.out in
    let left = g.S.Source.left c.replay_lines.new.source in
    let text = ahead c.in_ok-lines.lines (g.S.Source.left c.read_first.new.source) in
    let stays : StaysReady c.in_ok-head.head s0 = subst (λ h. StaysReady h s0) (sym c.in_ok-head.ensures.told.0) (ready head at.found_member at.found_coord at.may) in
    played_out g.E.Engine.takes g.E.Engine.stands_for g.H.Home.seen c.args.resume c.args.home.now head c.in_ok-world.world items at (g.S.Source.left c.args.source.now) text left (g.K.Sink.told c.args.out.now) mid out home _
    (λ input l. c.in_ok-lines.ensures.read input l)
    (λ h t. c.in_ok-head.ensures.told.1 h t ∙ ap (λ (xs : List Item). Some (h ++ opening_text head xs)) c.as_slice.ensures)
    (λ spot none. c.open.ensures.made.own.told spot (c.replay_lines.ensures.rest.files.told spot none))
    (c.len.ensures ∙ ap (λ (h : Head). length h.kinds) c.in_ok-head.ensures.told.0) c.in-Ok.ensures.few
    (subst (λ h. IsOver g.E.Engine.takes g.E.Engine.stands_for h s0 text left mid out home world (Ok c.in-Ok.number)) c.in_ok-head.ensures.told.0 (c.in-Ok.ensures.over s0 at.stands stays))

pub returns-in-Ok-clause-entered : goal.returns-in-Ok-clause-entered
returns-in-Ok-clause-entered g c = c.replay_lines.ensures.rest.directory ∙ c.in_ok-world.ensures.entered

pub returns-in-Ok-clause-quiet_source : goal.returns-in-Ok-clause-quiet_source
returns-in-Ok-clause-quiet_source g c = λ other. c.in-Ok.ensures.quiet_source (λ e. not_err _ status.Read e) ∙ c.in_ok-lines.ensures.quiet (λ e. not_err _ status.Read e)

pub returns-in-Ok-clause-quiet_sink : goal.returns-in-Ok-clause-quiet_sink
returns-in-Ok-clause-quiet_sink g c = λ other. c.in-Ok.ensures.quiet_sink (λ e. not_err _ status.Write e) ∙ c.in_ok-head.ensures.quiet (λ e. not_err _ status.Write e)

pub returns-in-Ok-clause-quiet_home : goal.returns-in-Ok-clause-quiet_home
returns-in-Ok-clause-quiet_home g c = λ other. c.in-Ok.ensures.ended ∙ c.in_ok-world.ensures.quiet (λ spot e. not_err _ (status.Device spot) e)

pub returns-in-Ok-clause-clean : goal.returns-in-Ok-clause-clean
returns-in-Ok-clause-clean g c = λ between s was. c.in-Ok.ensures.clean tt s (c.in_ok-world.ensures.clean s was)

pub returns-in-Ok-clause-others : goal.returns-in-Ok-clause-others
returns-in-Ok-clause-others g c = λ input l s apart.
    let read = c.in_ok-lines.ensures.read input l in
    let rest = subst (λ (h : Head). OnlyOwnFilesChange (length h.kinds) h.coords (g.H.Home.seen c.open.new.home) (g.H.Home.seen c.replay_lines.new.home)) c.in_ok-head.ensures.told.0 c.replay_lines.ensures.rest in
    rest.files.others s (λ own. apart c.in_ok-lines.head read.0 read.1 own) ∙ c.open.ensures.made.own.others s (λ own. apart c.in_ok-lines.head read.0 read.1 own)

-- ---- what ended it before

pub returns-clause-own : goal.returns-clause-own
returns-clause-own g c =
    let at = c.in_ok-world.ensures.opened in
    let s0 = opened c.in_ok-lines.head.kinds c.in_ok-lines.head.coords at.found_member at.found_coord in
    let stays : StaysReady c.in_ok-head.head s0 = subst (λ h. StaysReady h s0) (sym c.in_ok-head.ensures.told.0) (ready c.in_ok-lines.head at.found_member at.found_coord at.may) in
    over_ends g.E.Engine.takes g.E.Engine.stands_for c.in_ok-head.head s0 _ _ _ _ _ c.replay_lines.new.world (Err c.in-Err.status) (c.in-Err.ensures.over s0 at.stands stays)

pub returns-clause-end : goal.returns-clause-end
returns-clause-end g c = λ input held l t.
    let read = c.in_ok-lines.ensures.read input l in
    let head = c.in_ok-lines.head in
    let items : List Item = c.in_ok-world.items in
    let at = c.in_ok-world.ensures.opened in
    let s0 = opened head.kinds head.coords at.found_member at.found_coord in
    let home = g.H.Home.seen c.replay_lines.new.home in
    let world = c.replay_lines.new.world in
    let over_at = IsOver g.E.Engine.takes g.E.Engine.stands_for in
    let out = g.K.Sink.told c.replay_lines.new.out in
    let left = g.S.Source.left c.replay_lines.new.source in
    let stays : StaysReady c.in_ok-head.head s0 = subst (λ h. StaysReady h s0) (sym c.in_ok-head.ensures.told.0) (ready head at.found_member at.found_coord at.may) in
    let put : g.K.Sink.told c.tell_opening.new.out ≡ Some (held ++ opening_text head items) =
    c.in_ok-head.ensures.told.1 held t ∙ ap (λ (xs : List Item). Some (held ++ opening_text head xs)) c.as_slice.ensures in
    let differs : (spot : Spot) (place : ℕ) (kept got : Option ℕ) → Err c.in-Err.status ≡ Err (status.Differs spot place kept got) → IsEventFault (g.H.Home.seen c.args.home.now).file (status.Differs spot place kept got) =
    λ spot place kept got e.
    let h : HasEnded (g.H.Home.seen c.open.new.home) home (status.Differs spot place kept got) = subst (λ o. HasEnded (g.H.Home.seen c.open.new.home) home (status_of o)) e c.in-Err.ensures.ended in
    (c.open.ensures.made.own.told spot h.1, h.2) in
    over g.E.Engine.takes g.E.Engine.stands_for g.H.Home.seen c.args.resume input held c.args.home.now head read.0 read.1 c.in_ok-world.world items at left out c.replay_lines.new.home world (Err c.in-Err.status) differs
    (subst (λ (m : Option (List ℕ)). over_at head s0 (Some read.0) left m out home world (Err c.in-Err.status)) put
    (subst (λ (a : Option (List ℕ)). over_at head s0 a left (g.K.Sink.told c.tell_opening.new.out) out home world (Err c.in-Err.status)) read.2
    (subst (λ h. over_at h s0 (ahead c.in_ok-lines.lines (g.S.Source.left c.read_first.new.source)) left (g.K.Sink.told c.tell_opening.new.out) out home world (Err c.in-Err.status))
    c.in_ok-head.ensures.told.0 (c.in-Err.ensures.over s0 at.stands stays))))

pub returns-clause-device : goal.returns-clause-device
returns-clause-device g c = λ spot h.
    let f =
    failed_as (g.H.Home.seen c.open.new.home) (g.H.Home.seen c.replay_lines.new.home) (g.H.Home.seen c.args.home.now).faults c.in-Err.status spot
    (c.in_ok-world.ensures.quiet (λ spot_of e. not_err _ (status.Device spot_of) e)) c.in-Err.ensures.ended (err_inner _ _ _ refl h) in
    record { count = f.0; named = f.1 }

pub returns-clause-quiet_source : goal.returns-clause-quiet_source
returns-clause-quiet_source g c = λ other. c.in-Err.ensures.quiet_source (λ e. other (same_error c.in-Err.status _ _ _ e refl refl)) ∙ c.in_ok-lines.ensures.quiet (λ e. not_err _ status.Read e)

pub returns-clause-quiet_sink : goal.returns-clause-quiet_sink
returns-clause-quiet_sink g c = λ other. c.in-Err.ensures.quiet_sink (λ e. other (same_error c.in-Err.status _ _ _ e refl refl)) ∙ c.in_ok-head.ensures.quiet (λ e. not_err _ status.Write e)

pub returns-clause-quiet_home : goal.returns-clause-quiet_home
returns-clause-quiet_home g c = λ other.
    ended_quiet (g.H.Home.seen c.open.new.home) (g.H.Home.seen c.replay_lines.new.home) c.in-Err.status c.in-Err.ensures.ended (λ spot e. other spot (ap Err e))
    ∙ c.in_ok-world.ensures.quiet (λ spot e. not_err _ (status.Device spot) e)

pub returns-clause-clean : goal.returns-clause-clean
returns-clause-clean g c = λ between s was. c.in-Err.ensures.clean between s (c.in_ok-world.ensures.clean s was)

pub returns-clause-others : goal.returns-clause-others
returns-clause-others g c = λ input l s apart.
    let read = c.in_ok-lines.ensures.read input l in
    let rest = subst (λ (h : Head). OnlyOwnFilesChange (length h.kinds) h.coords (g.H.Home.seen c.open.new.home) (g.H.Home.seen c.replay_lines.new.home)) c.in_ok-head.ensures.told.0 c.replay_lines.ensures.rest in
    rest.files.others s (λ own. apart c.in_ok-lines.head read.0 read.1 own) ∙ c.open.ensures.made.own.others s (λ own. apart c.in_ok-lines.head read.0 read.1 own)
