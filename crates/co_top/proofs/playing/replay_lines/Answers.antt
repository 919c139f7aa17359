use Rattle.std.proofs.Common.{◌≡◌, ◌∙◌, [], Some, Ok, Err, refl, sym, ap, subst, append-nil, length}
use Rattle.co_plain.specs.Runs.{run, lines}
use Rattle.co_schedule.specs.Lines.{ahead}
use Rattle.co_top.specs.Front.{AtStart}
use Rattle.co_top.specs.Heads.{IsEventRead}
use Rattle.co_top.specs.Played.{IsOver}
use Rattle.co_opening.proofs.Rests.{unchanged, changes_on}
use Rattle.co_top.specs.Replayed.{status_of}
use Rattle.co_top.specs.Running.{IsBetween}
use Rattle.co_top.specs.Telling.{IsToldOf, HasEnded}
use Rattle.co_top.specs.declared.status.Status.TheVariants as status
use Rattle.co_top.proofs.Plays.{plays_out, plays_on, reads_over, read_behind, told_over, err_is, head_changes, ended_behind, read_ended}
use Rattle.co_top.proofs.playing.replay_lines.Goals as goal

pub loop-number-init : goal.loop-number-init
loop-number-init g c = (
  λ s0 r ready.
      record {
        done = record { events = []; valid = tt; left = λ t e. (t, AtStart t); whole = λ h e. e ∙ ap Some (sym (append-nil h)) };
        stands = record { stands = r; held = c.requires.held };
        counted = refl;
        read = c.requires.read;
        is_left = λ t e. e;
      },
  unchanged _ _ _,
  refl,
  refl,
  refl,
  λ s clean. clean,
)

pub returns-in_err-event-clause-over : goal.returns-in_err-event-clause-over
returns-in_err-event-clause-over g c = λ s0 r ready.
    let p = c.loop-number.invariant.0 s0 r ready in
    let text = ahead c.args.lines.now (g.S.Source.left c.args.source.now) in
    let home = g.H.Home.seen c.loop-number.home in
    subst (IsOver g.E.Engine.takes g.E.Engine.stands_for c.args.head.now s0 text (g.S.Source.left c.event_of.new.source) (g.K.Sink.told c.args.out.now) (g.K.Sink.told c.loop-number.out) home c.loop-number.world)
    (sym (err_is c.from_residual.result c.in_err-event.field-0.0 c.from_residual.ensures))
    (reads_over g.E.Engine.takes g.E.Engine.stands_for c.args.head.now s0 text (g.K.Sink.told c.args.out.now) (g.K.Sink.told c.loop-number.out) home c.loop-number.world c.loop-number.number c.loop-number.lines
    (ahead c.loop-number.lines (g.S.Source.left c.loop-number.source)) p (g.S.Source.left c.event_of.new.source) (λ t q. c.in_err-event.ensures.streamed (p.done.left t q).0 (p.is_left t q)) c.in_err-event.field-0.0
    (ahead c.event_of.new.lines (g.S.Source.left c.event_of.new.source)) c.in_err-event.ensures.own (λ t e. c.in_err-event.ensures.read (length p.done.events) t p.counted e))

pub tell_event-requires-clause-stands : goal.tell_event-requires-clause-stands
tell_event-requires-clause-stands g c =
    let w = c.requires.stands in
    let p = c.loop-number.invariant.0 w.0 w.1 w.2 in
    (run (lines p.done.events) w.0, p.stands.stands, (w.2 p.done.events p.done.valid).ready)

pub returns-in_err-tell_event-in-Some-clause-over : goal.returns-in_err-tell_event-in-Some-clause-over
returns-in_err-tell_event-in-Some-clause-over g c = λ s0 r ready.
    let p = c.loop-number.invariant.0 s0 r ready in
    let text = ahead c.args.lines.now (g.S.Source.left c.args.source.now) in
    let home = g.H.Home.seen c.tell_event.new.home in
    let z = run (lines p.done.events) s0 in
    let left = ahead c.event_of.new.lines (g.S.Source.left c.event_of.new.source) in
    let line = rw c.in-Some.is at c.in_ok-event.ensures.valid in
    let read =
    read_behind g.E.Engine.takes g.E.Engine.stands_for c.args.head.now s0 text (g.K.Sink.told c.args.out.now) (g.K.Sink.told c.loop-number.out) _ c.loop-number.world c.loop-number.number c.loop-number.lines
    (ahead c.loop-number.lines (g.S.Source.left c.loop-number.source)) p c.in-Some.event left
    (λ t e. subst (λ o. IsEventRead c.args.head.now (length p.done.events) t left (Ok o)) c.in-Some.is (c.in_ok-event.ensures.read (length p.done.events) t p.counted e)) in
    subst (IsOver g.E.Engine.takes g.E.Engine.stands_for c.args.head.now s0 text (g.S.Source.left c.event_of.new.source) (g.K.Sink.told c.args.out.now) (g.K.Sink.told c.tell_event.new.out) home c.tell_event.new.world)
    (sym (err_is c.from_residual-in_err-tell_event-in-Some.result c.in_err-tell_event-in-Some.field-0.0 c.from_residual-in_err-tell_event-in-Some.ensures))
    (told_over c.args.head.now s0 text (g.K.Sink.told c.args.out.now) (g.K.Sink.told c.loop-number.out) p.done c.in-Some.event line left read g.E.Engine.takes g.E.Engine.stands_for home c.tell_event.new.world
    (g.S.Source.left c.event_of.new.source) (λ t q. c.in_ok-event.ensures.streamed (p.done.left t q).0 (p.is_left t q)) c.in_err-tell_event-in-Some.field-0.0 (g.K.Sink.told c.tell_event.new.out)
    (subst (λ n. IsToldOf g.E.Engine.takes g.E.Engine.stands_for z n c.in-Some.event (g.K.Sink.told c.loop-number.out) (g.K.Sink.told c.tell_event.new.out) home c.tell_event.new.world (Err c.in_err-tell_event-in-Some.field-0.0))
    p.counted (c.in_err-tell_event-in-Some.ensures.told z p.stands.stands (ready p.done.events p.done.valid).ready)))

pub returns-in-None-clause-over : goal.returns-in-None-clause-over
returns-in-None-clause-over g c = λ s0 r ready.
    let p = c.loop-number.invariant.0 s0 r ready in
    let left = ahead c.event_of.new.lines (g.S.Source.left c.event_of.new.source) in
    plays_out g.E.Engine.takes g.E.Engine.stands_for c.args.head.now s0 (ahead c.args.lines.now (g.S.Source.left c.args.source.now)) (g.K.Sink.told c.args.out.now) (g.K.Sink.told c.loop-number.out) _ c.loop-number.world
    c.loop-number.number c.loop-number.lines (ahead c.loop-number.lines (g.S.Source.left c.loop-number.source)) p (g.S.Source.left c.event_of.new.source) (λ t q. c.in_ok-event.ensures.streamed (p.done.left t q).0 (p.is_left t q)) left
    (λ t e. subst (λ o. IsEventRead c.args.head.now (length p.done.events) t left (Ok o)) c.in-None.is (c.in_ok-event.ensures.read (length p.done.events) t p.counted e))

pub loop-number-preserved : goal.loop-number-preserved
loop-number-preserved g c = (
  λ s0 r ready.
      let p = c.loop-number.invariant.0 s0 r ready in
      let text = ahead c.args.lines.now (g.S.Source.left c.args.source.now) in
      let home = g.H.Home.seen c.tell_event.new.home in
      let z = run (lines p.done.events) s0 in
      let left = ahead c.event_of.new.lines (g.S.Source.left c.event_of.new.source) in
      let line = rw c.in-Some.is at c.in_ok-event.ensures.valid in
      let read =
      read_behind g.E.Engine.takes g.E.Engine.stands_for c.args.head.now s0 text (g.K.Sink.told c.args.out.now) (g.K.Sink.told c.loop-number.out) _ c.loop-number.world c.loop-number.number c.loop-number.lines
      (ahead c.loop-number.lines (g.S.Source.left c.loop-number.source)) p c.in-Some.event left
      (λ t e. subst (λ o. IsEventRead c.args.head.now (length p.done.events) t left (Ok o)) c.in-Some.is (c.in_ok-event.ensures.read (length p.done.events) t p.counted e)) in
      plays_on g.E.Engine.takes g.E.Engine.stands_for c.args.head.now s0 text (g.K.Sink.told c.args.out.now) (g.K.Sink.told c.loop-number.out) _ c.loop-number.world c.loop-number.number c.loop-number.lines
      (ahead c.loop-number.lines (g.S.Source.left c.loop-number.source)) p c.in-Some.event line left (g.K.Sink.told c.tell_event.new.out) home c.tell_event.new.world c.event_of.new.lines read
      (rw c.in-Some.is at c.in_ok-event.ensures.one (length p.done.events) p.counted)
      (subst (λ n. IsToldOf g.E.Engine.takes g.E.Engine.stands_for z n c.in-Some.event (g.K.Sink.told c.loop-number.out) (g.K.Sink.told c.tell_event.new.out) home c.tell_event.new.world (Ok tt))
      p.counted (c.in_ok-tell_event-in-Some.ensures.told z p.stands.stands (ready p.done.events p.done.valid).ready)),
  (let w = c.requires.stands in
      let p = c.loop-number.invariant.0 w.0 w.1 w.2 in
      let z = run (lines p.done.events) w.0 in
      changes_on (length c.args.head.now.kinds) c.args.head.now.coords (g.H.Home.seen c.args.home.now) (g.H.Home.seen c.loop-number.home) (g.H.Home.seen c.tell_event.new.home) c.loop-number.invariant.1
      (head_changes g.E.Engine.takes g.E.Engine.stands_for c.loop-number.world c.args.head.now z (g.H.Home.seen c.loop-number.home) (g.H.Home.seen c.tell_event.new.home) p.stands.stands (w.2 p.done.events p.done.valid) c.tell_event.ensures.rest)),
  c.in_ok-tell_event-in-Some.ensures.ended ∙ c.loop-number.invariant.2,
  c.in_ok-tell_event-in-Some.ensures.quiet (λ z. let e : Ok tt ≡ Err status.Write = z in cc) ∙ c.loop-number.invariant.3,
  c.in_ok-event.ensures.quiet (λ z. let e : Ok c.in_ok-event.field-0 ≡ Err status.Read = z in cc) ∙ c.loop-number.invariant.4,
  λ s clean. c.in_ok-tell_event-in-Some.ensures.clean tt s (c.loop-number.invariant.5 s clean),
)

pub returns-in_err-tell_event-in-Some-clause-rest : goal.returns-in_err-tell_event-in-Some-clause-rest
returns-in_err-tell_event-in-Some-clause-rest g c =
    let w = c.requires.stands in
    let p = c.loop-number.invariant.0 w.0 w.1 w.2 in
    let z = run (lines p.done.events) w.0 in
    changes_on (length c.args.head.now.kinds) c.args.head.now.coords (g.H.Home.seen c.args.home.now) (g.H.Home.seen c.loop-number.home) (g.H.Home.seen c.tell_event.new.home) c.loop-number.invariant.1
    (head_changes g.E.Engine.takes g.E.Engine.stands_for c.loop-number.world c.args.head.now z (g.H.Home.seen c.loop-number.home) (g.H.Home.seen c.tell_event.new.home) p.stands.stands (w.2 p.done.events p.done.valid) c.tell_event.ensures.rest)

pub returns-in_err-event-clause-ended : goal.returns-in_err-event-clause-ended
returns-in_err-event-clause-ended g c =
    subst (λ o. HasEnded (g.H.Home.seen c.args.home.now) (g.H.Home.seen c.loop-number.home) (status_of o)) (sym (err_is c.from_residual.result c.in_err-event.field-0.0 c.from_residual.ensures))
    (read_ended (g.H.Home.seen c.args.home.now) (g.H.Home.seen c.loop-number.home) c.in_err-event.field-0.0 c.in_err-event.ensures.own c.loop-number.invariant.2)

pub returns-in_err-tell_event-in-Some-clause-ended : goal.returns-in_err-tell_event-in-Some-clause-ended
returns-in_err-tell_event-in-Some-clause-ended g c =
    subst (λ o. HasEnded (g.H.Home.seen c.args.home.now) (g.H.Home.seen c.tell_event.new.home) (status_of o)) (sym (err_is c.from_residual-in_err-tell_event-in-Some.result c.in_err-tell_event-in-Some.field-0.0 c.from_residual-in_err-tell_event-in-Some.ensures))
    (ended_behind (g.H.Home.seen c.args.home.now) (g.H.Home.seen c.loop-number.home) (g.H.Home.seen c.tell_event.new.home) c.in_err-tell_event-in-Some.field-0.0 c.loop-number.invariant.2 c.loop-number.invariant.1.files.told c.in_err-tell_event-in-Some.ensures.ended)

pub returns-in_err-tell_event-in-Some-clause-clean : goal.returns-in_err-tell_event-in-Some-clause-clean
returns-in_err-tell_event-in-Some-clause-clean g c = λ between s was.
    c.in_err-tell_event-in-Some.ensures.clean (subst (λ o. IsBetween (status_of o)) (err_is c.from_residual-in_err-tell_event-in-Some.result c.in_err-tell_event-in-Some.field-0.0 c.from_residual-in_err-tell_event-in-Some.ensures) between) s (c.loop-number.invariant.5 s was)

pub returns-in_err-event-clause-clean : goal.returns-in_err-event-clause-clean
returns-in_err-event-clause-clean g c = λ between. c.loop-number.invariant.5

pub returns-in-None-clause-clean : goal.returns-in-None-clause-clean
returns-in-None-clause-clean g c = λ between. c.loop-number.invariant.5
