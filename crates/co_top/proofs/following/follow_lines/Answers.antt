use Rattle.std.proofs.Common.{◌≡◌, ◌∙◌, ℕ, [], ◌∷◌, ◌++◌, None, Some, Result, Ok, Err, IfErr, refl, sym, ap, subst, length}
use Rattle.co_durable.proofs.Pairs.{all_append}
use Rattle.co_plain.specs.Federation.{Federation}
use Rattle.co_plain.specs.Runs.{run, lines}
use Rattle.co_replay.specs.Schedule.{HasLine}
use Rattle.co_schedule.specs.Lines.{ahead}
use Rattle.co_trial.specs.Calm.{calm_seen}
use Rattle.co_top.specs.Following.{IsFollowed, IsOfSchedule}
use Rattle.co_top.specs.Front.{AtStart}
use Rattle.co_top.specs.Heads.{IsEventRead}
use Rattle.co_top.specs.Sights.{IsOwnIf}
use Rattle.co_top.specs.Telling.{IsToldOf}
use Rattle.co_top.specs.declared.status.Status.{Status}
use Rattle.co_top.specs.declared.status.Status.TheVariants as status
use Rattle.co_top.proofs.Followed.{read_in_schedule, event_in_schedule, event_not_read}
use Rattle.co_top.proofs.Follows.{follows_on, followed_out}
use Rattle.co_top.proofs.Plays.{reads_over, read_behind, told_over, err_is, run_one}
use Rattle.co_top.proofs.Sights.{own_if}
use Rattle.co_top.proofs.following.follow_lines.Goals as goal

pub loop-number-init : goal.loop-number-init
loop-number-init g c = record {
  playing = λ s0 r ready. (
    record {
      done = record { events = []; valid = tt; left = λ t e. (t, AtStart t); whole = λ h e. absurd (let z : None ≡ Some h = e in cc) };
      stands = record { stands = r; held = c.requires.held };
      counted = refl;
      read = c.requires.read;
      is_left = λ t e. e;
    },
    c.requires.seen s0 r,
  );
  quiet = refl;
}

pub returns-in_err-event-clause-over : goal.returns-in_err-event-clause-over
returns-in_err-event-clause-over g c = λ s0 r ready.
    let p = (c.loop-number.invariant.playing s0 r ready).0 in
    let text = ahead c.args.lines.now (g.S.Source.left c.args.source.now) in
    subst (IsFollowed g.E.Engine.takes g.E.Engine.stands_for c.args.head.now s0 text (g.S.Source.left c.event_of.new.source) (calm_seen c.loop-number.home.memory) c.loop-number.world c.args.ask.now c.loop-number.seen)
    (sym (err_is c.from_residual.result c.in_err-event.field-0.0 c.from_residual.ensures))
    (reads_over g.E.Engine.takes g.E.Engine.stands_for c.args.head.now s0 text None None (calm_seen c.loop-number.home.memory) c.loop-number.world c.loop-number.number c.loop-number.lines
    (ahead c.loop-number.lines (g.S.Source.left c.loop-number.source)) p (g.S.Source.left c.event_of.new.source) (λ t q. c.in_err-event.ensures.streamed (p.done.left t q).0 (p.is_left t q)) c.in_err-event.field-0.0
    (ahead c.event_of.new.lines (g.S.Source.left c.event_of.new.source)) c.in_err-event.ensures.own (λ t e. c.in_err-event.ensures.read (length p.done.events) t p.counted e))

pub returns-in_err-event-clause-own : goal.returns-in_err-event-clause-own
returns-in_err-event-clause-own g c =
    subst (λ (o : Result ℕ Status). IfErr o IsOfSchedule) (sym (err_is c.from_residual.result c.in_err-event.field-0.0 c.from_residual.ensures)) (read_in_schedule c.in_err-event.field-0.0 c.in_err-event.ensures.own)

pub follow_event-requires-clause-stands : goal.follow_event-requires-clause-stands
follow_event-requires-clause-stands g c =
    let w = c.requires.stands in
    let kept = c.loop-number.invariant.playing w.0 w.1 w.2 in
    let p = kept.0 in
    let e = c.in-Some.event in
    let z = run (lines p.done.events) w.0 in
    let line = rw c.in-Some.is at c.in_ok-event.ensures.valid in
    let valid = all_append (HasLine c.args.head.now) p.done.events (e ∷ []) p.done.valid (line, tt) in
    let kinds = subst (λ (s : Federation). s.kinds ≡ c.args.head.now.kinds) (run_one p.done.events e w.0) (w.2 (p.done.events ++ e ∷ []) valid).kinds in (
      z,
      p.stands.stands,
      (w.2 p.done.events p.done.valid).ready,
      subst (λ n. IsOwnIf n c.args.ask.now c.loop-number.seen) (sym (ap length kinds)) (own_if (length c.args.head.now.kinds) w.0 p.done.events c.args.ask.now c.loop-number.seen kept.1),
    )

pub returns-in_err-follow_event-in-Some-clause-over : goal.returns-in_err-follow_event-in-Some-clause-over
returns-in_err-follow_event-in-Some-clause-over g c = λ s0 r ready.
    let p = (c.loop-number.invariant.playing s0 r ready).0 in
    let text = ahead c.args.lines.now (g.S.Source.left c.args.source.now) in
    let z = run (lines p.done.events) s0 in
    let left = ahead c.event_of.new.lines (g.S.Source.left c.event_of.new.source) in
    let line = rw c.in-Some.is at c.in_ok-event.ensures.valid in
    let read =
    read_behind g.E.Engine.takes g.E.Engine.stands_for c.args.head.now s0 text None None (calm_seen c.loop-number.home.memory) c.loop-number.world c.loop-number.number c.loop-number.lines
    (ahead c.loop-number.lines (g.S.Source.left c.loop-number.source)) p c.in-Some.event left
    (λ t e. subst (λ o. IsEventRead c.args.head.now (length p.done.events) t left (Ok o)) c.in-Some.is (c.in_ok-event.ensures.read (length p.done.events) t p.counted e)) in
    subst (IsFollowed g.E.Engine.takes g.E.Engine.stands_for c.args.head.now s0 text (g.S.Source.left c.event_of.new.source) (calm_seen c.follow_event.new.home.memory) c.follow_event.new.world c.args.ask.now c.follow_event.new.seen)
    (sym (err_is c.from_residual-in_err-follow_event-in-Some.result c.in_err-follow_event-in-Some.field-0.0 c.from_residual-in_err-follow_event-in-Some.ensures))
    (told_over c.args.head.now s0 text None None p.done c.in-Some.event line left read g.E.Engine.takes g.E.Engine.stands_for (calm_seen c.follow_event.new.home.memory) c.follow_event.new.world
    (g.S.Source.left c.event_of.new.source) (λ t q. c.in_ok-event.ensures.streamed (p.done.left t q).0 (p.is_left t q)) c.in_err-follow_event-in-Some.field-0.0 None
    (subst (λ n. IsToldOf g.E.Engine.takes g.E.Engine.stands_for z n c.in-Some.event None None (calm_seen c.follow_event.new.home.memory) c.follow_event.new.world (Err c.in_err-follow_event-in-Some.field-0.0))
    p.counted (c.in_err-follow_event-in-Some.ensures.done z p.stands.stands (ready p.done.events p.done.valid).ready)))

pub returns-in_err-follow_event-in-Some-clause-own : goal.returns-in_err-follow_event-in-Some-clause-own
returns-in_err-follow_event-in-Some-clause-own g c =
    subst (λ (o : Result ℕ Status). IfErr o IsOfSchedule) (sym (err_is c.from_residual-in_err-follow_event-in-Some.result c.in_err-follow_event-in-Some.field-0.0 c.from_residual-in_err-follow_event-in-Some.ensures))
    (event_in_schedule c.in_err-follow_event-in-Some.field-0.0 c.in_err-follow_event-in-Some.ensures.own)

pub returns-in_err-follow_event-in-Some-clause-read : goal.returns-in_err-follow_event-in-Some-clause-read
returns-in_err-follow_event-in-Some-clause-read g c = λ h.
    let is : Err c.in_err-follow_event-in-Some.field-0.0 ≡ Err status.Read = sym (err_is c.from_residual-in_err-follow_event-in-Some.result c.in_err-follow_event-in-Some.field-0.0 c.from_residual-in_err-follow_event-in-Some.ensures) ∙ h in
    absurd (event_not_read c.in_err-follow_event-in-Some.field-0.0 c.in_err-follow_event-in-Some.ensures.own (let z : c.in_err-follow_event-in-Some.field-0.0 ≡ status.Read = cc in z))

pub returns-in-None-clause-over : goal.returns-in-None-clause-over
returns-in-None-clause-over g c = λ s0 r ready.
    let kept = c.loop-number.invariant.playing s0 r ready in
    let p = kept.0 in
    let left = ahead c.event_of.new.lines (g.S.Source.left c.event_of.new.source) in
    followed_out g.E.Engine.takes g.E.Engine.stands_for c.args.head.now s0 (ahead c.args.lines.now (g.S.Source.left c.args.source.now)) (calm_seen c.loop-number.home.memory) c.loop-number.world
    c.loop-number.number c.loop-number.lines (ahead c.loop-number.lines (g.S.Source.left c.loop-number.source)) p (g.S.Source.left c.event_of.new.source) (λ t q. c.in_ok-event.ensures.streamed (p.done.left t q).0 (p.is_left t q)) left
    (λ t e. subst (λ o. IsEventRead c.args.head.now (length p.done.events) t left (Ok o)) c.in-None.is (c.in_ok-event.ensures.read (length p.done.events) t p.counted e))
    c.args.ask.now c.loop-number.seen kept.1

pub loop-number-preserved : goal.loop-number-preserved
loop-number-preserved g c = record {
  playing = λ s0 r ready.
      let kept = c.loop-number.invariant.playing s0 r ready in
      let p = kept.0 in
      let text = ahead c.args.lines.now (g.S.Source.left c.args.source.now) in
      let z = run (lines p.done.events) s0 in
      let left = ahead c.event_of.new.lines (g.S.Source.left c.event_of.new.source) in
      let line = rw c.in-Some.is at c.in_ok-event.ensures.valid in
      let read =
      read_behind g.E.Engine.takes g.E.Engine.stands_for c.args.head.now s0 text None None (calm_seen c.loop-number.home.memory) c.loop-number.world c.loop-number.number c.loop-number.lines
      (ahead c.loop-number.lines (g.S.Source.left c.loop-number.source)) p c.in-Some.event left
      (λ t e. subst (λ o. IsEventRead c.args.head.now (length p.done.events) t left (Ok o)) c.in-Some.is (c.in_ok-event.ensures.read (length p.done.events) t p.counted e)) in
      follows_on g.E.Engine.takes g.E.Engine.stands_for c.args.head.now s0 text None None (calm_seen c.loop-number.home.memory) c.loop-number.world c.loop-number.number c.loop-number.lines
      (ahead c.loop-number.lines (g.S.Source.left c.loop-number.source)) p c.in-Some.event line left None (calm_seen c.follow_event.new.home.memory) c.follow_event.new.world c.event_of.new.lines read
      (rw c.in-Some.is at c.in_ok-event.ensures.one (length p.done.events) p.counted)
      (subst (λ n. IsToldOf g.E.Engine.takes g.E.Engine.stands_for z n c.in-Some.event None None (calm_seen c.follow_event.new.home.memory) c.follow_event.new.world (Ok tt))
      p.counted (c.in_ok-follow_event-in-Some.ensures.done z p.stands.stands (ready p.done.events p.done.valid).ready))
      (length c.args.head.now.kinds) c.args.ask.now c.loop-number.seen c.follow_event.new.seen kept.1 (c.in_ok-follow_event-in-Some.ensures.seen z p.stands.stands (ready p.done.events p.done.valid).ready);
  quiet = c.in_ok-event.ensures.quiet (λ z. let e : Ok c.in_ok-event.field-0 ≡ Err status.Read = z in cc) ∙ c.loop-number.invariant.quiet;
}
