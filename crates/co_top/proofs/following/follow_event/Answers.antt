use Rattle.std.proofs.Common.{None, Result, IfErr, sym, subst}
use Rattle.co_plain.specs.Step.{step_line}
use Rattle.co_trial.specs.Calm.{calm_seen}
use Rattle.co_top.specs.Following.{IsOfEvent}
use Rattle.co_top.specs.Sights.{IsOwnIf}
use Rattle.co_top.specs.Telling.{IsToldOf}
use Rattle.co_top.specs.declared.status.Status.{Status}
use Rattle.co_top.proofs.Plays.{err_is}
use Rattle.co_top.proofs.following.follow_event.Goals as goal

pub do_event-requires-clause-stands : goal.do_event-requires-clause-stands
do_event-requires-clause-stands g c = let w = c.requires.stands in (w.0, w.1, w.2)

pub returns-in_err-do_event-clause-done : goal.returns-in_err-do_event-clause-done
returns-in_err-do_event-clause-done g c = λ s r ready.
    subst (λ (o : Result (Unit {0}) Status). IsToldOf g.E.Engine.takes g.E.Engine.stands_for s c.args.number c.args.event None None (calm_seen c.do_event.new.home.memory) c.do_event.new.world o)
    (sym (err_is c.from_residual.result c.in_err-do_event.field-0.0 c.from_residual.ensures)) (c.in_err-do_event.ensures.done s r ready)

pub returns-in_err-do_event-clause-own : goal.returns-in_err-do_event-clause-own
returns-in_err-do_event-clause-own g c =
    subst (λ (o : Result (Unit {0}) Status). IfErr o IsOfEvent) (sym (err_is c.from_residual.result c.in_err-do_event.field-0.0 c.from_residual.ensures)) c.in_err-do_event.ensures.own

pub see_line-requires-clause-in_head : goal.see_line-requires-clause-in_head
see_line-requires-clause-in_head g c =
    let w = c.requires.stands in
    subst (λ n. IsOwnIf n c.args.ask.now c.args.seen.now) (sym (c.in_ok-do_event.ensures.done w.0 w.1 w.2).0.stands.cluster.kinds) w.3

pub see_line-requires-clause-stands : goal.see_line-requires-clause-stands
see_line-requires-clause-stands g c = let w = c.requires.stands in ((step_line w.0 c.args.event).state, (c.in_ok-do_event.ensures.done w.0 w.1 w.2).0.stands)
