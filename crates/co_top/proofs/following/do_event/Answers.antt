use Rattle.std.proofs.Common.{◌≡◌, None, Some, Err, sym, ap, subst}
use Rattle.co_world.proofs.Nodes.{held_left}
use Rattle.co_trial.specs.Calm.{calm_seen}
use Rattle.co_top.specs.Following.{IsOfEvent}
use Rattle.co_top.specs.Telling.{IsToldOf}
use Rattle.co_top.specs.declared.status.Status.{Status}
use Rattle.co_top.proofs.Followed.{of_event}
use Rattle.co_top.proofs.Plays.{untold}
use Rattle.co_top.proofs.following.do_event.Goals as goal

pub returns-in-Ok-clause-done : goal.returns-in-Ok-clause-done
returns-in-Ok-clause-done g c = λ s r ready.
    let done = c.in-Ok.ensures.answered s r ready in
    (record { stands = done.stands; held = done.served.kept }, λ h e. absurd (let z : None ≡ Some h = e in cc))

pub returns-in-Err-clause-done : goal.returns-in-Err-clause-done
returns-in-Err-clause-done g c = λ s r ready.
    let cut = c.in-Err.ensures.answered s r ready in
    subst (λ (why : Status). IsToldOf g.E.Engine.takes g.E.Engine.stands_for s c.args.number c.args.event None None (calm_seen c.step.new.home.memory) c.step.new.self (Err why)) (sym c.undone.ensures)
    (untold g.E.Engine.takes g.E.Engine.stands_for s c.args.number c.args.event None _ _ c.step.new.self c.in-Err.fault cut.ended cut.left
    (held_left g.E.Engine.takes g.E.Engine.stands_for c.args.world.now s (calm_seen c.args.home.now.memory) r c.requires.held)
    (λ is. (c.in-Err.ensures.limit s r).0 (ap Err is)))

pub returns-in-Err-clause-own : goal.returns-in-Err-clause-own
returns-in-Err-clause-own g c =
    let w = c.requires.stands in
    subst IsOfEvent (sym c.undone.ensures) (of_event c.in-Err.fault c.args.home.now.memory c.step.new.home.memory (c.in-Err.ensures.answered w.0 w.1 w.2).ended)
