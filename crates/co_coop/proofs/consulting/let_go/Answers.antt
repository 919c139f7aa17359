use Rattle.std.proofs.Common.{inl, [], ◌∷◌, Err, refl, sym, ap, subst}
use Rattle.co_base.specs.declared.node.Node.TheVariants as node
use Rattle.co_durable.specs.declared.fault.WorldFault.{WorldFault}
use Rattle.co_durable.specs.declared.fault.WorldFault.TheVariants as world
use Rattle.co_message.specs.declared.event.Event.TheVariants as event
use Rattle.co_settle.specs.Progress.{HasEnded}
use Rattle.co_settle.proofs.Composing.{ended_as}
use Rattle.co_settle.proofs.GoingOn.{wants_memory}
use Rattle.co_settle.proofs.Reaching.{ready}
use Rattle.co_coop.specs.Consulted.{IsCutAlong, FaultLeaves}
use Rattle.co_coop.proofs.Along.{done_along, fails_along, untold_along}
use Rattle.co_coop.proofs.Aborting.{event_leaves, timer_at_other}
use Rattle.co_coop.proofs.consulting.let_go.Goals as goal

pub step-requires-clause-stands : goal.step-requires-clause-stands
step-requires-clause-stands g c = let w = c.requires.stands in (w.0, w.1, ready w.0 w.2)

pub returns-in_err-tell-in-Ok-clause-did : goal.returns-in_err-tell-in-Ok-clause-did
returns-in_err-tell-in-Ok-clause-did g c = λ s r reached.
    let h = timer_at_other c.args.t c.args.other in
    let new = g.H.Home.seen c.step.new.home in
    fails_along g.E.Engine.takes g.E.Engine.stands_for s c.args.number (h ∷ []) c.args.items.now c.tell.new.items c.step.new.self new.file c.from_residual.result world.Memory c.from_residual.ensures
    (untold_along g.E.Engine.takes g.E.Engine.stands_for s c.args.number h c.in-Ok.told c.step.new.self (g.H.Home.seen c.args.home.now) new (c.in-Ok.ensures.answered s r (ready s reached)))

pub returns-in_err-tell-in-Ok-clause-ended : goal.returns-in_err-tell-in-Ok-clause-ended
returns-in_err-tell-in-Ok-clause-ended g c =
    let w = c.requires.stands in
    wants_memory c.step.new.self c.step.new.self (g.H.Home.seen c.args.home.now) (g.H.Home.seen c.step.new.home) c.from_residual.result c.from_residual.ensures (c.in-Ok.ensures.answered w.0 w.1 (ready w.0 w.2)).served

pub returns-in_ok-tell-in-Ok-clause-did : goal.returns-in_ok-tell-in-Ok-clause-did
returns-in_ok-tell-in-Ok-clause-did g c = λ s r reached.
    done_along g.E.Engine.takes g.E.Engine.stands_for s c.args.number (timer_at_other c.args.t c.args.other) (event.Timer c.args.t (node.Member c.args.other)) c.args.items.now c.tell.new.items c.in-Ok.told c.step.new.self
    (g.H.Home.seen c.args.home.now) (g.H.Home.seen c.step.new.home) refl (c.in-Ok.ensures.answered s r (ready s reached)) c.in_ok-tell-in-Ok.ensures

pub returns-in_ok-tell-in-Ok-clause-ended : goal.returns-in_ok-tell-in-Ok-clause-ended
returns-in_ok-tell-in-Ok-clause-ended g c = let w = c.requires.stands in (c.in-Ok.ensures.answered w.0 w.1 (ready w.0 w.2)).served

pub returns-in-Err-clause-did : goal.returns-in-Err-clause-did
returns-in-Err-clause-did g c = λ s r reached.
    subst (IsCutAlong (timer_at_other c.args.t c.args.other ∷ []) s (g.H.Home.seen c.step.new.home).file) (sym c.undone.ensures) (inl (c.in-Err.ensures.answered s r (ready s reached)).left)

pub returns-in-Err-clause-ended : goal.returns-in-Err-clause-ended
returns-in-Err-clause-ended g c =
    let w = c.requires.stands in
    let old = g.H.Home.seen c.args.home.now in
    let new = g.H.Home.seen c.step.new.home in
    subst (λ (f : WorldFault). HasEnded f old new) (sym c.undone.ensures)
    (ended_as c.in-Err.fault old new (λ e. c.in-Err.ensures.count.0 (ap Err e)) (c.in-Err.ensures.answered w.0 w.1 (ready w.0 w.2)).ended)

pub returns-in-Err-clause-fault : goal.returns-in-Err-clause-fault
returns-in-Err-clause-fault g c =
    let w = c.requires.stands in
    let old = g.H.Home.seen c.args.home.now in
    let new = g.H.Home.seen c.step.new.home in
    subst (λ (f : WorldFault). FaultLeaves old new f) (sym c.undone.ensures)
    (event_leaves c.in-Err.fault old new (c.in-Err.ensures.answered w.0 w.1 (ready w.0 w.2)).ended)
