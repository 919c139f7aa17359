use Rattle.std.proofs.Common.{inl, [], ◌∷◌, Err, ap}
use Rattle.co_durable.specs.declared.fault.WorldFault.TheVariants as world
use Rattle.co_plain.specs.declared.happening.Happening.TheVariants as happening
use Rattle.co_settle.proofs.Composing.{ended_as}
use Rattle.co_coop.proofs.Along.{fails_along, untold_along}
use Rattle.co_coop.proofs.Aborting.{event_leaves, fails_ending, fails_leaving}
use Rattle.co_coop.proofs.consulting.hand.Goals as goal

pub returns-in_err-told-clause-did : goal.returns-in_err-told-clause-did
returns-in_err-told-clause-did g c = λ s r v.
    let d = c.args.doubt.now in
    fails_along g.E.Engine.takes g.E.Engine.stands_for s c.args.number (happening.Hand d.txn d.member c.args.commit ∷ []) c.args.items.now c.args.items.now c.hand.new.self (g.H.Home.seen c.hand.new.home).file
    c.from_residual.result c.in_err-told.field-0.0 c.from_residual.ensures (inl (c.in_err-told.ensures.answered s r).left)

pub returns-in_err-told-clause-ended : goal.returns-in_err-told-clause-ended
returns-in_err-told-clause-ended g c =
    let w = c.requires.voted in
    let old = g.H.Home.seen c.args.home.now in
    let new = g.H.Home.seen c.hand.new.home in
    fails_ending c.hand.new.self old new c.from_residual.result c.in_err-told.field-0.0 c.from_residual.ensures
    (ended_as c.in_err-told.field-0.0 old new (λ e. c.in_err-told.ensures.count (ap Err e)) (c.in_err-told.ensures.answered w.0 w.1).ended)

pub returns-in_err-told-clause-fault : goal.returns-in_err-told-clause-fault
returns-in_err-told-clause-fault g c =
    let w = c.requires.voted in
    let old = g.H.Home.seen c.args.home.now in
    let new = g.H.Home.seen c.hand.new.home in
    fails_leaving old new c.from_residual.result c.in_err-told.field-0.0 c.from_residual.ensures
    (event_leaves c.in_err-told.field-0.0 old new (c.in_err-told.ensures.answered w.0 w.1).ended)

pub returns-in_err-tell-clause-did : goal.returns-in_err-tell-clause-did
returns-in_err-tell-clause-did g c = λ s r v.
    let d = c.args.doubt.now in
    let new = g.H.Home.seen c.hand.new.home in
    fails_along g.E.Engine.takes g.E.Engine.stands_for s c.args.number (happening.Hand d.txn d.member c.args.commit ∷ []) c.args.items.now c.tell.new.items c.hand.new.self new.file
    c.from_residual-in_err-tell.result world.Memory c.from_residual-in_err-tell.ensures
    (untold_along g.E.Engine.takes g.E.Engine.stands_for s c.args.number (happening.Hand d.txn d.member c.args.commit) c.in_ok-told.told c.hand.new.self (g.H.Home.seen c.args.home.now) new (c.in_ok-told.ensures.answered s r))
