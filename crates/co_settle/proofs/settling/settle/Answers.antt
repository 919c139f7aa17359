use Rattle.std.proofs.Common.{refl, sym, ◌∙◌, subst, arith}
use Rattle.co_plain.specs.Runs.{run, lines}
use Rattle.co_plain.specs.Step.{disarmed}
use Rattle.co_settle.proofs.Composing.{served_later}
use Rattle.co_durable.specs.declared.fault.WorldFault.TheVariants as world
use Rattle.co_settle.proofs.GoingOn.{IsGoing, told_first, starts, short, turned, cut_turn, cut_between, settles, cut_as}
use Rattle.co_settle.proofs.Reaching.{ready}
use Rattle.co_settle.proofs.settling.settle.Goals as goal

pub loop-turn-init : goal.loop-turn-init
loop-turn-init g c =
    record {
      going = λ s r reached few.
          subst (λ xs. IsGoing g.E.Engine.takes g.E.Engine.stands_for s c.args.number (record { number = c.args.number; items = xs }) c.args.steps.now c.args.steps.now c.disarm.new.self c.new-candidates.result.numbers 0) (sym c.new.ensures)
          (subst (λ held. IsGoing g.E.Engine.takes g.E.Engine.stands_for s c.args.number (told_first c.args.number) c.args.steps.now c.args.steps.now c.disarm.new.self held 0) (sym c.new-candidates.ensures)
          (starts g.E.Engine.takes g.E.Engine.stands_for s reached few c.args.number c.args.steps.now c.disarm.new.self (c.disarm.ensures.stands s r)));
      served = record { kept = c.disarm.ensures.held (g.H.Home.seen c.args.home.now) c.requires.held; clean = λ s clean. clean; quiet = refl };
      entered = refl;
    }

pub anything_open-requires : goal.anything_open-requires
anything_open-requires g c =
    let w = c.requires.stands in
    let p = c.loop-turn.invariant.going w.0 w.1 w.2 w.3 in
    let z = run (lines p.events) (disarmed w.0) in
    record { stands = (z, p.done.stands, ready z p.reached) }

pub returns-in_err-anything_open-clause-settled : goal.returns-in_err-anything_open-clause-settled
returns-in_err-anything_open-clause-settled g c = λ s r reached few.
    let p = c.loop-turn.invariant.going s r reached few in
    cut_as g.E.Engine.takes g.E.Engine.stands_for s reached few c.args.number c.args.steps.now.count c.loop-turn.world c.loop-turn.steps.count (g.H.Home.seen c.loop-turn.home).file c.from_residual.result world.Memory c.from_residual.ensures
    (cut_between g.E.Engine.takes g.E.Engine.stands_for s reached few c.args.number c.loop-turn.told c.args.steps.now c.loop-turn.steps c.loop-turn.world c.loop-turn._turn p (g.H.Home.seen c.loop-turn.home) c.loop-turn.invariant.served.kept)

pub returns-then-not-branch-clause-settled : goal.returns-then-not-branch-clause-settled
returns-then-not-branch-clause-settled g c = λ s r reached few.
    let p = c.loop-turn.invariant.going s r reached few in
    let z = run (lines p.events) (disarmed s) in
    settles g.E.Engine.takes g.E.Engine.stands_for s reached few c.args.number c.loop-turn.told c.args.steps.now c.loop-turn.steps c.loop-turn.world c.loop-turn._turn p (c.in_ok-anything_open.ensures.nothing z p.done.stands c.if-not-branch.true)

pub collect-requires : goal.collect-requires
collect-requires g c =
    let w = c.requires.stands in
    let p = c.loop-turn.invariant.going w.0 w.1 w.2 w.3 in
    record { stands = (run (lines p.events) (disarmed w.0), p.done.stands, p.reached) }

pub returns-in_err-collect-clause-settled : goal.returns-in_err-collect-clause-settled
returns-in_err-collect-clause-settled g c = λ s r reached few.
    let p = c.loop-turn.invariant.going s r reached few in
    cut_as g.E.Engine.takes g.E.Engine.stands_for s reached few c.args.number c.args.steps.now.count c.loop-turn.world c.loop-turn.steps.count (g.H.Home.seen c.loop-turn.home).file c.from_residual-in_err-collect.result world.Memory c.from_residual-in_err-collect.ensures
    (cut_between g.E.Engine.takes g.E.Engine.stands_for s reached few c.args.number c.loop-turn.told c.args.steps.now c.loop-turn.steps c.loop-turn.world c.loop-turn._turn p (g.H.Home.seen c.loop-turn.home) c.loop-turn.invariant.served.kept)

pub take_turn-requires-clause-number : goal.take_turn-requires-clause-number
take_turn-requires-clause-number g c =
    let w = c.requires.stands in
    let p = c.loop-turn.invariant.going w.0 w.1 w.2 w.3 in
    let a = short g.E.Engine.takes g.E.Engine.stands_for w.0 w.2 w.3 c.args.number c.loop-turn.told c.args.steps.now c.loop-turn.steps c.loop-turn.world c.loop-turn._turn p in
    let b = p.done.number in
    let n = c.requires.number in
    omega (arith, a, b, n)

pub take_turn-requires-clause-count : goal.take_turn-requires-clause-count
take_turn-requires-clause-count g c =
    let w = c.requires.stands in
    let p = c.loop-turn.invariant.going w.0 w.1 w.2 w.3 in
    let a = short g.E.Engine.takes g.E.Engine.stands_for w.0 w.2 w.3 c.args.number c.loop-turn.told c.args.steps.now c.loop-turn.steps c.loop-turn.world c.loop-turn._turn p in
    let b = p.done.counted in
    let n = c.requires.count in
    omega (arith, a, b, n)

pub take_turn-requires-clause-stands : goal.take_turn-requires-clause-stands
take_turn-requires-clause-stands g c =
    let w = c.requires.stands in
    let p = c.loop-turn.invariant.going w.0 w.1 w.2 w.3 in
    let z = run (lines p.events) (disarmed w.0) in
    (z, p.done.stands, p.reached, c.in_ok-anything_open.ensures.something z p.done.stands c.if-not-branch.false, c.in_ok-collect.ensures z p.done.stands p.reached p.busy)

pub returns-in_err-take_turn-clause-settled : goal.returns-in_err-take_turn-clause-settled
returns-in_err-take_turn-clause-settled g c = λ s r reached few.
    let p = c.loop-turn.invariant.going s r reached few in
    let z = run (lines p.events) (disarmed s) in
    let file = (g.H.Home.seen c.take_turn.new.home).file in
    cut_as g.E.Engine.takes g.E.Engine.stands_for s reached few c.args.number c.args.steps.now.count c.take_turn.new.world c.take_turn.new.steps.count file c.from_residual-in_err-take_turn.result c.in_err-take_turn.field-0.0 c.from_residual-in_err-take_turn.ensures
    (cut_turn g.E.Engine.takes g.E.Engine.stands_for s reached few c.args.number c.loop-turn.told c.take_turn.new.told c.args.steps.now c.loop-turn.steps c.take_turn.new.steps c.loop-turn.world c.take_turn.new.world c.loop-turn._turn p file c.in_err-take_turn.field-0.0
    (c.in_ok-anything_open.ensures.something z p.done.stands c.if-not-branch.false) (c.in_err-take_turn.ensures.did z p.done.stands p.reached (c.in_ok-collect.ensures z p.done.stands p.reached p.busy)))

pub loop-turn-preserved : goal.loop-turn-preserved
loop-turn-preserved g c =
    record {
      going = λ s r reached few.
          let p = c.loop-turn.invariant.going s r reached few in
          let z = run (lines p.events) (disarmed s) in
          let known = c.in_ok-collect.ensures z p.done.stands p.reached p.busy in
          let next = turned g.E.Engine.takes g.E.Engine.stands_for s reached few c.take_turn.new.candidates.numbers c.args.number c.loop-turn.told c.take_turn.new.told c.args.steps.now c.loop-turn.steps c.take_turn.new.steps c.loop-turn.world c.take_turn.new.world c.loop-turn._turn p
          (g.H.Home.seen c.take_turn.new.home).file (c.in_ok-anything_open.ensures.something z p.done.stands c.if-not-branch.false) (c.in_ok-take_turn.ensures.did z p.done.stands p.reached known)
          (c.take_turn.ensures.busy z p.done.stands p.reached known) in
          let counted = next.counted in
          record { events = next.events; settling = next.settling; done = next.done; reached = next.reached; busy = next.busy; counted = omega (arith, counted) };
      served = served_later c.loop-turn.world c.take_turn.new.world (g.H.Home.seen c.args.home.now) (g.H.Home.seen c.loop-turn.home)
          (g.H.Home.seen c.take_turn.new.home) c.loop-turn.invariant.served c.in_ok-take_turn.ensures.ended;
      entered = c.take_turn.ensures.entered ∙ c.loop-turn.invariant.entered;
    }

pub unreachable-requires : goal.unreachable-requires
unreachable-requires g c =
    let w = c.requires.stands in
    let p = c.loop-turn.invariant.going w.0 w.1 w.2 w.3 in
    let a = short g.E.Engine.takes g.E.Engine.stands_for w.0 w.2 w.3 c.args.number c.loop-turn.told c.args.steps.now c.loop-turn.steps c.loop-turn.world c.loop-turn._turn p in
    let b = p.counted in
    let n = c.loop-turn-test.false in
    omega (arith, a, b, n)
