use Rattle.std.proofs.Common.{◌∷◌, [], refl}
use Rattle.co_message.specs.declared.event.Event.TheVariants as event
use Rattle.co_plain.specs.Settling.{ByRestart, ByExchange, ByTimer}
use Rattle.co_law_settle.specs.SettlingTurns.{Restarts, Exchanges, Fires}
use Rattle.co_cluster.specs.Readings.{exchange_of}
use Rattle.co_settle.proofs.Composing.{cut_as}
use Rattle.co_settle.proofs.Reaching.{ready, is_stuck}
use Rattle.co_settle.proofs.turns.take_turn.Goals as goal

pub take_step-requires-clause-stands : goal.take_step-requires-clause-stands
take_step-requires-clause-stands g c = let w = c.requires.stands in (w.0, w.1, ready w.0 w.2)

pub returns-in_err-take_step-clause-did : goal.returns-in_err-take_step-clause-did
returns-in_err-take_step-clause-did g c = λ s r reached known. (
  Restarts c.in-Some.node,
  (ByRestart c.in-Some.node (c.in-Some.ensures s r), refl),
  cut_as g.E.Engine.takes g.E.Engine.stands_for s (event.Restart c.in-Some.node ∷ []) c.args.told.now c.take_step.new.told c.args.steps.now c.take_step.new.steps c.take_step.new.world (g.H.Home.seen c.take_step.new.home).file (λ u. Unit {0})
      c.from_residual.result c.in_err-take_step.field-0.0 c.from_residual.ensures (c.in_err-take_step.ensures.did s r (ready s reached)),
)

pub returns-in-Some-clause-did : goal.returns-in-Some-clause-did
returns-in-Some-clause-did g c = λ s r reached known. (
  Restarts c.in-Some.node,
  (ByRestart c.in-Some.node (c.in-Some.ensures s r), refl),
  ((c.in_ok-take_step.ensures.did s r (ready s reached)).0, tt),
)

pub first_exchange-requires : goal.first_exchange-requires
first_exchange-requires g c = let w = c.requires.stands in record { stands = (w.0, w.1, ready w.0 w.2, c.in_default.ensures w.0 w.1) }

pub do_exchange-requires-clause-stands : goal.do_exchange-requires-clause-stands
do_exchange-requires-clause-stands g c = let w = c.requires.stands in (w.0, w.1, w.2, (c.in-Some-first_exchange.ensures.first w.0 w.1 (ready w.0 w.2) w.4).enabled)

pub returns-in-Some-first_exchange-clause-did : goal.returns-in-Some-first_exchange-clause-did
returns-in-Some-first_exchange-clause-did g c = λ s r reached known.
    let e = exchange_of c.in-Some-first_exchange.exchange in
    let first = c.in-Some-first_exchange.ensures.first s r (ready s reached) known in
    (Exchanges e, (ByExchange e (c.in_default.ensures s r) first, refl), c.do_exchange.ensures.did s r reached first.enabled)

pub first_timer-requires : goal.first_timer-requires
first_timer-requires g c = let w = c.requires.stands in record { stands = (w.0, w.1, ready w.0 w.2, c.in_default.ensures w.0 w.1) }

pub take_step-requires-in-Some-first_timer-clause-stands : goal.take_step-requires-in-Some-first_timer-clause-stands
take_step-requires-in-Some-first_timer-clause-stands g c = let w = c.requires.stands in (w.0, w.1, ready w.0 w.2)

pub returns-in_err-take_step-in-Some-first_timer-clause-did : goal.returns-in_err-take_step-in-Some-first_timer-clause-did
returns-in_err-take_step-in-Some-first_timer-clause-did g c = λ s r reached known.
    let due = c.in-Some-first_timer.due in (
      Fires due.txn due.node,
      (ByTimer due.txn due.node (record { all_up = c.in_default.ensures s r; nothing_helps = c.in_default-first_exchange.ensures.first s r (ready s reached) known }) (c.in-Some-first_timer.ensures s r), refl),
      cut_as g.E.Engine.takes g.E.Engine.stands_for s (event.Timer due.txn due.node ∷ []) c.args.told.now c.take_step-in-Some-first_timer.new.told c.args.steps.now c.take_step-in-Some-first_timer.new.steps c.take_step-in-Some-first_timer.new.world
          (g.H.Home.seen c.take_step-in-Some-first_timer.new.home).file (λ u. Unit {0}) c.from_residual-in_err-take_step-in-Some-first_timer.result c.in_err-take_step-in-Some-first_timer.field-0.0 c.from_residual-in_err-take_step-in-Some-first_timer.ensures
          (c.in_err-take_step-in-Some-first_timer.ensures.did s r (ready s reached)),
    )

pub unreachable-requires : goal.unreachable-requires
unreachable-requires g c =
    let w = c.requires.stands in
    is_stuck w.0 w.2 w.3 (c.in_default.ensures w.0 w.1) (c.in_default-first_exchange.ensures.first w.0 w.1 (ready w.0 w.2) w.4) (c.in-None.ensures w.0 w.1)

pub returns-clause-did : goal.returns-clause-did
returns-clause-did g c = λ s r reached known.
    let due = c.in-Some-first_timer.due in (
      Fires due.txn due.node,
      (ByTimer due.txn due.node (record { all_up = c.in_default.ensures s r; nothing_helps = c.in_default-first_exchange.ensures.first s r (ready s reached) known }) (c.in-Some-first_timer.ensures s r), refl),
      ((c.in_ok-take_step-in-Some-first_timer.ensures.did s r (ready s reached)).0, tt),
    )

pub returns-in-Some-first_exchange-clause-busy : goal.returns-in-Some-first_exchange-clause-busy
returns-in-Some-first_exchange-clause-busy g c = λ s r reached known. c.first_exchange.ensures.busy s r (ready s reached) known

pub returns-in_err-take_step-in-Some-first_timer-clause-busy : goal.returns-in_err-take_step-in-Some-first_timer-clause-busy
returns-in_err-take_step-in-Some-first_timer-clause-busy g c = λ s r reached known. c.first_exchange.ensures.busy s r (ready s reached) known

pub returns-clause-busy : goal.returns-clause-busy
returns-clause-busy g c = λ s r reached known. c.first_exchange.ensures.busy s r (ready s reached) known
