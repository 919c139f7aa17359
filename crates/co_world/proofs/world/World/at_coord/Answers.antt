use Rattle.std.proofs.Common.{◌≡◌, true, false, sym, ◌∙◌}
use Rattle.co_plain.specs.Federation.{with_coord}
use Rattle.co_plain.specs.Step.{disarmed, up_coord, coord_step}
use Rattle.co_cluster.specs.Calls.{coord_does}
use Rattle.co_cluster.specs.Left.{coord_disarmed}
use Rattle.co_cluster.proofs.Lefts.{either_left, coord_step_left, coord_step_overlong}
use Rattle.co_world.proofs.Nodes.{held_left, pins_on}
use Rattle.co_world.proofs.Steps.{coord_is_down, coord_is_up}
use Rattle.co_world.proofs.Answering.{refused_alone, passed_answer, did_at_coord}
use Rattle.co_base.specs.declared.node.Node.TheVariants as node
use Rattle.co_message.specs.declared.answer.Answer.TheVariants as answer
use Rattle.co_world.proofs.world.World.at_coord.Goals as goal

pub coord_does-requires-clause-stands : goal.coord_does-requires-clause-stands
coord_does-requires-clause-stands g c =
    let s = c.requires.stands.0 in
    let r = c.requires.stands.1 in
    (s, r, c.requires.stands.2 (sym (c.coord_up.ensures s r) ∙ c.if-not-coord_up.false))

pub returns-then-not-coord_up-clause-answered : goal.returns-then-not-coord_up-clause-answered
returns-then-not-coord_up-clause-answered g c = λ s r.
    let k = c.args.coord in
    let down : (s.coord k).up ≡ false = sym (c.coord_up.ensures s r) ∙ c.if-not-coord_up.true in
    refused_alone g.E.Engine.takes g.E.Engine.stands_for c.args.number (λ z. coord_step z c.args.coord (coord_does c.args.coord c.args.call)) s (answer.Down (node.Coord k)) c.args.self.now (g.H.Home.seen c.args.home.now) c.answers.result
    (coord_is_down s k (s.coord k).up (coord_does k c.args.call (s.coord k)) down) r c.requires.held (c.answers.ensures.items s) c.answers.ensures.memory

pub returns-in_err-did-clause-answered : goal.returns-in_err-did-clause-answered
returns-in_err-did-clause-answered g c = λ s r.
    let k = c.args.coord in
    let old = g.H.Home.seen c.args.home.now in
    let new = g.H.Home.seen c.coord_does.new.home in
    let up : (s.coord k).up ≡ true = sym (c.coord_up.ensures s r) ∙ c.if-not-coord_up.false in
    let step = coord_does k c.args.call (s.coord k) in
    let whole = coord_does k c.args.call (coord_disarmed (s.coord k)) in
    let fault = c.in_err-did.field-0.0 in
    passed_answer g.E.Engine.takes g.E.Engine.stands_for c.args.number (λ z. coord_step z c.args.coord (coord_does c.args.coord c.args.call)) s c.coord_does.new.self old new c.from_residual.result fault c.from_residual.ensures
    (record {
      left = either_left new.file s s (up_coord s k (s.coord k).up step).state (up_coord (disarmed s) k (s.coord k).up whole).state (with_coord (disarmed s) k whole.state) fault (λ left. left)
          (coord_step_left new.file (disarmed s) k (s.coord k).up whole up) (coord_step_overlong (disarmed s) k (s.coord k).up whole up) (c.in_err-did.ensures.left s r);
      ended = c.in_err-did.ensures.ended;
    })

pub returns-clause-answered : goal.returns-clause-answered
returns-clause-answered g c = λ s r.
    let k = c.args.coord in
    let old = g.H.Home.seen c.args.home.now in
    let new = g.H.Home.seen c.coord_does.new.home in
    let up : (s.coord k).up ≡ true = sym (c.coord_up.ensures s r) ∙ c.if-not-coord_up.false in
    let step = coord_does k c.args.call (s.coord k) in
    let done = c.in_ok-did.ensures in
    let stood = done.stands s r in
    did_at_coord g.E.Engine.takes g.E.Engine.stands_for c.args.number (λ z. coord_step z c.args.coord (coord_does c.args.coord c.args.call)) s c.coord_does.new.self c.tells_of_coord.new.self old new c.tells_of_coord.result s k step c.in_ok-did.did (done.told s r)
    (coord_is_up s k (s.coord k).up step up) done.served (held_left g.E.Engine.takes g.E.Engine.stands_for c.coord_does.new.self (with_coord s k step.state) new stood done.served.kept) c.tells_of_coord.ensures.items
    (c.tells_of_coord.ensures.stands (with_coord s k step.state) stood) (c.tells_of_coord.ensures.held new done.served.kept) c.tells_of_coord.ensures.memory

pub returns-clause-pins : goal.returns-clause-pins
returns-clause-pins g c = pins_on g.E.Engine.pins c.args.self.now c.coord_does.new.self c.tells_of_coord.new.self c.coord_does.ensures.pins c.tells_of_coord.ensures.nodes
