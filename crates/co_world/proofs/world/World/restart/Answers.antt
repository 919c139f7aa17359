use Rattle.std.proofs.Common.{Err, length, sym, ap, subst, refl}
use Rattle.co_base.specs.declared.node.Node.{Node}
use Rattle.co_plain.specs.Federation.{with_member, with_coord, at_member, at_coord}
use Rattle.co_plain.specs.MemberLog.{member_restart}
use Rattle.co_plain.specs.CoordLog.{coord_restart}
use Rattle.co_plain.specs.Step.{restart_at, disarmed}
use Rattle.co_schedule.specs.View.{IsNode}
use Rattle.co_world.proofs.Ends.{passed_limit, no_limit}
use Rattle.co_cluster.proofs.Ready.{restarts_member, restarts_coord}
use Rattle.co_cluster.proofs.Lefts.{either_left}
use Rattle.co_world.proofs.Nodes.{held_left, pins_on}
use Rattle.co_world.proofs.LeftSteps.{at_coord_left, at_member_left, at_member_overlong, at_coord_overlong}
use Rattle.co_cluster.specs.Left.{coord_disarmed, member_disarmed}
use Rattle.co_world.proofs.Answering.{passed_answer, did_at_member, did_at_coord}
use Rattle.co_world.specs.Answered.{AnswersEvent}
use Rattle.co_base.specs.declared.node.Node.TheVariants as node
use Rattle.co_world.proofs.world.World.restart.Goals as goal

pub member_does-requires-clause-in_head : goal.member_does-requires-clause-in_head
member_does-requires-clause-in_head g c =
    subst (λ (n : Node). IsNode (length c.args.self.now.cluster.members.items) (length c.args.self.now.cluster.coords.items) n) c.in-Member.is c.requires.in_head

pub member_does-requires-clause-stands : goal.member_does-requires-clause-stands
member_does-requires-clause-stands g c =
    let s = c.requires.stands.0 in
    let r = c.requires.stands.1 in
    let ready = c.requires.stands.2 in
    (s, r, restarts_member s ready c.in-Member.member)

pub returns-in_err-did-in-Member-clause-count : goal.returns-in_err-did-in-Member-clause-count
returns-in_err-did-in-Member-clause-count g c =
    passed_limit c.in_err-did-in-Member.field-0.0 c.from_residual.result c.from_residual.ensures (λ e. c.in_err-did-in-Member.ensures.count (ap Err e))

pub returns-in_ok-did-in-Member-clause-count : goal.returns-in_ok-did-in-Member-clause-count
returns-in_ok-did-in-Member-clause-count g c =
    no_limit c.tells_of_member.result c.tells_of_member.ensures.memory

pub coord_does-requires-clause-in_head : goal.coord_does-requires-clause-in_head
coord_does-requires-clause-in_head g c =
    subst (λ (n : Node). IsNode (length c.args.self.now.cluster.members.items) (length c.args.self.now.cluster.coords.items) n) c.in-Coord.is c.requires.in_head

pub coord_does-requires-clause-stands : goal.coord_does-requires-clause-stands
coord_does-requires-clause-stands g c =
    let s = c.requires.stands.0 in
    let r = c.requires.stands.1 in
    let ready = c.requires.stands.2 in
    (s, r, restarts_coord s ready c.in-Coord.coord)

pub returns-in_err-did-in-Coord-clause-count : goal.returns-in_err-did-in-Coord-clause-count
returns-in_err-did-in-Coord-clause-count g c =
    passed_limit c.in_err-did-in-Coord.field-0.0 c.from_residual-in_err-did-in-Coord.result c.from_residual-in_err-did-in-Coord.ensures (λ e. c.in_err-did-in-Coord.ensures.count (ap Err e))

pub returns-in_ok-did-in-Coord-clause-count : goal.returns-in_ok-did-in-Coord-clause-count
returns-in_ok-did-in-Coord-clause-count g c =
    no_limit c.tells_of_coord.result c.tells_of_coord.ensures.memory

pub returns-in_err-did-in-Member-clause-answered : goal.returns-in_err-did-in-Member-clause-answered
returns-in_err-did-in-Member-clause-answered g c = λ s r.
    let k = c.in-Member.member in
    let old = g.H.Home.seen c.args.home.now in
    let new = g.H.Home.seen c.member_does.new.home in
    let step = member_restart (s.member k) in
    let whole = member_restart (member_disarmed (s.member k)) in
    let fault = c.in_err-did-in-Member.field-0.0 in
    subst (λ (n : Node). AnswersEvent g.E.Engine.takes g.E.Engine.stands_for c.args.number (λ z. restart_at z n) s c.member_does.new.self old new c.from_residual.result) (sym c.in-Member.is)
    (passed_answer g.E.Engine.takes g.E.Engine.stands_for c.args.number (λ z. restart_at z (node.Member c.in-Member.member)) s c.member_does.new.self old new c.from_residual.result fault c.from_residual.ensures
    (record {
      left = either_left new.file s s (at_member s k step).state (at_member (disarmed s) k whole).state (with_member (disarmed s) k whole.state) fault (λ left. left) (at_member_left new.file (disarmed s) k whole)
          (at_member_overlong new.file (disarmed s) k whole) (c.in_err-did-in-Member.ensures.left s r);
      ended = c.in_err-did-in-Member.ensures.ended;
    }))

pub returns-in_ok-did-in-Member-clause-answered : goal.returns-in_ok-did-in-Member-clause-answered
returns-in_ok-did-in-Member-clause-answered g c = λ s r.
    let k = c.in-Member.member in
    let old = g.H.Home.seen c.args.home.now in
    let new = g.H.Home.seen c.member_does.new.home in
    let step = member_restart (s.member k) in
    let done = c.in_ok-did-in-Member.ensures in
    let stood = done.stands s r in
    subst (λ (n : Node). AnswersEvent g.E.Engine.takes g.E.Engine.stands_for c.args.number (λ z. restart_at z n) s c.tells_of_member.new.self old new c.tells_of_member.result) (sym c.in-Member.is)
    (did_at_member g.E.Engine.takes g.E.Engine.stands_for c.args.number (λ z. restart_at z (node.Member c.in-Member.member)) s c.member_does.new.self c.tells_of_member.new.self old new c.tells_of_member.result s k step c.in_ok-did-in-Member.did (done.told s r) refl done.served
    (held_left g.E.Engine.takes g.E.Engine.stands_for c.member_does.new.self (with_member s k step.state) new stood done.served.kept) c.tells_of_member.ensures.items (c.tells_of_member.ensures.stands (with_member s k step.state) stood)
    (c.tells_of_member.ensures.held new done.served.kept) c.tells_of_member.ensures.memory)

pub returns-in_err-did-in-Coord-clause-answered : goal.returns-in_err-did-in-Coord-clause-answered
returns-in_err-did-in-Coord-clause-answered g c = λ s r.
    let k = c.in-Coord.coord in
    let old = g.H.Home.seen c.args.home.now in
    let new = g.H.Home.seen c.coord_does.new.home in
    let step = coord_restart (s.coord k) in
    let whole = coord_restart (coord_disarmed (s.coord k)) in
    let fault = c.in_err-did-in-Coord.field-0.0 in
    subst (λ (n : Node). AnswersEvent g.E.Engine.takes g.E.Engine.stands_for c.args.number (λ z. restart_at z n) s c.coord_does.new.self old new c.from_residual-in_err-did-in-Coord.result) (sym c.in-Coord.is)
    (passed_answer g.E.Engine.takes g.E.Engine.stands_for c.args.number (λ z. restart_at z (node.Coord c.in-Coord.coord)) s c.coord_does.new.self old new c.from_residual-in_err-did-in-Coord.result fault c.from_residual-in_err-did-in-Coord.ensures
    (record {
      left = either_left new.file s s (at_coord s k step).state (at_coord (disarmed s) k whole).state (with_coord (disarmed s) k whole.state) fault (λ left. left) (at_coord_left new.file (disarmed s) k whole)
          (at_coord_overlong new.file (disarmed s) k whole) (c.in_err-did-in-Coord.ensures.left s r);
      ended = c.in_err-did-in-Coord.ensures.ended;
    }))

pub returns-in_ok-did-in-Coord-clause-answered : goal.returns-in_ok-did-in-Coord-clause-answered
returns-in_ok-did-in-Coord-clause-answered g c = λ s r.
    let k = c.in-Coord.coord in
    let old = g.H.Home.seen c.args.home.now in
    let new = g.H.Home.seen c.coord_does.new.home in
    let step = coord_restart (s.coord k) in
    let done = c.in_ok-did-in-Coord.ensures in
    let stood = done.stands s r in
    subst (λ (n : Node). AnswersEvent g.E.Engine.takes g.E.Engine.stands_for c.args.number (λ z. restart_at z n) s c.tells_of_coord.new.self old new c.tells_of_coord.result) (sym c.in-Coord.is)
    (did_at_coord g.E.Engine.takes g.E.Engine.stands_for c.args.number (λ z. restart_at z (node.Coord c.in-Coord.coord)) s c.coord_does.new.self c.tells_of_coord.new.self old new c.tells_of_coord.result s k step c.in_ok-did-in-Coord.did (done.told s r) refl done.served
    (held_left g.E.Engine.takes g.E.Engine.stands_for c.coord_does.new.self (with_coord s k step.state) new stood done.served.kept) c.tells_of_coord.ensures.items (c.tells_of_coord.ensures.stands (with_coord s k step.state) stood)
    (c.tells_of_coord.ensures.held new done.served.kept) c.tells_of_coord.ensures.memory)

pub returns-in_ok-did-in-Member-clause-pins : goal.returns-in_ok-did-in-Member-clause-pins
returns-in_ok-did-in-Member-clause-pins g c = pins_on g.E.Engine.pins c.args.self.now c.member_does.new.self c.tells_of_member.new.self c.member_does.ensures.pins c.tells_of_member.ensures.nodes

pub returns-in_ok-did-in-Coord-clause-pins : goal.returns-in_ok-did-in-Coord-clause-pins
returns-in_ok-did-in-Coord-clause-pins g c = pins_on g.E.Engine.pins c.args.self.now c.coord_does.new.self c.tells_of_coord.new.self c.coord_does.ensures.pins c.tells_of_coord.ensures.nodes
