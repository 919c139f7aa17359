use Rattle.std.proofs.Common.{length, sym, subst}
use Rattle.co_base.specs.declared.node.Node.{Node}
use Rattle.co_plain.specs.Step.{checkpoint_at}
use Rattle.co_schedule.specs.View.{IsNode}
use Rattle.co_world.proofs.Acting.{own_coord, own_member}
use Rattle.co_cluster.proofs.Ready.{checkpoints_member, checkpoints_coord}
use Rattle.co_world.specs.Answered.{AnswersEvent}
use Rattle.co_world.proofs.world.World.checkpoint.Goals as goal

pub at_member-requires-clause-in_head : goal.at_member-requires-clause-in_head
at_member-requires-clause-in_head g c =
    subst (λ (n : Node). IsNode (length c.args.self.now.cluster.members.items) (length c.args.self.now.cluster.coords.items) n) c.in-Member.is c.requires.in_head

pub at_member-requires-clause-stands : goal.at_member-requires-clause-stands
at_member-requires-clause-stands g c =
    let s = c.requires.stands.0 in
    let r = c.requires.stands.1 in
    let ready = c.requires.stands.2 in
    let own = own_member g.E.Engine.takes g.E.Engine.stands_for c.args.self.now s r c.in-Member.member (subst (λ (n : Node). IsNode (length c.args.self.now.cluster.members.items) (length c.args.self.now.cluster.coords.items) n) c.in-Member.is c.requires.in_head) in
    (s, r, λ up. checkpoints_member s ready c.in-Member.member own up)

pub returns-in-Member-clause-count : goal.returns-in-Member-clause-count
returns-in-Member-clause-count g c =
    c.at_member.ensures.count

pub at_coord-requires-clause-in_head : goal.at_coord-requires-clause-in_head
at_coord-requires-clause-in_head g c =
    subst (λ (n : Node). IsNode (length c.args.self.now.cluster.members.items) (length c.args.self.now.cluster.coords.items) n) c.in-Coord.is c.requires.in_head

pub at_coord-requires-clause-stands : goal.at_coord-requires-clause-stands
at_coord-requires-clause-stands g c =
    let s = c.requires.stands.0 in
    let r = c.requires.stands.1 in
    let ready = c.requires.stands.2 in
    let own = own_coord g.E.Engine.takes g.E.Engine.stands_for c.args.self.now s r c.in-Coord.coord (subst (λ (n : Node). IsNode (length c.args.self.now.cluster.members.items) (length c.args.self.now.cluster.coords.items) n) c.in-Coord.is c.requires.in_head) in
    (s, r, λ up. checkpoints_coord s ready c.in-Coord.coord own up)

pub returns-in-Coord-clause-count : goal.returns-in-Coord-clause-count
returns-in-Coord-clause-count g c =
    c.at_coord.ensures.count

pub returns-in-Member-clause-answered : goal.returns-in-Member-clause-answered
returns-in-Member-clause-answered g c = λ s r.
    subst (λ (n : Node). AnswersEvent g.E.Engine.takes g.E.Engine.stands_for c.args.number (λ z. checkpoint_at z n) s c.at_member.new.self (g.H.Home.seen c.args.home.now) (g.H.Home.seen c.at_member.new.home) c.at_member.result) (sym c.in-Member.is)
    (c.at_member.ensures.answered s r)

pub returns-in-Coord-clause-answered : goal.returns-in-Coord-clause-answered
returns-in-Coord-clause-answered g c = λ s r.
    subst (λ (n : Node). AnswersEvent g.E.Engine.takes g.E.Engine.stands_for c.args.number (λ z. checkpoint_at z n) s c.at_coord.new.self (g.H.Home.seen c.args.home.now) (g.H.Home.seen c.at_coord.new.home) c.at_coord.result) (sym c.in-Coord.is)
    (c.at_coord.ensures.answered s r)
