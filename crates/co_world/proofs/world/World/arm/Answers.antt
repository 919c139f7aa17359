use Rattle.std.proofs.Common.{length, refl, sym, subst}
use Rattle.co_base.specs.declared.node.Node.{Node}
use Rattle.co_plain.specs.Step.{arm_at, disarmed}
use Rattle.co_schedule.specs.View.{IsNode}
use Rattle.co_world.proofs.Ends.{passed_memory, no_limit}
use Rattle.co_world.proofs.Answering.{answered_as, wanting}
use Rattle.co_base.specs.declared.node.Node.TheVariants as node
use Rattle.co_world.proofs.world.World.arm.Goals as goal

pub returns-in_err-leaves-clause-count : goal.returns-in_err-leaves-clause-count
returns-in_err-leaves-clause-count g c =
    no_limit c.from_residual.result (passed_memory _ c.from_residual.result c.from_residual.ensures refl)

pub at_member-requires-clause-in_head : goal.at_member-requires-clause-in_head
at_member-requires-clause-in_head g c =
    subst (λ (n : Node). IsNode (length c.args.self.now.cluster.members.items) (length c.args.self.now.cluster.coords.items) n) c.in-Member.is c.requires.in_head

pub at_member-requires-clause-stands : goal.at_member-requires-clause-stands
at_member-requires-clause-stands g c =
    let s = c.requires.stands.0 in
    let r = c.requires.stands.1 in
    let ready = c.requires.stands.2 in
    (s, r, λ up. (up, c.requires.call.0, c.requires.call.1))

pub returns-in-Member-clause-count : goal.returns-in-Member-clause-count
returns-in-Member-clause-count g c =
    c.at_member.ensures.count

pub at_coord-requires-clause-in_head : goal.at_coord-requires-clause-in_head
at_coord-requires-clause-in_head g c =
    subst (λ (n : Node). IsNode (length c.args.self.now.cluster.members.items) (length c.args.self.now.cluster.coords.items) n) c.in-Coord.is c.requires.in_head

pub at_coord-requires-clause-stands : goal.at_coord-requires-clause-stands
at_coord-requires-clause-stands g c =
    let s = c.requires.stands.0 in
    let r = c.requires.stands.1 in
    let ready = c.requires.stands.2 in
    (s, r, λ up. (up, c.requires.call.0, c.requires.call.1))

pub returns-in-Coord-clause-count : goal.returns-in-Coord-clause-count
returns-in-Coord-clause-count g c =
    c.at_coord.ensures.count

pub returns-in_err-leaves-clause-answered : goal.returns-in_err-leaves-clause-answered
returns-in_err-leaves-clause-answered g c = λ s r.
    wanting g.E.Engine.takes g.E.Engine.stands_for c.args.number (λ z. arm_at z c.args.call c.args.leaves.now c.args.node) s c.args.self.now c.args.self.now (g.H.Home.seen c.args.home.now) c.from_residual.result r c.requires.held c.from_residual.ensures

pub returns-in-Member-clause-answered : goal.returns-in-Member-clause-answered
returns-in-Member-clause-answered g c = λ s r.
    answered_as g.E.Engine.takes g.E.Engine.stands_for c.args.number (λ z. arm_at z c.args.call c.in_ok-leaves.leaves (node.Member c.in-Member.member)) (λ z. arm_at z c.args.call c.args.leaves.now c.args.node) s c.at_member.new.self (g.H.Home.seen c.args.home.now)
    (g.H.Home.seen c.at_member.new.home) c.at_member.result (λ i. arm_at s c.args.call (c.in_ok-leaves.ensures i) (sym c.in-Member.is i)) (λ i. arm_at (disarmed s) c.args.call (c.in_ok-leaves.ensures i) (sym c.in-Member.is i))
    (c.at_member.ensures.answered s r)

pub returns-in-Coord-clause-answered : goal.returns-in-Coord-clause-answered
returns-in-Coord-clause-answered g c = λ s r.
    answered_as g.E.Engine.takes g.E.Engine.stands_for c.args.number (λ z. arm_at z c.args.call c.in_ok-leaves.leaves (node.Coord c.in-Coord.coord)) (λ z. arm_at z c.args.call c.args.leaves.now c.args.node) s c.at_coord.new.self (g.H.Home.seen c.args.home.now)
    (g.H.Home.seen c.at_coord.new.home) c.at_coord.result (λ i. arm_at s c.args.call (c.in_ok-leaves.ensures i) (sym c.in-Coord.is i)) (λ i. arm_at (disarmed s) c.args.call (c.in_ok-leaves.ensures i) (sym c.in-Coord.is i))
    (c.at_coord.ensures.answered s r)
