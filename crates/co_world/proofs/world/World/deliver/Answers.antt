use Rattle.std.proofs.Common.{◌≡◌, true, false, length, refl, sym, ap, ◌∙◌, subst}
use Rattle.std.specs.Prelude.{List}
use Rattle.co_world.proofs.Arriving.{receiver_in_head, delivers_to_member, delivers_to_coord, never_sent, unsent_is}
use Rattle.co_plain.specs.Wire.{was_sent}
use Rattle.co_message.specs.declared.message.Message.{Message}
use Rattle.co_base.specs.declared.node.Node.{Node}
use Rattle.co_message.specs.declared.answer.Answer.TheVariants as answer
use Rattle.co_plain.specs.Step.{deliver, disarmed, member_step, coord_step}
use Rattle.co_schedule.specs.View.{IsNode}
use Rattle.co_world.proofs.Acting.{own_coord, own_member}
use Rattle.co_world.proofs.Ends.{no_limit}
use Rattle.co_cluster.proofs.Ready.{takes_note, hears_note}
use Rattle.co_world.proofs.Answering.{answered_as, refused_alone}
use Rattle.co_cluster.specs.Calls.{member_does, coord_does}
use Rattle.co_cluster.specs.declared.calls.CoordCall.TheVariants as to_coord
use Rattle.co_cluster.specs.declared.calls.MemberCall.TheVariants as to_member
use Rattle.co_world.proofs.world.World.deliver.Goals as goal

pub at_member-requires-clause-in_head : goal.at_member-requires-clause-in_head
at_member-requires-clause-in_head g c =
    subst (λ (n : Node). IsNode (length c.args.self.now.cluster.members.items) (length c.args.self.now.cluster.coords.items) n) (sym c.in-Member.ensures) (receiver_in_head (length c.args.self.now.cluster.members.items) (length c.args.self.now.cluster.coords.items) c.args.message c.requires.in_head)

pub at_member-requires-clause-stands : goal.at_member-requires-clause-stands
at_member-requires-clause-stands g c =
    let s = c.requires.stands.0 in
    let r = c.requires.stands.1 in
    let ready = c.requires.stands.2 in
    let own = own_member g.E.Engine.takes g.E.Engine.stands_for c.args.self.now s r c.in-Member.member (subst (λ (n : Node). IsNode (length c.args.self.now.cluster.members.items) (length c.args.self.now.cluster.coords.items) n) (sym c.in-Member.ensures) (receiver_in_head (length c.args.self.now.cluster.members.items) (length c.args.self.now.cluster.coords.items) c.args.message c.requires.in_head)) in
    let sent : was_sent s.sent c.args.message ≡ true = sym (ap (λ (ms : List Message). was_sent ms c.args.message) r.wire) ∙ c.in-Ok.ensures.ok.0 refl in
    (s, r, λ up. takes_note s ready c.in-Member.member own c.args.message sent up)

pub returns-in-Member-clause-count : goal.returns-in-Member-clause-count
returns-in-Member-clause-count g c =
    c.at_member.ensures.count

pub at_coord-requires-clause-in_head : goal.at_coord-requires-clause-in_head
at_coord-requires-clause-in_head g c =
    subst (λ (n : Node). IsNode (length c.args.self.now.cluster.members.items) (length c.args.self.now.cluster.coords.items) n) (sym c.in-Coord.ensures) (receiver_in_head (length c.args.self.now.cluster.members.items) (length c.args.self.now.cluster.coords.items) c.args.message c.requires.in_head)

pub at_coord-requires-clause-stands : goal.at_coord-requires-clause-stands
at_coord-requires-clause-stands g c =
    let s = c.requires.stands.0 in
    let r = c.requires.stands.1 in
    let ready = c.requires.stands.2 in
    let own = own_coord g.E.Engine.takes g.E.Engine.stands_for c.args.self.now s r c.in-Coord.coord (subst (λ (n : Node). IsNode (length c.args.self.now.cluster.members.items) (length c.args.self.now.cluster.coords.items) n) (sym c.in-Coord.ensures) (receiver_in_head (length c.args.self.now.cluster.members.items) (length c.args.self.now.cluster.coords.items) c.args.message c.requires.in_head)) in
    (s, r, λ up. hears_note s ready c.in-Coord.coord own c.args.message up)

pub returns-in-Coord-clause-count : goal.returns-in-Coord-clause-count
returns-in-Coord-clause-count g c =
    c.at_coord.ensures.count

pub returns-in-Err-clause-count : goal.returns-in-Err-clause-count
returns-in-Err-clause-count g c =
    no_limit c.answers.result c.answers.ensures.memory

pub returns-in-Member-clause-answered : goal.returns-in-Member-clause-answered
returns-in-Member-clause-answered g c = λ s r ready.
    let sent : was_sent s.sent c.args.message ≡ true = sym (ap (λ (ms : List Message). was_sent ms c.args.message) r.wire) ∙ c.in-Ok.ensures.ok.0 refl in
    answered_as g.E.Engine.takes g.E.Engine.stands_for c.args.number (λ z. member_step z c.in-Member.member (member_does c.in-Member.member (to_member.Deliver c.args.message))) (λ z. deliver z c.args.message) s c.at_member.new.self (g.H.Home.seen c.args.home.now) (g.H.Home.seen c.at_member.new.home) c.at_member.result
    (delivers_to_member s c.args.message c.in-Member.member c.in-Member.ensures sent) (delivers_to_member (disarmed s) c.args.message c.in-Member.member c.in-Member.ensures sent) (c.at_member.ensures.answered s r)

pub returns-in-Coord-clause-answered : goal.returns-in-Coord-clause-answered
returns-in-Coord-clause-answered g c = λ s r ready.
    let sent : was_sent s.sent c.args.message ≡ true = sym (ap (λ (ms : List Message). was_sent ms c.args.message) r.wire) ∙ c.in-Ok.ensures.ok.0 refl in
    answered_as g.E.Engine.takes g.E.Engine.stands_for c.args.number (λ z. coord_step z c.in-Coord.coord (coord_does c.in-Coord.coord (to_coord.Deliver c.args.message))) (λ z. deliver z c.args.message) s c.at_coord.new.self (g.H.Home.seen c.args.home.now) (g.H.Home.seen c.at_coord.new.home) c.at_coord.result
    (delivers_to_coord s c.args.message c.in-Coord.coord c.in-Coord.ensures sent) (delivers_to_coord (disarmed s) c.args.message c.in-Coord.coord c.in-Coord.ensures sent) (c.at_coord.ensures.answered s r)

pub returns-in-Err-clause-answered : goal.returns-in-Err-clause-answered
returns-in-Err-clause-answered g c = λ s r ready.
    let unsent : was_sent s.sent c.args.message ≡ false = sym (ap (λ (ms : List Message). was_sent ms c.args.message) r.wire) ∙ never_sent c.args.self.now.wire c.args.message c.in-Err.ensures.ok in
    refused_alone g.E.Engine.takes g.E.Engine.stands_for c.args.number (λ z. deliver z c.args.message) s answer.Unsent c.args.self.now (g.H.Home.seen c.args.home.now) c.answers.result (unsent_is s c.args.message unsent) r c.requires.held (c.answers.ensures.items s) c.answers.ensures.memory
