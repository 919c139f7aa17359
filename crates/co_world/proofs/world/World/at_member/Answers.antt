use Rattle.std.proofs.Common.{◌≡◌, true, false, sym, ◌∙◌}
use Rattle.co_plain.specs.Federation.{with_member}
use Rattle.co_plain.specs.Step.{disarmed, up_member, member_step}
use Rattle.co_cluster.specs.Calls.{member_does}
use Rattle.co_cluster.specs.Left.{member_disarmed}
use Rattle.co_cluster.proofs.Lefts.{either_left, member_step_left, member_step_overlong}
use Rattle.co_world.proofs.Nodes.{held_left, pins_on}
use Rattle.co_world.proofs.Steps.{member_is_down, member_is_up}
use Rattle.co_world.proofs.Answering.{refused_alone, passed_answer, did_at_member}
use Rattle.co_base.specs.declared.node.Node.TheVariants as node
use Rattle.co_message.specs.declared.answer.Answer.TheVariants as answer
use Rattle.co_world.proofs.world.World.at_member.Goals as goal

pub member_does-requires-clause-stands : goal.member_does-requires-clause-stands
member_does-requires-clause-stands g c =
    let s = c.requires.stands.0 in
    let r = c.requires.stands.1 in
    (s, r, c.requires.stands.2 (sym (c.member_up.ensures s r) ∙ c.if-not-member_up.false))

pub returns-then-not-member_up-clause-answered : goal.returns-then-not-member_up-clause-answered
returns-then-not-member_up-clause-answered g c = λ s r.
    let k = c.args.member in
    let down : (s.member k).up ≡ false = sym (c.member_up.ensures s r) ∙ c.if-not-member_up.true in
    refused_alone g.E.Engine.takes g.E.Engine.stands_for c.args.number (λ z. member_step z c.args.member (member_does c.args.member c.args.call)) s (answer.Down (node.Member k)) c.args.self.now (g.H.Home.seen c.args.home.now) c.answers.result
    (member_is_down s k (s.member k).up (member_does k c.args.call (s.member k)) down) r c.requires.held (c.answers.ensures.items s) c.answers.ensures.memory

pub returns-in_err-did-clause-answered : goal.returns-in_err-did-clause-answered
returns-in_err-did-clause-answered g c = λ s r.
    let k = c.args.member in
    let old = g.H.Home.seen c.args.home.now in
    let new = g.H.Home.seen c.member_does.new.home in
    let up : (s.member k).up ≡ true = sym (c.member_up.ensures s r) ∙ c.if-not-member_up.false in
    let step = member_does k c.args.call (s.member k) in
    let whole = member_does k c.args.call (member_disarmed (s.member k)) in
    let fault = c.in_err-did.field-0.0 in
    passed_answer g.E.Engine.takes g.E.Engine.stands_for c.args.number (λ z. member_step z c.args.member (member_does c.args.member c.args.call)) s c.member_does.new.self old new c.from_residual.result fault c.from_residual.ensures
    (record {
      left = either_left new.file s s (up_member s k (s.member k).up step).state (up_member (disarmed s) k (s.member k).up whole).state (with_member (disarmed s) k whole.state) fault (λ left. left)
          (member_step_left new.file (disarmed s) k (s.member k).up whole up) (member_step_overlong (disarmed s) k (s.member k).up whole up) (c.in_err-did.ensures.left s r);
      ended = c.in_err-did.ensures.ended;
    })

pub returns-clause-answered : goal.returns-clause-answered
returns-clause-answered g c = λ s r.
    let k = c.args.member in
    let old = g.H.Home.seen c.args.home.now in
    let new = g.H.Home.seen c.member_does.new.home in
    let up : (s.member k).up ≡ true = sym (c.member_up.ensures s r) ∙ c.if-not-member_up.false in
    let step = member_does k c.args.call (s.member k) in
    let done = c.in_ok-did.ensures in
    let stood = done.stands s r in
    did_at_member g.E.Engine.takes g.E.Engine.stands_for c.args.number (λ z. member_step z c.args.member (member_does c.args.member c.args.call)) s c.member_does.new.self c.tells_of_member.new.self old new c.tells_of_member.result s k step c.in_ok-did.did (done.told s r)
    (member_is_up s k (s.member k).up step up) done.served (held_left g.E.Engine.takes g.E.Engine.stands_for c.member_does.new.self (with_member s k step.state) new stood done.served.kept) c.tells_of_member.ensures.items
    (c.tells_of_member.ensures.stands (with_member s k step.state) stood) (c.tells_of_member.ensures.held new done.served.kept) c.tells_of_member.ensures.memory

pub returns-clause-pins : goal.returns-clause-pins
returns-clause-pins g c = pins_on g.E.Engine.pins c.args.self.now c.member_does.new.self c.tells_of_member.new.self c.member_does.ensures.pins c.tells_of_member.ensures.nodes
