use Rattle.co_plain.specs.Step.{step, disarmed, member_step}
use Rattle.co_plain.specs.declared.happening.Happening.TheVariants as happening
use Rattle.co_world.proofs.HandedVerdicts.{handed_is}
use Rattle.co_world.proofs.Answering.{answered_as}
use Rattle.co_message.specs.declared.message.Message.TheVariants as message
use Rattle.co_cluster.specs.Calls.{member_does}
use Rattle.co_cluster.specs.declared.calls.MemberCall.TheVariants as to_member
use Rattle.co_world.proofs.world.World.hand.Goals as goal

pub at_member-requires-clause-stands : goal.at_member-requires-clause-stands
at_member-requires-clause-stands g c = let w = c.requires.voted in (w.0, w.1, λ up. (up, tt, tt))

pub returns-clause-answered : goal.returns-clause-answered
returns-clause-answered g c = λ s r.
    let k = c.args.member in
    let note = message.Decide c.args.t c.asker_of-coord.result k c.args.commit in
    answered_as g.E.Engine.takes g.E.Engine.stands_for c.args.number (λ z. member_step z k (member_does k (to_member.Deliver note))) (λ z. step z (happening.Hand c.args.t k c.args.commit)) s c.at_member.new.self (g.H.Home.seen c.args.home.now)
    (g.H.Home.seen c.at_member.new.home) c.at_member.result (handed_is s k c.args.t c.asker_of-coord.result c.args.commit (c.asker_of-coord.ensures s r))
    (handed_is (disarmed s) k c.args.t c.asker_of-coord.result c.args.commit (c.asker_of-coord.ensures s r)) (c.at_member.ensures.answered s r)
