use Rattle.std.proofs.Common.{refl}
use Rattle.std.specs.Prelude.{false, None}
use Rattle.co_base.specs.declared.node.Node.TheVariants as node
use Rattle.co_message.specs.declared.answer.Answer.TheVariants as answer
use Rattle.co_member.proofs.Carrying.{ended_answered}
use Rattle.co_member.proofs.Checkpointing.{closed_by, spare_alike}
use Rattle.co_member.proofs.member.Member.close.Goals as goal

pub returns-clause-did : goal.returns-clause-did
returns-clause-did g c = λ y r.
    let x = c.args.self.now in
    let open_yet = spare_alike g.E.Engine.stands_for x c.requires.stands.0 y false c.requires.stands.1 r c.requires.stands.2 in
    closed_by g.E.Engine.stands_for x (record x { log = c.close-written.new.log }) c.ended.new.self y c.close-written.result c.ended.result r c.requires.up refl refl refl open_yet (c.close-written.ensures.written (node.Member x.number) y.log r.log) c.ended.ensures.ended
    c.ended.ensures.log c.ended.ensures.same

pub returns-clause-answered : goal.returns-clause-answered
returns-clause-answered g c = λ y r.
    let x = c.args.self.now in
    let n = node.Member x.number in
    ended_answered n x.log.spare.spot ⊥ y.log.stable y.log.stable c.close-written.new.log (g.H.Home.seen c.args.home.now) (g.H.Home.seen c.close-written.new.home) answer.Closed None c.close-written.result (record x { log = c.close-written.new.log }) c.ended.new.self c.ended.result
    c.ended.ensures.ended c.ended.ensures.log refl (c.close-written.ensures.answered n y.log r.log)
