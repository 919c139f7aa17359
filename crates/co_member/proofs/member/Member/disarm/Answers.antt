use Rattle.std.proofs.Common.{refl}
use Rattle.co_base.specs.declared.node.Node.TheVariants as node
use Rattle.co_member.proofs.Carrying.{disarmed_stands}
use Rattle.co_member.proofs.member.Member.disarm.Goals as goal

pub returns-clause-did : goal.returns-clause-did
returns-clause-did g c = λ y r.
    let x = c.args.self.now in
    disarmed_stands g.E.Engine.stands_for x (record x { log = c.disarm.new.log }) y r refl refl refl (c.disarm.ensures.stands (node.Member x.number) y.log r.log)
