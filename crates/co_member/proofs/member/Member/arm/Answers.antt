use Rattle.std.proofs.Common.{refl}
use Rattle.co_base.specs.declared.node.Node.TheVariants as node
use Rattle.co_member.proofs.Carrying.{armed_step}
use Rattle.co_member.proofs.member.Member.arm.Goals as goal

pub returns-clause-did : goal.returns-clause-did
returns-clause-did g c = λ y r.
    let x = c.args.self.now in
    armed_step g.E.Engine.stands_for x (record x { log = c.arm.new.log }) y c.args.stop c.args.leaves c.new.result c.new.ensures r c.requires.up refl refl refl (c.arm.ensures.stands (node.Member x.number) y.log r.log)
