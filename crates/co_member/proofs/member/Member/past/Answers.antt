use Rattle.co_base.specs.declared.node.Node.TheVariants as node
use Rattle.co_member.proofs.member.Member.past.Goals as goal

pub recovered-requires : goal.recovered-requires
recovered-requires g c =
    let x = c.requires.stands.0 in
    (node.Member c.args.self.now.number, x.log, c.requires.stands.1.log, c.requires.stands.2)

pub returns : goal.returns
returns g c = λ x r. c.recovered.ensures (node.Member c.args.self.now.number) x.log r.log
