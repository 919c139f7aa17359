use Rattle.std.proofs.Common.{refl}
use Rattle.co_base.specs.declared.node.Node.TheVariants as node
use Rattle.co_coord.specs.declared.coord.Coord.{Coord}
use Rattle.co_coord.proofs.Carrying.{armed_step}
use Rattle.co_coord.proofs.coord.Coord.arm.Goals as goal

pub returns-clause-did : goal.returns-clause-did
returns-clause-did c = λ y r.
    let x = c.args.self.now in
    let after : Coord = record x { log = c.arm.new.log } in
    armed_step x after y c.args.stop c.args.leaves c.new.result c.new-2.result c.new.ensures c.new-2.ensures r c.requires.up refl refl (c.arm.ensures.stands (node.Coord x.number) y.log r.log)
