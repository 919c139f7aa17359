use Rattle.std.proofs.Common.{refl}
use Rattle.co_base.specs.declared.node.Node.TheVariants as node
use Rattle.co_coord.specs.declared.coord.Coord.{Coord}
use Rattle.co_coord.proofs.Carrying.{disarmed_stands}
use Rattle.co_coord.proofs.coord.Coord.disarm.Goals as goal

pub returns-clause-did : goal.returns-clause-did
returns-clause-did c = λ y r.
    let x = c.args.self.now in
    let after : Coord = record x { log = c.disarm.new.log } in
    disarmed_stands x after y r refl refl (c.disarm.ensures.stands (node.Coord x.number) y.log r.log)
