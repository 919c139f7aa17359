use Rattle.std.proofs.Common.{refl}
use Rattle.std.specs.Prelude.{None}
use Rattle.co_base.specs.declared.node.Node.TheVariants as node
use Rattle.co_coord.specs.declared.coord.Coord.{Coord}
use Rattle.co_coord.proofs.Carrying.{crashed_step}
use Rattle.co_coord.proofs.coord.Coord.crash.Goals as goal

pub crash-requires-clause-stands : goal.crash-requires-clause-stands
crash-requires-clause-stands g c = (node.Coord c.args.self.now.number, c.requires.stands.0.log, c.requires.stands.1.log)

pub returns-clause-did : goal.returns-clause-did
returns-clause-did g c = λ y r.
    let x = c.args.self.now in
    let after : Coord = record x { log = c.crash.new.log; table = None } in
    crashed_step x after y c.new.result c.new-2.result c.new.ensures c.new-2.ensures refl refl (c.crash.ensures.stands (node.Coord x.number) y.log r.log)
