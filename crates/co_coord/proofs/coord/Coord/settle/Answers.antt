use Rattle.co_coord.proofs.Carrying.{settled_by}
use Rattle.co_coord.proofs.coord.Coord.settle.Goals as goal

pub returns-clause-did : goal.returns-clause-did
returns-clause-did c = λ y r.
    let kept = c.change-changed.ensures in
    settled_by c.args.self.now c.change-changed.new.self y c.args.txn c.args.plan c.change-changed.result c.settled.result c.requires.quiet r c.requires.up kept.same.number kept.log kept.table c.settled.ensures.done c.settled.ensures.memory
