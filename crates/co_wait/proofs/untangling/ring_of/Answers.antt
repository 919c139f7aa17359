-- What was followed from the place of the transaction on is the ring.
use Rattle.co_wait.proofs.Cycles.{ring_result}
use Rattle.co_wait.proofs.untangling.ring_of.Goals as goal

pub returns : goal.returns
returns c = ring_result c.args.path.now c.args.txn c.place_of.result c.waits_from.result c.place_of.ensures.within c.place_of.ensures.here c.waits_from.ensures
