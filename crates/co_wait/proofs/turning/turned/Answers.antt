-- What stands from the least transaction on comes first.
use Rattle.std.proofs.Common.{◌≡◌, ◌++◌, drop, take, rules}
use Rattle.co_wait.proofs.Turns.{turned_at}
use Rattle.co_wait.proofs.turning.turned.Goals as goal

pub returns : goal.returns
returns c =
    let joined : c.of.result ≡ drop c.least_place.result c.args.ring.now ++ take c.least_place.result c.args.ring.now = search rules in
    turned_at c.args.ring.now c.of.result c.least_place.result c.least_place.ensures.within c.least_place.ensures.least joined
