use Rattle.co_locktab.proofs.Looking.{weighs_lower, weighs_upper}
use Rattle.co_locktab.proofs.range_index.RangeIndex.least_at.Goals as goal

pub returns-then-from-fork : goal.returns-then-from-fork
returns-then-from-fork c = λ x.
    weighs_lower c.args.self.now.held c.args.self.now.forks c.args.key.now c.args.t c.args.fork c.args.before c.least_from_below.result x c.least_from_below.ensures

pub returns-else-from-fork : goal.returns-else-from-fork
returns-else-from-fork c = λ x.
    weighs_upper c.args.self.now.held c.args.self.now.forks c.args.key.now c.args.t c.args.fork c.args.before c.least_from_above.result x c.least_from_above.ensures
