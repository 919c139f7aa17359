use Rattle.std.proofs.Common.{subst, sym}
use Rattle.co_locktab.specs.Places.{IsIndexed}
use Rattle.co_locktab.proofs.Indexing.{indexed_none}
use Rattle.co_locktab.proofs.range_index.RangeIndex.new.Goals as goal

pub returns-clause-indexed : goal.returns-clause-indexed
returns-clause-indexed c = subst (λ m. IsIndexed m c.new-2.result) (sym c.new.ensures) (indexed_none c.new-2.result c.new-2.ensures.lower c.new-2.ensures.upper)
