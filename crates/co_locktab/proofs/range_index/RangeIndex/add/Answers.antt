use Rattle.std.proofs.Common.{subst, sym}
use Rattle.co_state.proofs.Tables.{on_ok}
use Rattle.co_locktab.specs.Places.{IsIndexed}
use Rattle.co_locktab.proofs.Indexing.{indexed_with}
use Rattle.co_locktab.proofs.range_index.RangeIndex.add.Goals as goal

pub returns-clause-indexed : goal.returns-clause-indexed
returns-clause-indexed c = λ x.
    let table = c.args.self.now in
    on_ok c.add-2.result
    (λ e. subst (λ m. IsIndexed m c.add.new.self) (sym e)
    (indexed_with table.held table.forks c.add.new.self c.args.range.now c.args.t c.in_ok-add.ensures.lower c.in_ok-add.ensures.upper c.in_ok-add.ensures.path x))
    c.add-2.ensures
