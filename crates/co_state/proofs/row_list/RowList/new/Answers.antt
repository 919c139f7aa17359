use Rattle.co_base.proofs.Ordered.{sorted_none}
use Rattle.co_state.proofs.row_list.RowList.new.Goals as goal

pub invariant_of-result : goal.invariant_of-result
invariant_of-result c = rw c.new.ensures.items (sorted_none _)
