use Rattle.std.proofs.Common.{ap, ◌∙◌}
use Rattle.co_store.specs.Images.{slots_from}
use Rattle.co_store.specs.StoreState.{state_of_rows}
use Rattle.co_store.proofs.Showing.{shown_rows, shown_along}
use Rattle.co_store.proofs.store.Store.of_rows.Goals as goal

pub returns : goal.returns
returns c =
    shown_along (state_of_rows c.args.rows) (c.in_ok-slots_of.ensures ∙ ap slots_from c.into_vec.ensures.value) c.new.ensures (shown_rows c.args.rows)
