use Rattle.std.proofs.Common.{sym, ap, ◌∙◌}
use Rattle.std.specs.FinMap.{remove}
use Rattle.co_state.proofs.Ascending.{taken_found, taken_gap}
use Rattle.co_state.proofs.row_list.RowList.remove.Goals as goal

pub invariant_of-self : goal.invariant_of-self
invariant_of-self c = (taken_found c.args.key.now _ _ c.as_slice.ensures.value c.self.invariant c.in-Ok.place _ c.in-Ok.ensures.bound c.in-Ok.ensures.position c.remove.ensures.items).in_order

pub returns-in-Ok : goal.returns-in-Ok
returns-in-Ok c =
    (taken_found c.args.key.now _ _ c.as_slice.ensures.value c.self.invariant c.in-Ok.place _ c.in-Ok.ensures.bound c.in-Ok.ensures.position c.remove.ensures.items).gives
    ∙ ap (λ m. remove m c.args.key.now) c.self.view_is

pub returns-in-Err : goal.returns-in-Err
returns-in-Err c =
    sym c.self.view_is ∙ taken_gap c.args.key.now _ _ c.as_slice.ensures.value c.self.invariant c.in-Err.field-0 c.in-Err.ensures.position
    ∙ ap (λ m. remove m c.args.key.now) c.self.view_is
