use Rattle.std.proofs.Common.{ap, ◌∙◌}
use Rattle.std.specs.FinMap.{insert}
use Rattle.co_state.proofs.Ascending.{laid_found, laid_gap}
use Rattle.co_state.proofs.row_list.RowList.set.Goals as goal

pub invariant_of-self : goal.invariant_of-self
invariant_of-self c = (laid_found c.args.key _ _ c.as_slice.ensures.value c.self.invariant c.in-Ok.place c.args.value c.in-Ok.ensures.bound c.in-Ok.ensures.position).in_order

pub invariant_of-self-in-Continue-1 : goal.invariant_of-self-in-Continue-1
invariant_of-self-in-Continue-1 c =
    (laid_gap c.args.key _ _ c.as_slice.ensures.value c.self.invariant c.in-Err.place c.args.value _ c.in-Err.ensures.position c.in_ok-insert-in-Err.ensures.items).in_order

pub returns-in-Ok-clause-ok : goal.returns-in-Ok-clause-ok
returns-in-Ok-clause-ok c =
    (laid_found c.args.key _ _ c.as_slice.ensures.value c.self.invariant c.in-Ok.place c.args.value c.in-Ok.ensures.bound c.in-Ok.ensures.position).gives
    ∙ ap (λ m. insert m c.args.key c.args.value) c.self.view_is

pub returns-in_ok-insert-in-Err-clause-ok : goal.returns-in_ok-insert-in-Err-clause-ok
returns-in_ok-insert-in-Err-clause-ok c =
    (laid_gap c.args.key _ _ c.as_slice.ensures.value c.self.invariant c.in-Err.place c.args.value _ c.in-Err.ensures.position c.in_ok-insert-in-Err.ensures.items).gives
    ∙ ap (λ m. insert m c.args.key c.args.value) c.self.view_is
