use Rattle.std.proofs.Common.{ap, sym, ◌∙◌}
use Rattle.co_state.proofs.Rows.{laid_under, laid_under-push, laid_under-empty}
use Rattle.co_state.proofs.records.records_from.Goals as goal

pub loop-row-init : goal.loop-row-init
loop-row-init c = ap (laid_under c.args.rows.items) c.new-records.ensures ∙ laid_under-empty c.args.rows.items

pub loop-row-preserved : goal.loop-row-preserved
loop-row-preserved c =
    ap (laid_under c.pop.new.self.items) c.in_ok-set.ensures.ok ∙ sym (laid_under-push c.pop.new.self.items c.in-Some.row c.loop-row.records)
    ∙ ap (λ rs. laid_under rs c.loop-row.records) (sym c.in-Some.ensures.items) ∙ c.loop-row.invariant
