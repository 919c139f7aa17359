use Rattle.std.proofs.Common.{ap, sym, ◌∙◌}
use Rattle.co_store.proofs.Laying.{slots_under, slots_under-push, slots_under-empty}
use Rattle.co_store.proofs.store.slots_of.Goals as goal

pub loop-row-init : goal.loop-row-init
loop-row-init c = ap (slots_under c.args.rows.items) c.new-slots.ensures ∙ slots_under-empty c.args.rows.items

pub loop-row-preserved : goal.loop-row-preserved
loop-row-preserved c =
    ap (slots_under c.pop.new.self.items) c.in_ok-lay.ensures ∙ sym (slots_under-push c.pop.new.self.items c.in-Some.row c.loop-row.slots)
    ∙ ap (λ rs. slots_under rs c.loop-row.slots) (sym c.in-Some.ensures.items) ∙ c.loop-row.invariant
