use Rattle.std.proofs.Common.{ap, sym, ◌∙◌}
use Rattle.co_mv.proofs.Rows.{chains_under, chains_under-push, chains_under-empty}
use Rattle.co_mv.proofs.chains.Chains.of_rows.Goals as goal

pub loop-row-init : goal.loop-row-init
loop-row-init c = ap (chains_under c.args.rows.items) c.new-chains.ensures ∙ chains_under-empty c.args.rows.items

pub loop-row-preserved : goal.loop-row-preserved
loop-row-preserved c =
    ap (chains_under c.pop.new.self.items) c.in_ok-begin.ensures ∙ sym (chains_under-push c.pop.new.self.items c.in-Some.row c.loop-row.chains)
    ∙ ap (λ rs. chains_under rs c.loop-row.chains) (sym c.in-Some.ensures.items) ∙ c.loop-row.invariant
