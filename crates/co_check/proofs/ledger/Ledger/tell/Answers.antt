use Rattle.std.proofs.Common.{◌∙◌, sym}
use Rattle.co_state.proofs.Tables.{on_ok}
use Rattle.co_check.proofs.Ledgers.{tells_kept}
use Rattle.co_check.proofs.ledger.Ledger.tell.Goals as goal

pub returns-clause-kept : goal.returns-clause-kept
returns-clause-kept c = λ start a k.
    on_ok c.lay.result
    (λ laid. tells_kept start _ c.take-client.new.self _ a c.args.t c.args.operation c.take-client.result c.in_ok-client.client k (sym c.is_decided.ensures ∙ c.if-is_decided.false)
    c.take-client.ensures.client c.in_ok-client.ensures c.take-client.ensures.rest laid)
    c.lay.ensures
