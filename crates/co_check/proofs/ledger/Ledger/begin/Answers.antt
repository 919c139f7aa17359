use Rattle.std.proofs.Common.{◌∙◌, sym}
use Rattle.co_check.proofs.Ledgers.{begins_kept}
use Rattle.co_check.proofs.ledger.Ledger.begin.Goals as goal

pub returns-clause-kept : goal.returns-clause-kept
returns-clause-kept c = λ start a k.
    begins_kept start _ c.take-client.new.self _ a c.args.t c.args.by c.take-client.result c.begun_at.result k (sym c.is_begun.ensures ∙ c.if-is_begun.false)
    c.take-client.ensures.client c.begun_at.ensures c.take-client.ensures.rest c.in_ok-lay.ensures
