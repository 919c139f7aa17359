use Rattle.std.proofs.Common.{◌∙◌, sym, ap}
use Rattle.co_check.specs.declared.ledger.Ledger.{Ledger}
use Rattle.co_check.proofs.Ledgers.{commits_kept}
use Rattle.co_check.proofs.ledger.Ledger.commit.Goals as goal

pub returns-clause-kept : goal.returns-clause-kept
returns-clause-kept c = λ start a k.
    commits_kept start _ c.take-by.new.self c.keep.new.self c.run.new.self _ a c.args.t c.args.at c.take-by.result c.decided_at.result k
    (sym c.decides.ensures ∙ c.if-not-decides.false) (sym c.is_decided.ensures ∙ c.if-is_decided.false) c.take-by.ensures.client
    c.take-by.ensures.rest c.in_ok-keep.ensures (c.in_ok-run.ensures.judged start) c.in_ok-run.ensures.rest.0 c.in_ok-run.ensures.rest.1 c.in_ok-run.ensures.rest.2 c.decided_at.ensures
    (ap {A = Ledger} (λ z. z.clients) c.in_ok-lay.ensures) (ap {A = Ledger} (λ z. z.transactions) c.in_ok-lay.ensures)
    (ap {A = Ledger} (λ z. z.map) c.in_ok-lay.ensures) (ap {A = Ledger} (λ z. z.differs) c.in_ok-lay.ensures) (ap {A = Ledger} (λ z. z.kept) c.in_ok-lay.ensures)
