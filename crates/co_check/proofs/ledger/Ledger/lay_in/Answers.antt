use Rattle.std.proofs.Common.{refl}
use Rattle.co_state.proofs.Tables.{on_ok}
use Rattle.co_check.proofs.Ledgers.{laid_kept}
use Rattle.co_check.proofs.ledger.Ledger.lay_in.Goals as goal

pub returns-clause-kept : goal.returns-clause-kept
returns-clause-kept c = λ start k. on_ok c.set.result (λ laid. laid_kept start c.args.self.now _ c.args.row k refl refl refl refl laid) c.set.ensures.ok
