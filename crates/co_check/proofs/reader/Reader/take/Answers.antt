use Rattle.std.proofs.Common.{sym, subst}
use Rattle.co_check.specs.Resumed.{Stands, IsEntryTaken}
use Rattle.co_check.specs.declared.entry.Entry.TheVariants as entry
use Rattle.co_check.proofs.Stages.{in_records}
use Rattle.co_check.proofs.reader.Reader.take.Goals as goal

pub returns-in-Records-Item-clause-taken : goal.returns-in-Records-Item-clause-taken
returns-in-Records-Item-clause-taken c = λ s k.
    subst (λ e. IsEntryTaken s c.args.number e c.begun.result) (sym c.in-Records-Item.is-1)
    (in_records s c.in-Records-Item.last c.in-Records-Item.ledger c.args.number (entry.Item c.in-Records-Item.item) c.begun.result
    (subst (λ r. Stands r s) c.in-Records-Item.is-0 k) (λ start keep. c.begun.ensures.taken c.in-Records-Item.last start keep))
