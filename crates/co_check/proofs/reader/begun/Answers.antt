use Rattle.std.proofs.Common.{sym, ◌∙◌}
use Rattle.co_check.proofs.Stages.{begun_with}
use Rattle.co_check.proofs.reader.begun.Goals as goal

pub returns-in_ok-seen-in-Some-clause-taken : goal.returns-in_ok-seen-in-Some-clause-taken
returns-in_ok-seen-in-Some-clause-taken c = λ last start k.
    begun_with start _ c.in-Some.head c.in_ok-seen-in-Some.seen c.args.ledger (sym c.first_head.ensures ∙ c.in-Some.is) c.in_ok-seen-in-Some.ensures k
