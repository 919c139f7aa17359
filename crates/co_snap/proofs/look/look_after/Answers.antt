use Rattle.std.proofs.Common.{sym, subst}
use Rattle.co_snap.proofs.Missing.{has_seen}
use Rattle.co_top.specs.Following.{IsUnreached}
use Rattle.co_top.specs.Looking.{LookedAfter}
use Rattle.co_top.specs.declared.reader.Ask.{Ask}
use Rattle.co_snap.proofs.look.look_after.Goals as goal

pub returns-in-Ok-clause-looked : goal.returns-in-Ok-clause-looked
returns-in-Ok-clause-looked g c = λ input left.
    has_seen input c.args.ask c.in-Ok.seen (subst (λ (ask : Ask). LookedAfter input ask c.in-Ok.seen) c.numbered.ensures (c.in-Ok.ensures.looked input left))

pub returns-in-Err-clause-unreached : goal.returns-in-Err-clause-unreached
returns-in-Err-clause-unreached g c = λ input left. subst (IsUnreached input) (sym c.fault_of.ensures) (c.in-Err.ensures.unreached input left)
