use Rattle.co_schedule.proofs.Heads.{more_faults}
use Rattle.co_schedule.proofs.head.+more_kinds.Goals as goal

pub returns-in_ok-push-in-Some-clause-fault : goal.returns-in_ok-push-in-Some-clause-fault
returns-in_ok-push-in-Some-clause-fault t c =
    more_faults c.args.more c.in-Some.kind c.args.words.now _ c.more_kinds.result c.if-more-eq0.false (rw c.in-Some.is at c.in_ok-kind_or_coords.ensures.taken) c.more_kinds.ensures.fault
