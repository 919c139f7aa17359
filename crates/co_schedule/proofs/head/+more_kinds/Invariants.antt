use Rattle.co_schedule.proofs.head.+more_kinds.Given as goal

abbrev pub decreases-more_kinds : goal.decreases-more_kinds
decreases-more_kinds l = l.more
