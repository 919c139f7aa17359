-- Short lists are in order, and each of their elements is known.
use Rattle.co_record.proofs.Short.{none_sorted, one_sorted, two_sorted}

pub ruleset short_lists = (none_sorted, one_sorted, two_sorted)
