use Rattle.co_base.proofs.Ordered.{not_above_itself}
use Rattle.co_base.proofs.range.Range.of_key.Goals as goal

pub invariant_of-result : goal.invariant_of-result
invariant_of-result c = rw (c.in_ok-copy.ensures, c.in_ok-copy-2.ensures) (not_above_itself c.args.key.now)
