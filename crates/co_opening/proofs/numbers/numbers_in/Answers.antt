use Rattle.std.proofs.Common.{◌≡◌, map, rules, subst}
use Rattle.std.specs.FinMap.{entries}
use Rattle.co_base.specs.Order.{IsAscending}
use Rattle.co_recover.proofs.Ascending.{keys_ascend}
use Rattle.co_opening.proofs.numbers.numbers_in.Goals as goal

-- the walk gave every key
pub of-requires : goal.of-requires
of-requires c =
    let e : map (λ p. p.0) (entries c.args.numbers.now) ≡ c.loop-t.list.items = search rules in
    subst IsAscending e (keys_ascend c.args.numbers.now)
