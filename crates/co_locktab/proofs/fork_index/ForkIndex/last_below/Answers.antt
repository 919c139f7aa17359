use Rattle.std.proofs.Common.{◌≡◌, refl, ap, sym, ◌∙◌}
use Rattle.co_locktab.specs.Places.{by_lower, fork_cmp}
use Rattle.co_locktab.proofs.Behind.{place_before, below_place, below_fork, not_below}
use Rattle.co_locktab.proofs.fork_index.ForkIndex.last_below.Goals as goal

pub returns : goal.returns
returns c =
    let fork = c.args.fork.now in
    let last = c.in_ok-last.last.now in
    let end : c.before-end.result ≡ place_before fork = c.before-end.ensures in
    let all = c.range.ensures.in_range tt in
    let in_set = all.3 last c.next_back.new.self c.in_ok-last.ensures.steps in
    let greatest = all.4 last c.next_back.new.self c.in_ok-last.ensures.steps in (
      (last, refl, below_fork fork last (ap (by_lower last) (sym end) ∙ in_set.0.1), in_set.1),
      λ p l e. not_below (fork_cmp last.fork p.fork) _ (greatest p (tt, ap (by_lower p) end ∙ below_place fork p l) e),
    )
