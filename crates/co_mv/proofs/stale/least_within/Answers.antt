use Rattle.std.proofs.Common.{◌≡◌, [], rules, ap, sym, subst, ◌∙◌, option_copied}
use Rattle.std.specs.FinMap.{entries}
use Rattle.co_mv.specs.Ordered.{AreOrdered}
use Rattle.co_mv.specs.Overwritten.{written_keys}
use Rattle.co_state.specs.Search.{least_with}
use Rattle.co_mv.proofs.Seeing.{ordered_within}
use Rattle.co_mv.proofs.stale.least_within.Goals as goal

pub returns : goal.returns
returns c = λ ordered.
    let given = c.into_iter-key-iterator.ensures.into_iter_gives ∙ c.within-key-items.ensures in
    let all = c.loop-key.invariant (subst AreOrdered (sym given) (ordered_within c.args.range.now (entries c.args.chains.now) ordered)) in
    let none_left : option_copied c.loop-key.least ≡ least_with (option_copied c.loop-key.least) (written_keys c.args.installs []) = search rules in
    none_left ∙ sym (ap (λ es. least_with (option_copied c.loop-key.least) (written_keys c.args.installs es)) c.in-None.ensures.steps.0) ∙ all.1 ∙ ap (λ es. least_with (option_copied c.args.found) (written_keys c.args.installs es)) given
