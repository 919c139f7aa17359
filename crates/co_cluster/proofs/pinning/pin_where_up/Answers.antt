use Rattle.std.proofs.Common.{refl, sym, ◌∙◌}
use Rattle.co_cluster.proofs.pinning.pin_where_up.Goals as goal

pub returns-then-not-up-clause-pinned : goal.returns-then-not-up-clause-pinned
returns-then-not-up-clause-pinned g c = λ x r. (r.up ∙ sym c.up.ensures ∙ c.if-not-up.true, refl)

pub returns-clause-pinned : goal.returns-clause-pinned
returns-clause-pinned g c = λ x r. (r.up ∙ sym c.up.ensures ∙ c.if-not-up.false, c.in_ok-pinned.ensures.pinned x r)
