use Rattle.std.proofs.Common.{◌≡◌, ◌∙◌, ap, sym, slice_get, Some, ℕ}
use Rattle.co_order_check.specs.declared.fact.Fact.{Fact}
use Rattle.co_order_check.proofs.Casing.{through_follows}
use Rattle.co_order_check.proofs.rules.through.Goals as goal

pub returns : goal.returns
returns c = λ history.
    let one = c.in_ok-before.field-0 in
    let other = c.in_ok-other.field-0 in
    let first : slice_get c.args.known.now c.args.first ≡ Some one = sym c.fact_at.ensures ∙ c.in_ok-before.was in
    let second : slice_get c.args.known.now c.args.second ≡ Some other = sym c.fact_at-2.ensures ∙ c.in_ok-other.was in
    through_follows history c.args.known.now c.args.first c.args.second one.before one.behind other.behind first
    (second ∙ ap {A = ℕ} (λ t. Some (record { before = t; behind = other.behind })) (sym c.if-middle-other.false))
