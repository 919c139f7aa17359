-- The tests pass exactly where the knot holds.
use Rattle.std.proofs.Common.{◌≡◌, rules, sym, ◌∙◌}
use Rattle.co_wait.specs.Testing.{knot_test}
use Rattle.co_wait.proofs.Tests.{holds_from_test, test_from_holds}
use Rattle.co_wait.proofs.holding.knot_holds.Goals as goal

pub returns-in-Cycle : goal.returns-in-Cycle
returns-in-Cycle c =
    let same : c.cycle_holds.result ≡ knot_test c.args.waits.now c.args.knot.now = search rules in
    (λ h. holds_from_test c.args.waits.now c.args.knot.now (sym same ∙ h), λ h. same ∙ test_from_holds c.args.waits.now c.args.knot.now h)

pub returns-in-Order : goal.returns-in-Order
returns-in-Order c =
    let same : c.order_holds.result ≡ knot_test c.args.waits.now c.args.knot.now = search rules in
    (λ h. holds_from_test c.args.waits.now c.args.knot.now (sym same ∙ h), λ h. same ∙ test_from_holds c.args.waits.now c.args.knot.now h)
