-- Waits ascend where each comes before the next one.
use Rattle.std.proofs.Common.{◌≡◌, rules, sym, ◌∙◌}
use Rattle.co_wait.specs.Testing.{ascends}
use Rattle.co_wait.proofs.Ascending.{pairs_from_test, test_from_pairs}
use Rattle.co_wait.proofs.ordering.are_ascending.Goals as goal

pub returns : goal.returns
returns c =
    let same : c.ascend.result ≡ ascends c.args.waits.now = search rules in
    (λ h. pairs_from_test c.args.waits.now (sym same ∙ h), λ h. same ∙ test_from_pairs c.args.waits.now h)
