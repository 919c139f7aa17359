use Rattle.std.proofs.Common.{◌≡◌, ◌∙◌, ap, sym, true, false, true≢false, refl}
use Rattle.co_message.proofs.Sent.{derived_same, found}
use Rattle.co_message.specs.Sent.{was_sent}
use Rattle.co_message.proofs.wire.Wire.get.Goals as goal

module _ (c : goal.Then-contains) where
  was : was_sent c.args.self.now c.args.message.now ≡ true
  was =
      ap (λ l. was_sent l c.args.message.now) (sym c.self.view_is)
      ∙ sym (found _ derived_same c.self.inside.sent.keys c.args.message.now)
      ∙ sym c.if-contains.ensures

module _ (c : goal.Else-contains) where
  was_not : was_sent c.args.self.now c.args.message.now ≡ false
  was_not =
      ap (λ l. was_sent l c.args.message.now) (sym c.self.view_is)
      ∙ sym (found _ derived_same c.self.inside.sent.keys c.args.message.now)
      ∙ sym c.if-contains.ensures

pub returns-then-contains-clause-ok : goal.returns-then-contains-clause-ok
returns-then-contains-clause-ok c = (λ _. was c, λ _. refl)

pub returns-then-contains-clause-unsent : goal.returns-then-contains-clause-unsent
returns-then-contains-clause-unsent c = (λ e. absurd (cc), λ e. absurd (true≢false (sym (was c) ∙ e)))

pub returns-else-contains-clause-ok : goal.returns-else-contains-clause-ok
returns-else-contains-clause-ok c = (λ e. absurd (true≢false (sym e)), λ e. absurd (true≢false (sym e ∙ was_not c)))

pub returns-else-contains-clause-unsent : goal.returns-else-contains-clause-unsent
returns-else-contains-clause-unsent c = (λ _. was_not c, λ _. refl)
