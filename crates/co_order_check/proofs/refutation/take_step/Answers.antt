use Rattle.std.proofs.Common.{◌≡◌, ◌∙◌, ◌++◌, ◌∷◌, [], sym, ap, subst}
use Rattle.co_order_check.specs.Facts.{Follows, IsShut}
use Rattle.co_order_check.specs.declared.fact.Fact.{Fact}
use Rattle.co_order_check.proofs.Casing.{one_more, ShutAll, shut_step, either_step}
use Rattle.co_order_check.proofs.refutation.take_step.Goals as goal

pub returns-in_ok-push-in-Either-3 : goal.returns-in_ok-push-in-Either-3
returns-in_ok-push-in-Either-3 c = λ _ shut.
    let two = c.are_two.ensures c.if-not-are_two.false in
    either_step c.args.history.now c.args.pending.now.items c.pop.new.self.items c.push.new.self.items c.push-in-Either-2.new.self.items
    c.in-Some.known c.in_ok-with_fact-in-Either.field-0 c.push-in-Either.new.self c.in-Either.pair.before c.in-Either.pair.behind two.0 two.1 two.2
    c.in-Some.ensures.items (c.in_ok-with_fact-in-Either.ensures ∙ ap (λ fs. fs ++ record { before = c.in-Either.pair.behind; behind = c.in-Either.pair.before } ∷ []) c.as_slice.ensures.value)
    c.in_ok-push-in-Either.ensures.items c.in_ok-push-in-Either-2.ensures.items c.in_ok-push-in-Either-3.ensures.items shut

pub returns-in-Shut : goal.returns-in-Shut
returns-in-Shut c = λ e shut.
    subst (ShutAll c.args.history.now) (sym c.in-Some.ensures.items)
    (one_more c.args.history.now c.pop.new.self.items c.in-Some.known shut (subst (IsShut c.args.history.now) c.as_slice-in-Shut.ensures.value (c.is_shut.ensures c.args.history.now e)))

pub returns-in_ok-push-in-Some-conclusion-2 : goal.returns-in_ok-push-in-Some-conclusion-2
returns-in_ok-push-in-Some-conclusion-2 c = λ _ shut.
    shut_step c.args.history.now c.args.pending.now.items c.pop.new.self.items c.push-in-Some-conclusion-2.new.self.items c.in-Some.known c.push-in-Some-conclusion.new.self c.in-Some-conclusion.fact
    c.in-Some.ensures.items c.in_ok-push-in-Some-conclusion.ensures.items c.in_ok-push-in-Some-conclusion-2.ensures.items
    (subst (λ fs. Follows c.args.history.now fs c.in-Some-conclusion.fact) c.as_slice-in_default.ensures.value c.in-Some-conclusion.ensures) shut
