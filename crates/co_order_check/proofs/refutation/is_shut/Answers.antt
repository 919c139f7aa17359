use Rattle.std.proofs.Common.{◌≡◌, ◌∙◌, ap, sym, subst, T, ℕ, eqb→eq, slice_get, Some}
use Rattle.co_order_check.proofs.Casing.{shuts}
use Rattle.co_order_check.proofs.refutation.is_shut.Goals as goal

pub returns-in-Some : goal.returns-in-Some
returns-in-Some c = λ history e.
    let fact = c.in-Some.fact in
    let same : fact.before ≡ fact.behind = eqb→eq fact.before fact.behind (subst T (sym e) tt) in
    shuts history c.args.known.now c.args.number fact.before
    (sym c.fact_at.ensures ∙ c.in-Some.is ∙ ap {A = ℕ} (λ u. Some (record { before = fact.before; behind = u })) (sym same))
