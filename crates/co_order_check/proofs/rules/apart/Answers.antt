use Rattle.std.proofs.Common.{◌≡◌, sym, ap, subst, ◌∙◌, Some}
use Rattle.co_order_check.specs.Paths.{IsPath, end}
use Rattle.co_order_check.proofs.Casing.{apart_follows}
use Rattle.co_order_check.proofs.rules.apart.Goals as goal

pub returns : goal.returns
returns c =
    let changed = c.changes.ensures c.if-not-changes.false in
    let one = c.args.one.now in
    let other = c.args.other.now in
    let same = c.is_same.ensures c.if-not-is_same.false in
    apart_follows c.args.history.now c.args.known.now c.args.number other.record one.readings.items other.readings.items
    c.in_ok-before.before c.in_ok-behind.behind c.in_ok-first.first c.in_ok-second.second
    (subst (λ o. IsPath c.args.history.now other.record o one.readings.items) c.in_ok-before.was
    (subst (λ r. IsPath c.args.history.now r one.from one.readings.items) same (c.holds.ensures c.if-not-holds.false)))
    (subst (λ o. IsPath c.args.history.now other.record o other.readings.items) c.in_ok-behind.was (c.holds-else-not-holds.ensures c.if-not-holds-2.false))
    (ap (λ o. end o one.readings.items) (sym c.in_ok-before.was) ∙ sym c.end.ensures ∙ c.in_ok-first.was)
    (ap (λ o. end o other.readings.items) (sym c.in_ok-behind.was) ∙ sym c.end-2.ensures ∙ c.in_ok-second.was)
    (c.is_known.ensures c.if-not-is_known.false) changed.0 c.if-behind-history.false c.if-before-behind.false changed.1 (c.lacks.ensures c.if-not-lacks.false)
