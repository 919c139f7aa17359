use Rattle.std.proofs.Common.{◌≡◌, ◌∙◌, ◌++◌, ◌∷◌, [], sym, ap, subst}
use Rattle.co_order_check.specs.Facts.{HoldAll}
use Rattle.co_order_check.proofs.Casing.{ShutAll, last_one}
use Rattle.co_order_check.proofs.refutation.steps_hold.Goals as goal

pub loop-step-init : goal.loop-step-init
loop-step-init c = λ shut w.
    let s = last_one c.args.history.now c.new-open.result.items c.new.result (subst (ShutAll c.args.history.now) c.in_ok-push.ensures.items shut) in
    s.1 w (subst (HoldAll w) (sym c.new.ensures.items) tt)
