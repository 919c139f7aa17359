use Rattle.std.proofs.Common.{ap, ◌∙◌, ◌+◌, drop, ◌∷◌, ◌++◌, []}
use Rattle.co_serial.specs.SerialRun.{run_whole, after_whole}
use Rattle.co_serial.proofs.Families.{one_more, any_err}
use Rattle.co_serial.proofs.serial_map.run_whole.Goals as goal

pub returns-in_err-reply-clause-err : goal.returns-in_err-reply-clause-err
returns-in_err-reply-clause-err c = any_err c.from_residual.result (c.loop-site.site-index, c.in_err-reply.ensures.err ∙ c.loop-site.invariant.prefix)

pub returns-in_err-push-clause-err : goal.returns-in_err-push-clause-err
returns-in_err-push-clause-err c =
    let i = c.loop-site.invariant in
    let m = one_more _ _ _ _ c.loop-site.site-index c.site-item.result c.loop-site-test.true c.site-item.is i.answered i.left i.prefix in
    any_err c.from_residual-in_err-push.result (c.loop-site.site-index + 1, c.in_ok-reply.ensures.ok ∙ m.prefix)

pub loop-site-preserved : goal.loop-site-preserved
loop-site-preserved c =
    let i = c.loop-site.invariant in
    let m = one_more _ _ _ _ c.loop-site.site-index c.site-item.result c.loop-site-test.true c.site-item.is i.answered i.left i.prefix in
    let f = c.in_ok-reply.ensures.ok in
    let rs = c.in_ok-push.ensures.ok ∙ ap (λ r. c.loop-site.replies ++ r ∷ []) c.in_ok-reply.ensures.reply in
    record {
      answered = (λ i. rs i ++ run_whole (f i) (drop (c.loop-site.site-index + 1) c.args.sites.now)) ∙ m.answered;
      left = ap (λ a. after_whole a (drop (c.loop-site.site-index + 1) c.args.sites.now)) f ∙ m.left;
      prefix = f ∙ m.prefix;
    }
