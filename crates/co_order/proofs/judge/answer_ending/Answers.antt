use Rattle.std.proofs.Common.{◌∙◌, ap, subst, reverse}
use Rattle.co_order.specs.Answer.{IsAnswered}
use Rattle.co_order.proofs.Ordered.{answered, kept_is}
use Rattle.co_order.proofs.judge.answer_ending.Goals as goal

pub returns-in-Some : goal.returns-in-Some
returns-in-Some g c = λ text h.
    answered text c.args.ending h c.answer_here-answer.result
    (subst (λ ds. IsAnswered ds c.answer_here-answer.result) (c.oldest_first.ensures ∙ ap reverse (kept_is text c.args.ending h c.in-Some.kept c.in-Some.is)) c.answer_here-answer.ensures)

pub returns-in-None : goal.returns-in-None
returns-in-None g c = λ text h. answered text c.args.ending h c.answer_nothing.result (c.answer_nothing.ensures (reverse h.account.committed))
