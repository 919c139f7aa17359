use Rattle.std.proofs.Common.{subst}
use Rattle.co_check.specs.declared.place.Place.TheVariants.{Behind}
use Rattle.co_check.specs.Account.{replied}
use Rattle.co_check.specs.Kept.{IsChange}
use Rattle.co_check.proofs.Ledgers.{goes_on, breaks}
use Rattle.co_check.proofs.shaping.replied_in_group.Goals as goal

pub returns-then-branch-clause-next : goal.returns-then-branch-clause-next
returns-then-branch-clause-next c = λ start a k.
    let after = replied a c.args.number c.args.event c.args.answer in
    goes_on start after (Behind c.args.head c.args.number) c.reply.new.self (subst (λ b. IsChange start after b c.reply.new.self) c.if-branch.true (c.in_ok-reply.ensures.kept start a k))

pub returns-else-branch-clause-next : goal.returns-else-branch-clause-next
returns-else-branch-clause-next c = λ start a k.
    let after = replied a c.args.number c.args.event c.args.answer in
    breaks start after (Behind c.args.head c.args.number) c.reply.new.self (subst (λ b. IsChange start after b c.reply.new.self) c.if-branch.false (c.in_ok-reply.ensures.kept start a k))
