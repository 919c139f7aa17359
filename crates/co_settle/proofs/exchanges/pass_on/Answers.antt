use Rattle.std.proofs.Common.{◌≡◌, sym, subst}
use Rattle.co_settle.specs.Notes.{passed, next_note}
use Rattle.co_settle.specs.Progress.{DoesAll}
use Rattle.co_settle.proofs.Reaching.{ready}
use Rattle.co_settle.proofs.exchanges.pass_on.Goals as goal

pub take_step-requires-clause-stands : goal.take_step-requires-clause-stands
take_step-requires-clause-stands g c = let w = c.requires.stands in (w.0, w.1, ready w.0 w.2)

pub returns-in-Some-clause-did : goal.returns-in-Some-clause-did
returns-in-Some-clause-did g c = λ s r reached.
    subst (λ o. DoesAll g.E.Engine.takes g.E.Engine.stands_for s (passed o) c.args.told.now c.take_step.new.told c.args.steps.now c.take_step.new.steps c.take_step.new.world (g.H.Home.seen c.take_step.new.home).file (λ note. note ≡ next_note c.args.want c.args.member s o) c.take_step.result)
    (sym c.in-Some.is) (c.take_step.ensures.did s r (ready s reached))
