use Rattle.std.proofs.Common.{Option, refl, sym, ◌∙◌, subst}
use Rattle.co_plain.specs.Sessions.{with_told}
use Rattle.co_base.specs.declared.reply.Reply.{Reply}
use Rattle.co_plain.specs.Step.{entered}
use Rattle.co_plain.specs.declared.session.Session.{Session}
use Rattle.co_world.specs.Standing.{RepresentsWorld}
use Rattle.co_world.proofs.Acting.{changes}
use Rattle.co_world.proofs.world.World.enter.Goals as goal

pub returns-in_ok-answered-in-Some-clause-stands : goal.returns-in_ok-answered-in-Some-clause-stands
returns-in_ok-answered-in-Some-clause-stands g c = λ s r session is.
    subst (λ (o : Option Reply). RepresentsWorld g.E.Engine.takes g.E.Engine.stands_for (record c.args.self.now { sessions = c.answered.new.self }) (entered s c.args.t session c.args.member c.args.op o)) (sym c.in-Some.is ∙ c.in_ok-reply.ensures) (changes g.E.Engine.takes g.E.Engine.stands_for c.args.self.now s r c.answered.new.self c.args.t (λ (k : Session). with_told k (record { site = record { member = c.args.member; op = c.args.op }; reply = c.in-Some.reply })) session is refl c.in_ok-answered-in-Some.ensures.ok)
