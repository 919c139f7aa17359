use Rattle.std.proofs.Common.{Bool, refl, sym, subst}
use Rattle.co_plain.specs.Sessions.{asked_to_end}
use Rattle.co_plain.specs.Step.{marked_asked}
use Rattle.co_world.specs.Standing.{RepresentsWorld}
use Rattle.co_world.proofs.Acting.{changes}
use Rattle.co_world.proofs.world.World.mark_asked.Goals as goal

pub returns-then-answered-clause-stands : goal.returns-then-answered-clause-stands
returns-then-answered-clause-stands g c = λ s r session is.
    subst (λ (b : Bool). RepresentsWorld g.E.Engine.takes g.E.Engine.stands_for (record c.args.self.now { sessions = c.asked.new.self }) (marked_asked s c.args.t session b)) (sym c.if-answered.true) (changes g.E.Engine.takes g.E.Engine.stands_for c.args.self.now s r c.asked.new.self c.args.t asked_to_end session is refl c.asked.ensures)

pub returns-else-answered-clause-stands : goal.returns-else-answered-clause-stands
returns-else-answered-clause-stands g c = λ s r session is.
    subst (λ (b : Bool). RepresentsWorld g.E.Engine.takes g.E.Engine.stands_for c.args.self.now (marked_asked s c.args.t session b)) (sym c.if-answered.false) r
