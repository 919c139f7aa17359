use Rattle.std.proofs.Common.{sym, subst}
use Rattle.co_message.specs.declared.message.Message.{Message}
use Rattle.co_member.specs.Plans.{marked}
use Rattle.co_member.specs.Standing.{RepresentsRunning}
use Rattle.co_member.proofs.running.Running.take_note.Goals as goal

pub returns-in-Prepare-clause-stands : goal.returns-in-Prepare-clause-stands
returns-in-Prepare-clause-stands g c = λ kind x s. subst (λ (m : Message). RepresentsRunning g.E.Engine.stands_for kind c.mark.new.self (marked x m)) (sym c.in-Prepare.is) (c.mark.ensures.stands kind x s)
