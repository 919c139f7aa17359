use Rattle.std.proofs.Common.{sym, subst, true≢false, is_some, ap, ◌∙◌}
use Rattle.co_base.specs.declared.node.Node.TheVariants as node
use Rattle.co_log.specs.LogView.{LogView}
use Rattle.co_node.specs.NodeLog.{RepresentsLog}
use Rattle.co_plain.specs.LogWrite.{crashed_log}
use Rattle.co_member.proofs.Carrying.{crashed_step}
use Rattle.co_member.proofs.member.Member.crash.Goals as goal

pub crash-requires-clause-stands : goal.crash-requires-clause-stands
crash-requires-clause-stands g c = (node.Member c.args.self.now.number, c.requires.stands.0.log, c.requires.stands.1.log)

pub returns-clause-did : goal.returns-clause-did
returns-clause-did g c = λ y r.
    let x = c.args.self.now in
    let n = node.Member x.number in
    let log = subst (λ (v : LogView). RepresentsLog n v (crashed_log y.log)) (sym c.has.ensures.log) (c.crash.ensures.stands n y.log r.log) in
    crashed_step g.E.Engine.stands_for x c.has.new.self y c.new.result c.new.ensures r c.has.ensures.same.number c.has.ensures.same.kind c.has.ensures.running log

pub returns-clause-pins : goal.returns-clause-pins
returns-clause-pins g c = λ up. absurd (true≢false (sym up ∙ ap is_some c.has.ensures.running))
