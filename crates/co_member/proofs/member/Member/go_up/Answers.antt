use Rattle.co_member.specs.Pins.{pins_where}
use Rattle.std.proofs.Common.{sym, subst, ap, ◌∙◌}
use Rattle.co_base.specs.declared.node.Node.TheVariants as node
use Rattle.co_log.specs.LogView.{LogView}
use Rattle.co_node.specs.NodeLog.{RepresentsLog}
use Rattle.co_member.proofs.Carrying.{restarted_step}
use Rattle.co_member.proofs.member.Member.go_up.Goals as goal

pub found-requires-clause-stands : goal.found-requires-clause-stands
found-requires-clause-stands g c =
    let n = node.Member c.args.self.now.number in
    let l = c.requires.stands.0.log in
    (n, l, subst (λ (v : LogView). RepresentsLog n v l) (sym c.in_ok-reread.ensures.log) c.requires.stands.1.log, c.requires.stands.2)

pub returns-clause-did : goal.returns-clause-did
returns-clause-did g c = λ x r.
    let m = c.args.self.now in
    let n = node.Member m.number in
    let log = subst (λ (v : LogView). RepresentsLog n v x.log) (sym c.in_ok-reread.ensures.log) r.log in
    let log_after = subst (λ (v : LogView). RepresentsLog n v x.log) (sym c.has.ensures.log) log in
    restarted_step g.E.Engine.stands_for m c.has.new.self x c.in_ok-running.running c.new.result c.new.ensures r c.requires.down c.has.ensures.same.number c.has.ensures.same.kind c.has.ensures.running log_after
    (λ l. c.in_ok-running.ensures.stands n x.log l log)

pub returns-clause-pins : goal.returns-clause-pins
returns-clause-pins g c = λ up. ap (pins_where g.E.Engine.pins) c.has.ensures.running ∙ c.in_ok-running.ensures.pins ∙ sym (ap (pins_where g.E.Engine.pins) c.requires.down)
