use Rattle.std.proofs.Common.{Some, refl, sym, subst}
use Rattle.co_base.specs.declared.node.Node.TheVariants as node
use Rattle.co_node.specs.NodeLog.{RepresentsLog}
use Rattle.co_member.specs.Plans.{marked}
use Rattle.co_member.proofs.Carrying.{stands_on}
use Rattle.co_member.proofs.Writable.{marked_log, marked_up}
use Rattle.co_member.proofs.member.Member.take_note.Goals as goal

pub returns-clause-did : goal.returns-clause-did
returns-clause-did g c = λ x r.
    let m = c.args.self.now in
    let now = c.take_note.ensures.stands m.kind x (r.running c.in-Some.running c.in-Some.is) in
    stands_on g.E.Engine.stands_for m (record m { running = Some c.take_note.new.self }) x (marked x c.args.message.now) c.take_note.new.self r c.requires refl refl refl (marked_up x c.args.message.now) now
    (subst (RepresentsLog (node.Member m.number) m.log) (sym (marked_log x c.args.message.now)) r.log)
