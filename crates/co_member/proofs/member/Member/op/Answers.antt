use Rattle.std.proofs.Common.{◌≤◌, ℕ, Some, refl, sym, subst}
use Rattle.co_base.specs.declared.node.Node.TheVariants as node
use Rattle.co_base.specs.Limits.{most_operations}
use Rattle.co_node.specs.NodeLog.{RepresentsLog}
use Rattle.co_plain.specs.Member.{member_op}
use Rattle.co_member.proofs.Carrying.{stands_on}
use Rattle.co_member.proofs.Operating.{op_log}
use Rattle.co_member.proofs.Standings.{kept_is}
use Rattle.co_member.proofs.member.Member.op.Goals as goal

pub op-requires : goal.op-requires
op-requires g c =
    let x = c.requires.stands.0 in
    let s = (c.requires.stands.1.running c.in-Some.running c.in-Some.is).undecided in
    subst (λ (n : ℕ). n ≤ most_operations) (sym (kept_is g.E.Engine.stands_for c.in-Some.running.undecided x.engine x.asked c.args.t s)) c.requires.stands.2

pub returns-clause-did : goal.returns-clause-did
returns-clause-did g c = λ x r may.
    let m = c.args.self.now in
    let t = c.args.t in
    let y = (member_op x t c.args.carried c.args.op.now).state in
    let s = r.running c.in-Some.running c.in-Some.is in
    let same = op_log x t c.args.carried c.args.op.now in
    record {
      answer = c.in_ok-op-in-Some.ensures.answer m.kind x s may;
      state = stands_on g.E.Engine.stands_for m (record m { running = Some c.op.new.self }) x y c.op.new.self r c.requires.up refl refl refl same.1 (c.in_ok-op-in-Some.ensures.state m.kind x s may)
          (subst (RepresentsLog (node.Member m.number) m.log) (sym same.0) r.log);
    }
