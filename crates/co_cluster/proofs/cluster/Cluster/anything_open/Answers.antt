use Rattle.std.proofs.Common.{◌∙◌, sym, arith}
use Rattle.co_cluster.proofs.OpenNodes.{member_opens, coord_opens, nothing_opens}
use Rattle.co_cluster.proofs.Readers.{is_member, is_coord}
use Rattle.co_cluster.proofs.cluster.Cluster.anything_open.Goals as goal

pub returns-then-branch-clause-something : goal.returns-then-branch-clause-something
returns-then-branch-clause-something g c = λ s r e.
    member_opens s c.loop-member.member (is_member g.E.Engine.takes g.E.Engine.stands_for c.args.self.now s r c.loop-member.member (omega arith) (omega arith)) (sym (c.in_ok-has_undecided.ensures s r) ∙ c.if-branch.true)

pub returns-then-branch-2-clause-something : goal.returns-then-branch-2-clause-something
returns-then-branch-2-clause-something g c = λ s r e. coord_opens s c.loop-coord.coord (is_coord g.E.Engine.takes g.E.Engine.stands_for c.args.self.now s r c.loop-coord.coord (omega arith) (omega arith)) (sym (c.in_ok-has_tabled.ensures s r) ∙ c.if-branch-2.true)

pub returns-clause-nothing : goal.returns-clause-nothing
returns-clause-nothing g c = λ s r e t.
    let i = c.loop-coord.invariant s r in
    nothing_opens s i.0 (λ k from to. i.1 k from (let n = c.coord_count-coord-end.ensures.count in let q = r.coordinators in let z = c.loop-coord-test.false in omega (arith, n, q, z, to))) t
