use Rattle.std.proofs.Common.{sym, subst}
use Rattle.co_base.specs.declared.node.Node.TheVariants as node
use Rattle.co_plain.specs.LocalCommit.{member_local_commit}
use Rattle.co_member.specs.Plans.{local_commit_plan, plan_of}
use Rattle.co_member.specs.Standing.{Suits, marks_in, written_by}
use Rattle.co_node.specs.Writing.{MayWrite, IsAnsweredFor}
use Rattle.co_member.specs.declared.plan.Plan.{Plan}
use Rattle.co_member.proofs.Carrying.{planned}
use Rattle.co_node.proofs.Directories.{wants_memory}
use Rattle.co_member.proofs.Standings.{unvoted_alike}
use Rattle.co_member.proofs.Steps.{local_commit_is}
use Rattle.co_member.proofs.Writable.{local_commit_may, local_commit_suits}
use Rattle.co_member.proofs.member.Member.local_commit.Goals as goal

pub returns-in_err-course-clause-answered : goal.returns-in_err-course-clause-answered
returns-in_err-course-clause-answered g c = λ x r.
    let m = c.args.self.now in
    wants_memory marks_in (node.Member m.number) (local_commit_plan x c.args.t c.args.carried).writes x.log m.log (g.H.Home.seen c.args.home.now) c.from_residual.result
    c.from_residual.ensures r.log c.requires.held c.lengths.ensures.within

pub follow-requires-clause-stands : goal.follow-requires-clause-stands
follow-requires-clause-stands g c =
    let m = c.args.self.now in
    let t = c.args.t in
    let x = c.requires.stands.0 in
    let made = c.in_ok-course.ensures.plan m.kind m.number x (c.requires.stands.1.running c.running.result.now c.running.ensures) c.requires.stands.2 in (
      x,
      c.requires.stands.1,
      subst (λ (p : Plan). Suits x t p.change) (sym made) (local_commit_suits x t c.args.carried),
      subst (λ (p : Plan). MayWrite p.writes) (sym made) (local_commit_may x t c.args.carried c.requires.stands.3),
    )

pub returns-clause-did : goal.returns-clause-did
returns-clause-did g c = λ x r.
    let m = c.args.self.now in
    let t = c.args.t in
    let running = r.running c.running.result.now c.running.ensures in
    let first = c.requires.stands.1.running c.running.result.now c.running.ensures in
    let unvoted = unvoted_alike g.E.Engine.stands_for c.running.result.now.undecided c.requires.stands.0.engine x.engine c.requires.stands.0.asked x.asked t first.undecided running.undecided c.requires.stands.2 in
    let made = c.in_ok-course.ensures.plan m.kind m.number x running unvoted in
    let suits = subst (λ (p : Plan). Suits x t p.change) (sym made) (local_commit_suits x t c.args.carried) in
    planned g.E.Engine.stands_for (member_local_commit m.number x t c.args.carried) m.number t x (local_commit_plan x t c.args.carried) (plan_of c.in_ok-course.course m.number x t) c.follow.result c.follow.new.self (local_commit_is m.number t c.args.carried x) made
    (c.follow.ensures.did x r suits)

pub returns-clause-answered : goal.returns-clause-answered
returns-clause-answered g c = λ x r.
    let m = c.args.self.now in
    let t = c.args.t in
    let running = r.running c.running.result.now c.running.ensures in
    let first = c.requires.stands.1.running c.running.result.now c.running.ensures in
    let unvoted = unvoted_alike g.E.Engine.stands_for c.running.result.now.undecided c.requires.stands.0.engine x.engine c.requires.stands.0.asked x.asked t first.undecided running.undecided c.requires.stands.2 in
    let made = c.in_ok-course.ensures.plan m.kind m.number x running unvoted in
    let suits = subst (λ (p : Plan). Suits x t p.change) (sym made) (local_commit_suits x t c.args.carried) in
    subst (λ (p : Plan). IsAnsweredFor p.writes (node.Member m.number) x.log m.log c.follow.new.self.log (g.H.Home.seen c.args.home.now)
    (g.H.Home.seen c.follow.new.home) (written_by c.follow.result)) made (c.follow.ensures.answered x r suits)
