use Rattle.std.proofs.Common.{refl, sym, subst}
use Rattle.co_base.specs.declared.node.Node.TheVariants as node
use Rattle.co_plain.specs.Member.{member_vote}
use Rattle.co_plain.specs.MemberStep.{standing_of}
use Rattle.co_member.specs.Plans.{again_plan, plan_of}
use Rattle.co_member.specs.Standing.{Suits, marks_in, written_by}
use Rattle.co_node.specs.Writing.{MayWrite, IsAnsweredFor}
use Rattle.co_member.specs.declared.plan.Plan.{Plan}
use Rattle.co_member.proofs.Carrying.{planned}
use Rattle.co_node.proofs.Directories.{wants_memory}
use Rattle.co_member.proofs.Steps.{vote_is}
use Rattle.co_member.proofs.Writable.{again_may, again_single, again_suits, course_single}
use Rattle.co_member.proofs.member.Member.vote.Goals as goal

pub returns-in_err-course-clause-answered : goal.returns-in_err-course-clause-answered
returns-in_err-course-clause-answered g c = λ x r.
    let m = c.args.self.now in
    wants_memory marks_in (node.Member m.number) (again_plan m.number x c.args.t (standing_of x c.args.t)).writes x.log m.log (g.H.Home.seen c.args.home.now) c.from_residual.result
    c.from_residual.ensures r.log c.requires.held c.lengths.ensures.within

pub follow-requires-clause-stands : goal.follow-requires-clause-stands
follow-requires-clause-stands g c =
    let m = c.args.self.now in
    let t = c.args.t in
    let x = c.requires.stands.0 in
    let made = c.in_ok-course.ensures m.kind x (c.requires.stands.1.running c.running.result.now c.running.ensures) in (
      x,
      c.requires.stands.1,
      subst (λ (p : Plan). Suits x t p.change) (sym made) (again_suits m.number t x (standing_of x t) refl),
      subst (λ (p : Plan). MayWrite p.writes) (sym made) (again_may m.number t x (standing_of x t) c.requires.stands.2),
    )

pub follow-requires-clause-single : goal.follow-requires-clause-single
follow-requires-clause-single g c =
    let m = c.args.self.now in
    let t = c.args.t in
    let x = c.requires.stands.0 in
    let made = c.in_ok-course.ensures m.kind x (c.requires.stands.1.running c.running.result.now c.running.ensures) in
    course_single c.in_ok-course.course m.number t x (again_plan m.number x t (standing_of x t)) made (again_single m.number t x (standing_of x t))

pub returns-clause-did : goal.returns-clause-did
returns-clause-did g c = λ x r.
    let m = c.args.self.now in
    let t = c.args.t in
    let made = c.in_ok-course.ensures m.kind x (r.running c.running.result.now c.running.ensures) in
    let suits = subst (λ (p : Plan). Suits x t p.change) (sym made) (again_suits m.number t x (standing_of x t) refl) in
    planned g.E.Engine.stands_for (member_vote m.number x t) m.number t x (again_plan m.number x t (standing_of x t)) (plan_of c.in_ok-course.course m.number x t) c.follow.result c.follow.new.self (vote_is m.number t x) made (c.follow.ensures.did x r suits)

pub returns-clause-answered : goal.returns-clause-answered
returns-clause-answered g c = λ x r.
    let m = c.args.self.now in
    let t = c.args.t in
    let made = c.in_ok-course.ensures m.kind x (r.running c.running.result.now c.running.ensures) in
    let suits = subst (λ (p : Plan). Suits x t p.change) (sym made) (again_suits m.number t x (standing_of x t) refl) in
    subst (λ (p : Plan). IsAnsweredFor p.writes (node.Member m.number) x.log m.log c.follow.new.self.log (g.H.Home.seen c.args.home.now)
    (g.H.Home.seen c.follow.new.home) (written_by c.follow.result)) made (c.follow.ensures.answered x r suits)
