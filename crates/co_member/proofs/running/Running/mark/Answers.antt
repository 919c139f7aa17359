use Rattle.std.proofs.Common.{refl, sym, subst, ◌∙◌}
use Rattle.co_plain.specs.Member.{with_mark}
use Rattle.co_plain.specs.declared.member_state.MemberState.{MemberState}
use Rattle.co_plain.specs.declared.standing.Standing.{Standing}
use Rattle.co_state.specs.Table.{look, holds}
use Rattle.co_member.specs.Plans.{marked_by}
use Rattle.co_member.specs.Standing.{RepresentsRunning}
use Rattle.co_member.proofs.Changing.{keeps, unmarked}
use Rattle.co_member.proofs.Standings.{held_active, unvoted_active}
use Rattle.co_member.proofs.running.Running.mark.Goals as goal

pub returns-in-IsActive-clause-stands : goal.returns-in-IsActive-clause-stands
returns-in-IsActive-clause-stands g c = λ kind x s.
    let t = c.args.t in
    let at = sym (c.standing.ensures kind x s) ∙ c.in-IsActive.is in
    let active = held_active (holds x.engine.active t) (holds x.engine.voted t) (holds x.committed t) at in
    let unvoted = unvoted_active (look x.engine.active t) (look x.engine.voted t) (s.undecided.apart t) active in
    let now = c.mark.ensures.stands x.engine x.asked s.undecided active unvoted in
    subst (λ (st : Standing). RepresentsRunning g.E.Engine.stands_for kind (record { undecided = c.mark.new.self; committed = c.args.self.now.committed }) (marked_by x t c.args.coord c.args.count st)) (sym at)
    (keeps g.E.Engine.stands_for kind c.args.self.now c.mark.new.self x (with_mark x t c.args.coord c.args.count) s now refl refl)

pub returns-in-IsVoted-clause-stands : goal.returns-in-IsVoted-clause-stands
returns-in-IsVoted-clause-stands g c = λ kind x s.
    let same = unmarked x c.args.t c.args.coord c.args.count c.standing.result c.in-IsVoted.is in
    subst (λ (st : Standing). RepresentsRunning g.E.Engine.stands_for kind c.args.self.now (marked_by x c.args.t c.args.coord c.args.count st)) (c.standing.ensures kind x s)
    (subst (λ (y : MemberState). RepresentsRunning g.E.Engine.stands_for kind c.args.self.now y) (sym same) s)
