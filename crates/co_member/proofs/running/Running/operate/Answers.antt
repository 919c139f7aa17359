use Rattle.std.proofs.Common.{sym, ap, subst, ◌∙◌}
use Rattle.co_plain.specs.Member.{unless_blocked}
use Rattle.co_state.specs.LockRule.{lock_blocker}
use Rattle.co_state.specs.declared.engine_state.EngineState.{EngineState}
use Rattle.co_undecided.specs.Represented.{Represents}
use Rattle.co_plain.specs.declared.member_state.AskedMark.{AskedMark}
use Rattle.co_state.specs.Table.{Table}
use Rattle.co_member.proofs.Changing.{keeps}
use Rattle.co_member.proofs.Operating.{told_of, answered, engine_after, rest_after}
use Rattle.co_member.proofs.running.Running.operate.Goals as goal

pub returns-in-Blocked-clause-answer : goal.returns-in-Blocked-clause-answer
returns-in-Blocked-clause-answer g c = λ kind x s may.
    ap told_of (sym c.in-Blocked.is ∙ c.in_ok-u.ensures.seen x.engine x.asked s.undecided may) ∙ answered x c.args.t c.args.op.now

pub returns-in-Blocked-clause-state : goal.returns-in-Blocked-clause-state
returns-in-Blocked-clause-state g c = λ kind x s may.
    let y = (unless_blocked x c.args.t c.args.op.now (lock_blocker x.engine c.args.t c.args.op.now)).state in
    let rest = rest_after x c.args.t c.args.op.now in
    let now = subst (λ (ms : Table AskedMark). Represents g.E.Engine.stands_for c.op.new.self y.engine ms) (sym rest.0)
    (subst (λ (b : EngineState). Represents g.E.Engine.stands_for c.op.new.self b x.asked) (engine_after x c.args.t c.args.op.now) (c.in_ok-u.ensures.stands x.engine x.asked s.undecided may)) in
    keeps g.E.Engine.stands_for kind c.args.self.now c.op.new.self x y s now rest.1 rest.2

pub returns-in-Answer-clause-answer : goal.returns-in-Answer-clause-answer
returns-in-Answer-clause-answer g c = λ kind x s may.
    ap told_of (sym c.in-Answer.is ∙ c.in_ok-u.ensures.seen x.engine x.asked s.undecided may) ∙ answered x c.args.t c.args.op.now

pub returns-in-Answer-clause-state : goal.returns-in-Answer-clause-state
returns-in-Answer-clause-state g c = λ kind x s may.
    let y = (unless_blocked x c.args.t c.args.op.now (lock_blocker x.engine c.args.t c.args.op.now)).state in
    let rest = rest_after x c.args.t c.args.op.now in
    let now = subst (λ (ms : Table AskedMark). Represents g.E.Engine.stands_for c.op.new.self y.engine ms) (sym rest.0)
    (subst (λ (b : EngineState). Represents g.E.Engine.stands_for c.op.new.self b x.asked) (engine_after x c.args.t c.args.op.now) (c.in_ok-u.ensures.stands x.engine x.asked s.undecided may)) in
    keeps g.E.Engine.stands_for kind c.args.self.now c.op.new.self x y s now rest.1 rest.2
