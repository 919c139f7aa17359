use Rattle.std.proofs.Common.{◌≡◌, Some, sym, ap, ◌∙◌}
use Rattle.co_plain.specs.Federation.{answers}
use Rattle.co_plain.specs.Step.{operate}
use Rattle.co_session.specs.Leaves.{leave_in}
use Rattle.co_world.proofs.Acting.{some_is, granted, refused, leave_alike}
use Rattle.co_world.proofs.ClientSteps.{operate_refused}
use Rattle.co_world.proofs.Ends.{all_ok}
use Rattle.co_world.proofs.Told.{told_as, answered_stands}
use Rattle.co_world.proofs.world.World.operate.Goals as goal

pub operated-requires-clause-stands : goal.operated-requires-clause-stands
operated-requires-clause-stands g c =
    let s = c.requires.stands.0 in
    let r = c.requires.stands.1 in
    let l = granted (leave_in c.args.self.now.sessions c.args.t (Some c.args.member)) c.in-Ok.field-0 c.in-Ok.ensures.leave in
    (s, r, c.requires.stands.2, (l.session, (sym (leave_alike g.E.Engine.takes g.E.Engine.stands_for c.args.self.now s r c.args.t (Some c.args.member)) ∙ l.is)))

pub refusal-requires : goal.refusal-requires
refusal-requires g c =
    let l = refused (leave_in c.args.self.now.sessions c.args.t (Some c.args.member)) c.in-Err.fault c.in-Err.ensures.leave in
    (l.answer, l.told)

pub returns-in-Ok-clause-items : goal.returns-in-Ok-clause-items
returns-in-Ok-clause-items g c = λ s r ready.
    let l = granted (leave_in c.args.self.now.sessions c.args.t (Some c.args.member)) c.in-Ok.field-0 c.in-Ok.ensures.leave in
    c.operated.ensures.items s r ready l.session (sym (leave_alike g.E.Engine.takes g.E.Engine.stands_for c.args.self.now s r c.args.t (Some c.args.member)) ∙ l.is)

pub returns-in-Ok-clause-stands : goal.returns-in-Ok-clause-stands
returns-in-Ok-clause-stands g c = λ s r ready.
    let l = granted (leave_in c.args.self.now.sessions c.args.t (Some c.args.member)) c.in-Ok.field-0 c.in-Ok.ensures.leave in
    c.operated.ensures.stands s r ready l.session (sym (leave_alike g.E.Engine.takes g.E.Engine.stands_for c.args.self.now s r c.args.t (Some c.args.member)) ∙ l.is)

pub returns-in-Err-clause-items : goal.returns-in-Err-clause-items
returns-in-Err-clause-items g c = λ s r ready.
    let l = refused (leave_in c.args.self.now.sessions c.args.t (Some c.args.member)) c.in-Err.fault c.in-Err.ensures.leave in
    let same : l.answer ≡ c.refusal.result = some_is (sym l.told ∙ c.refusal.ensures) in
    let is = operate_refused s c.args.t c.args.member c.args.op l.answer (sym (leave_alike g.E.Engine.takes g.E.Engine.stands_for c.args.self.now s r c.args.t (Some c.args.member)) ∙ l.is) in
    told_as c.args.number c.answers.result (answers s c.refusal.result) (operate s c.args.t c.args.member c.args.op) (ap (answers s) (sym same) ∙ sym is) (c.answers.ensures.items s)

pub returns-in-Err-clause-stands : goal.returns-in-Err-clause-stands
returns-in-Err-clause-stands g c = λ s r ready.
    let l = refused (leave_in c.args.self.now.sessions c.args.t (Some c.args.member)) c.in-Err.fault c.in-Err.ensures.leave in
    let same : l.answer ≡ c.refusal.result = some_is (sym l.told ∙ c.refusal.ensures) in
    let is = operate_refused s c.args.t c.args.member c.args.op l.answer (sym (leave_alike g.E.Engine.takes g.E.Engine.stands_for c.args.self.now s r c.args.t (Some c.args.member)) ∙ l.is) in
    answered_stands g.E.Engine.takes g.E.Engine.stands_for c.answers.result c.args.self.now s c.refusal.result (operate s c.args.t c.args.member c.args.op) (ap (answers s) (sym same) ∙ sym is) r

pub returns-in-Err-clause-held : goal.returns-in-Err-clause-held
returns-in-Err-clause-held g c = λ home held.
    all_ok c.answers.result held

pub returns-in-Err-clause-memory : goal.returns-in-Err-clause-memory
returns-in-Err-clause-memory g c =
    c.answers.ensures.memory
