use Rattle.std.proofs.Common.{◌≡◌, ◌≤◌, ◌<◌, ℕ, length, Option, sym, ap, ◌∙◌, subst, arith}
use Rattle.std.specs.Prelude.{IfOk, OnOk}
use Rattle.co_base.specs.declared.node.Node.TheVariants as node
use Rattle.co_base.specs.Limits.{most_members}
use Rattle.co_message.specs.declared.answer.Answer.{Answer}
use Rattle.co_message.specs.declared.answer.Answer.TheVariants as answer
use Rattle.co_plain.specs.Federation.{Federation, Stepped, answers, with_member}
use Rattle.co_plain.specs.Sessions.{count_at}
use Rattle.co_plain.specs.Decisions.{told_in}
use Rattle.co_plain.specs.Member.{member_op}
use Rattle.co_plain.specs.Runs.{numbered}
use Rattle.co_plain.specs.Step.{operate, reply_in, entered}
use Rattle.co_plain.specs.declared.session.Session.{Session}
use Rattle.co_session.specs.Clients.{Clients, carried_of, carried_in}
use Rattle.co_state.specs.Table.{Table, look, holds}
use Rattle.co_world.specs.Standing.{RepresentsWorld}
use Rattle.co_world.proofs.Acting.{begun_here, visit_granted, own_member}
use Rattle.co_world.proofs.ClientSteps.{operate_down, operate_up}
use Rattle.co_world.proofs.Ends.{passed_memory, all_ok}
use Rattle.co_cluster.proofs.Ready.{replied_few}
use Rattle.co_world.proofs.Told.{told_as, answered_stands}
use Rattle.co_world.proofs.Nodes.{pins_on}
use Rattle.co_world.proofs.world.World.operated.Goals as goal

pub returns-then-not-member_up-clause-items : goal.returns-then-not-member_up-clause-items
returns-then-not-member_up-clause-items g c = λ s r ready session may.
    let down = sym (c.member_up.ensures s r) ∙ c.if-not-member_up.true in
    let is = operate_down s c.args.t c.args.member c.args.op session may down in
    told_as c.args.number c.answers.result (answers s (answer.Down (node.Member c.args.member))) (operate s c.args.t c.args.member c.args.op) (sym is) (c.answers.ensures.items s)

pub returns-then-not-member_up-clause-stands : goal.returns-then-not-member_up-clause-stands
returns-then-not-member_up-clause-stands g c = λ s r ready session may.
    let down = sym (c.member_up.ensures s r) ∙ c.if-not-member_up.true in
    let is = operate_down s c.args.t c.args.member c.args.op session may down in
    answered_stands g.E.Engine.takes g.E.Engine.stands_for c.answers.result c.args.self.now s (answer.Down (node.Member c.args.member)) (operate s c.args.t c.args.member c.args.op) (sym is) r

pub returns-then-not-member_up-clause-held : goal.returns-then-not-member_up-clause-held
returns-then-not-member_up-clause-held g c = λ home held.
    all_ok c.answers.result held

pub returns-then-not-member_up-clause-memory : goal.returns-then-not-member_up-clause-memory
returns-then-not-member_up-clause-memory g c =
    c.answers.ensures.memory

pub op_at-requires-clause-stands : goal.op_at-requires-clause-stands
op_at-requires-clause-stands g c =
    let s = c.requires.stands.0 in
    let r = c.requires.stands.1 in
    let ready = c.requires.stands.2 in
    let session = c.requires.stands.3.0 in
    let may = c.requires.stands.3.1 in
    let up = sym (c.member_up.ensures s r) ∙ c.if-not-member_up.false in
    (s, session, r, ready, up, may)

pub returns-in_err-answer-clause-memory : goal.returns-in_err-answer-clause-memory
returns-in_err-answer-clause-memory g c =
    passed_memory c.in_err-answer.field-0.0 c.from_residual.result c.from_residual.ensures c.in_err-answer.ensures.memory

pub enter-requires-clause-in_head : goal.enter-requires-clause-in_head
enter-requires-clause-in_head g c =
    let s = c.requires.stands.0 in
    let r = c.requires.stands.1 in
    let own : c.args.member ≤ length s.kinds = (own_member g.E.Engine.takes g.E.Engine.stands_for c.args.self.now s r c.args.member c.requires.in_head).1 in
    let few : length s.kinds ≤ most_members = r.cluster.few_members in
    (c.requires.in_head.0, omega (arith, own, few))

pub enter-requires-clause-begun : goal.enter-requires-clause-begun
enter-requires-clause-begun g c =
    let s = c.requires.stands.0 in
    let r = c.requires.stands.1 in
    let ready = c.requires.stands.2 in
    let session = c.requires.stands.3.0 in
    let may = c.requires.stands.3.1 in
    ap (λ (x : Clients). holds x.sessions c.args.t) c.in_ok-answer.ensures.sessions ∙ begun_here g.E.Engine.takes g.E.Engine.stands_for c.args.self.now s r c.args.t session (visit_granted (look s.sessions c.args.t) c.args.member session may).0

pub enter-requires-clause-count : goal.enter-requires-clause-count
enter-requires-clause-count g c = λ reply is.
    let s = c.requires.stands.0 in
    let r = c.requires.stands.1 in
    let ready = c.requires.stands.2 in
    let session = c.requires.stands.3.0 in
    let may = c.requires.stands.3.1 in
    let here = (visit_granted (look s.sessions c.args.t) c.args.member session may).0 in
    let carried : carried_in c.op_at.new.self.sessions c.args.t c.args.member ≡ count_at session.told c.args.member = ap (λ (x : Clients). carried_in x c.args.t c.args.member) c.in_ok-answer.ensures.sessions ∙ ap (λ (table : Table Session). carried_of (look table c.args.t) c.args.member) r.sessions ∙ ap (λ (o : Option Session). carried_of o c.args.member) here in
    let few : count_at session.told c.args.member ≤ 1024 = subst (λ (o : Option Session). count_at (told_in o) c.args.member ≤ 1024) here (ready.whole.few c.args.t c.args.member) in
    let told = c.in_ok-answer.ensures.answer s r ready session may in
    subst (λ (n : ℕ). n < 1024) (sym carried) (replied_few (s.member c.args.member) c.args.t (count_at session.told c.args.member) c.args.op reply few (ap reply_in (sym told) ∙ is))

pub returns-in_err-enter-clause-memory : goal.returns-in_err-enter-clause-memory
returns-in_err-enter-clause-memory g c =
    passed_memory c.in_err-enter.field-0.0 c.from_residual-in_err-enter.result c.from_residual-in_err-enter.ensures c.in_err-enter.ensures.memory

pub returns-clause-items : goal.returns-clause-items
returns-clause-items g c = λ s r ready session may.
    let step = member_op (s.member c.args.member) c.args.t (count_at session.told c.args.member) c.args.op in
    let up = sym (c.member_up.ensures s r) ∙ c.if-not-member_up.false in
    let is = operate_up s c.args.t c.args.member c.args.op session may up in
    let told = c.in_ok-answer.ensures.answer s r ready session may in
    told_as c.args.number c.answers-2.result _ (operate s c.args.t c.args.member c.args.op) (sym is) (subst (λ (a : Answer). IfOk c.answers-2.result (λ items. items ≡ numbered c.args.number (answers s a).items)) told (c.answers-2.ensures.items s))

pub returns-clause-stands : goal.returns-clause-stands
returns-clause-stands g c = λ s r ready session may.
    let step = member_op (s.member c.args.member) c.args.t (count_at session.told c.args.member) c.args.op in
    let up = sym (c.member_up.ensures s r) ∙ c.if-not-member_up.false in
    let is = operate_up s c.args.t c.args.member c.args.op session may up in
    let told = c.in_ok-answer.ensures.answer s r ready session may in
    let here = (visit_granted (look s.sessions c.args.t) c.args.member session may).0 in
    subst (λ (z : Federation). OnOk c.answers-2.result (RepresentsWorld g.E.Engine.takes g.E.Engine.stands_for c.enter.new.self z)) (sym (ap (λ (z : Stepped). z.state) is)) (all_ok c.answers-2.result (subst (λ (a : Answer). RepresentsWorld g.E.Engine.takes g.E.Engine.stands_for c.enter.new.self (entered (with_member s c.args.member step.state) c.args.t session c.args.member c.args.op (reply_in a))) told (c.in_ok-enter.ensures.stands (with_member s c.args.member step.state) (c.in_ok-answer.ensures.stands s r ready session may) session here)))

pub returns-clause-held : goal.returns-clause-held
returns-clause-held g c = λ home held.
    all_ok c.answers-2.result (c.in_ok-enter.ensures.held home (c.in_ok-answer.ensures.held home held))

pub returns-clause-memory : goal.returns-clause-memory
returns-clause-memory g c =
    c.answers-2.ensures.memory

pub returns-in_err-enter-clause-pins : goal.returns-in_err-enter-clause-pins
returns-in_err-enter-clause-pins g c = pins_on g.E.Engine.pins c.args.self.now c.op_at.new.self c.enter.new.self c.op_at.ensures.pins c.enter.ensures.nodes

pub returns-clause-pins : goal.returns-clause-pins
returns-clause-pins g c = pins_on g.E.Engine.pins c.args.self.now c.op_at.new.self c.enter.new.self c.op_at.ensures.pins c.enter.ensures.nodes
