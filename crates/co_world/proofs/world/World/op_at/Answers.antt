use Rattle.std.proofs.Common.{◌≡◌, ℕ, Option, ap, ◌∙◌, subst}
use Rattle.std.specs.Prelude.{IfOk, OnOk}
use Rattle.co_plain.specs.Federation.{with_member}
use Rattle.co_plain.specs.Member.{member_op}
use Rattle.co_plain.specs.Sessions.{count_at}
use Rattle.co_plain.specs.declared.session.Session.{Session}
use Rattle.co_session.specs.Clients.{carried_of}
use Rattle.co_state.proofs.Tables.{on_ok}
use Rattle.co_state.specs.Table.{Table, look}
use Rattle.co_cluster.specs.Standing.{RepresentsCluster}
use Rattle.co_world.specs.Standing.{RepresentsWorld}
use Rattle.co_world.proofs.Acting.{visit_granted}
use Rattle.co_world.proofs.Nodes.{member_changed}
use Rattle.co_world.proofs.world.World.op_at.Goals as goal

pub op-requires-clause-stands : goal.op-requires-clause-stands
op-requires-clause-stands g c =
    let h = c.requires.stands in
    (h.0, h.2.cluster, h.3, h.4, h.3.whole.visited c.args.t c.args.member h.1 h.5)

pub returns-clause-answer : goal.returns-clause-answer
returns-clause-answer g c = λ s r ready session may.
    let is = (visit_granted (look s.sessions c.args.t) c.args.member session may).0 in
    let carried : c.carried-carried.result ≡ count_at session.told c.args.member = c.carried-carried.ensures ∙ ap (λ (table : Table Session). carried_of (look table c.args.t) c.args.member) r.sessions ∙ ap (λ (o : Option Session). carried_of o c.args.member) is in
    subst (λ (n : ℕ). IfOk c.op.result (λ a. a ≡ (member_op (s.member c.args.member) c.args.t n c.args.op.now).answer)) carried
    (c.op.ensures.answer s r.cluster ready (ready.whole.visited c.args.t c.args.member session may))

pub returns-clause-stands : goal.returns-clause-stands
returns-clause-stands g c = λ s r ready session may.
    let is = (visit_granted (look s.sessions c.args.t) c.args.member session may).0 in
    let carried : c.carried-carried.result ≡ count_at session.told c.args.member = c.carried-carried.ensures ∙ ap (λ (table : Table Session). carried_of (look table c.args.t) c.args.member) r.sessions ∙ ap (λ (o : Option Session). carried_of o c.args.member) is in
    let x = (member_op (s.member c.args.member) c.args.t (count_at session.told c.args.member) c.args.op.now).state in
    let after = with_member s c.args.member x in
    on_ok c.op.result {A = RepresentsCluster g.E.Engine.takes g.E.Engine.stands_for c.op.new.self after} {B = RepresentsWorld g.E.Engine.takes g.E.Engine.stands_for (record c.args.self.now { cluster = c.op.new.self }) after}
    (member_changed g.E.Engine.takes g.E.Engine.stands_for c.args.self.now c.op.new.self s c.args.member x r)
    (subst (λ (n : ℕ). OnOk c.op.result (RepresentsCluster g.E.Engine.takes g.E.Engine.stands_for c.op.new.self (with_member s c.args.member (member_op (s.member c.args.member) c.args.t n c.args.op.now).state))) carried
    (c.op.ensures.stands s r.cluster ready (ready.whole.visited c.args.t c.args.member session may)))

pub returns-clause-held : goal.returns-clause-held
returns-clause-held g c = c.op.ensures.held
