use Rattle.std.proofs.Common.{◌≡◌, Bool, not, Option, Err, sym, ap, ◌∙◌, subst, true}
use Rattle.co_base.specs.declared.node.Node.TheVariants as node
use Rattle.co_message.specs.declared.answer.Answer.{Answer}
use Rattle.co_message.specs.declared.answer.Answer.TheVariants as answer
use Rattle.co_plain.specs.Federation.{with_member}
use Rattle.co_plain.specs.Sessions.{count_at}
use Rattle.co_cluster.specs.Telling.{IsTold}
use Rattle.co_cluster.specs.declared.calls.MemberCall.{MemberCall}
use Rattle.co_plain.specs.Step.{is_held, marked_asked, local_answers, disarmed}
use Rattle.co_plain.specs.declared.session.Session.{Session}
use Rattle.co_session.specs.Clients.{carried_of}
use Rattle.co_state.specs.Table.{Table, look}
use Rattle.co_world.specs.Calls.{member_call}
use Rattle.co_cluster.specs.Calls.{member_does, MemberMay}
use Rattle.co_world.specs.Standing.{RepresentsWorld}
use Rattle.co_world.proofs.Acting.{begun_here, may_end, own_member}
use Rattle.co_world.proofs.ClientSteps.{marked_by_member, ends_alone}
use Rattle.co_world.proofs.Ends.{passed_limit, no_limit}
use Rattle.co_cluster.proofs.Lefts.{either_left}
use Rattle.co_world.proofs.Nodes.{held_left, pins_on}
use Rattle.co_world.proofs.LeftSteps.{local_answers_left, local_answers_overlong}
use Rattle.co_cluster.specs.Left.{member_disarmed, AreLeftWith}
use Rattle.co_world.proofs.Answering.{refused_alone, passed_answer, did_at_member}
use Rattle.co_world.proofs.world.World.end_at_member.Goals as goal

pub returns-then-not-member_up-clause-count : goal.returns-then-not-member_up-clause-count
returns-then-not-member_up-clause-count g c =
    no_limit c.answers.result c.answers.ensures.memory

pub member_does-requires-clause-stands : goal.member_does-requires-clause-stands
member_does-requires-clause-stands g c =
    let s = c.requires.stands.0 in
    let session = c.requires.stands.1 in
    let r = c.requires.stands.2 in
    let ready = c.requires.stands.3 in
    let here = c.requires.stands.4 in
    let up = sym (c.member_up.ensures s r) ∙ c.if-not-member_up.false in
    let own = own_member g.E.Engine.takes g.E.Engine.stands_for c.args.self.now s r c.args.member c.requires.in_head in
    (s, r, subst (λ (k : MemberCall). MemberMay s.coordinators k (s.member c.args.member)) (sym c.member_call.ensures) (ends_alone s ready c.args.member own c.args.ending c.args.t c.carried-carried.result session (may_end (look s.sessions c.args.t) session here c.requires.stands.5) up))

pub returns-in_err-did-clause-count : goal.returns-in_err-did-clause-count
returns-in_err-did-clause-count g c =
    passed_limit c.in_err-did.field-0.0 c.from_residual.result c.from_residual.ensures (λ e. c.in_err-did.ensures.count (ap Err e))

pub mark_asked-requires : goal.mark_asked-requires
mark_asked-requires g c =
    let s = c.requires.stands.0 in
    let session = c.requires.stands.1 in
    let r = c.requires.stands.2 in
    let ready = c.requires.stands.3 in
    let here = c.requires.stands.4 in
    let carried : c.carried-carried.result ≡ count_at session.told c.args.member = c.carried-carried.ensures ∙ ap (λ (table : Table Session). carried_of (look table c.args.t) c.args.member) r.sessions ∙ ap (λ (o : Option Session). carried_of o c.args.member) here in
    let asks : c.member_call.result ≡ member_call c.args.ending c.args.t (count_at session.told c.args.member) = c.member_call.ensures ∙ ap (member_call c.args.ending c.args.t) carried in
    let step = member_does c.args.member (member_call c.args.ending c.args.t (count_at session.told c.args.member)) (s.member c.args.member) in
    let stood : RepresentsWorld g.E.Engine.takes g.E.Engine.stands_for c.member_does.new.self (with_member s c.args.member step.state) = subst (λ (k : MemberCall). RepresentsWorld g.E.Engine.takes g.E.Engine.stands_for c.member_does.new.self (with_member s c.args.member (member_does c.args.member k (s.member c.args.member)).state)) asks (c.in_ok-did.ensures.stands s r) in
    record { begun = begun_here g.E.Engine.takes g.E.Engine.stands_for c.member_does.new.self (with_member s c.args.member step.state) stood c.args.t session here }

pub returns-then-not-member_up-clause-answered : goal.returns-then-not-member_up-clause-answered
returns-then-not-member_up-clause-answered g c = λ s r session here.
    let k = c.args.member in
    let asked = member_call c.args.ending c.args.t (count_at session.told k) in
    let step = member_does k asked (s.member k) in
    let down = sym (c.member_up.ensures s r) ∙ c.if-not-member_up.true in
    refused_alone g.E.Engine.takes g.E.Engine.stands_for c.args.number (λ z. local_answers z c.args.t session k (z.member k).up (member_does k asked (z.member k))) s (answer.Down (node.Member k)) c.args.self.now (g.H.Home.seen c.args.home.now) c.answers.result (ap (λ (b : Bool). local_answers s c.args.t session k b step) (sym down)) r c.requires.held
    (c.answers.ensures.items s) c.answers.ensures.memory

pub returns-in_err-did-clause-answered : goal.returns-in_err-did-clause-answered
returns-in_err-did-clause-answered g c = λ s r session here.
    let carried : c.carried-carried.result ≡ count_at session.told c.args.member = c.carried-carried.ensures ∙ ap (λ (table : Table Session). carried_of (look table c.args.t) c.args.member) r.sessions ∙ ap (λ (o : Option Session). carried_of o c.args.member) here in
    let asks : c.member_call.result ≡ member_call c.args.ending c.args.t (count_at session.told c.args.member) = c.member_call.ensures ∙ ap (member_call c.args.ending c.args.t) carried in
    let k = c.args.member in
    let asked = member_call c.args.ending c.args.t (count_at session.told k) in
    let step = member_does k asked (s.member k) in
    let whole = member_does k asked (member_disarmed (s.member k)) in
    let up : (s.member k).up ≡ true = sym (c.member_up.ensures s r) ∙ c.if-not-member_up.false in
    let new = g.H.Home.seen c.member_does.new.home in
    let fault = c.in_err-did.field-0.0 in
    let left : AreLeftWith new.file s (with_member (disarmed s) k whole.state) fault = subst (λ (j : MemberCall). AreLeftWith new.file s (with_member (disarmed s) k (member_does k j (member_disarmed (s.member k))).state) fault) asks (c.in_err-did.ensures.left s r) in
    let after = (local_answers s c.args.t session k (s.member k).up step).state in
    let completed = (local_answers (disarmed s) c.args.t session k (s.member k).up whole).state in
    passed_answer g.E.Engine.takes g.E.Engine.stands_for c.args.number (λ z. local_answers z c.args.t session k (z.member k).up (member_does k asked (z.member k))) s c.member_does.new.self (g.H.Home.seen c.args.home.now) new c.from_residual.result fault c.from_residual.ensures
    (record {
      left = either_left new.file s s after completed (with_member (disarmed s) k whole.state) fault (λ before. before) (local_answers_left new.file (disarmed s) c.args.t session k (s.member k).up whole up)
          (local_answers_overlong new.file (disarmed s) c.args.t session k (s.member k).up whole up) left;
      ended = c.in_err-did.ensures.ended;
    })

pub returns-clause-answered : goal.returns-clause-answered
returns-clause-answered g c = λ s r session here.
    let carried : c.carried-carried.result ≡ count_at session.told c.args.member = c.carried-carried.ensures ∙ ap (λ (table : Table Session). carried_of (look table c.args.t) c.args.member) r.sessions ∙ ap (λ (o : Option Session). carried_of o c.args.member) here in
    let asks : c.member_call.result ≡ member_call c.args.ending c.args.t (count_at session.told c.args.member) = c.member_call.ensures ∙ ap (member_call c.args.ending c.args.t) carried in
    let k = c.args.member in
    let asked = member_call c.args.ending c.args.t (count_at session.told k) in
    let step = member_does k asked (s.member k) in
    let up : (s.member k).up ≡ true = sym (c.member_up.ensures s r) ∙ c.if-not-member_up.false in
    let new = g.H.Home.seen c.member_does.new.home in
    let done = c.in_ok-did.ensures in
    let told : IsTold step c.in_ok-did.did = subst (λ (j : MemberCall). IsTold (member_does k j (s.member k)) c.in_ok-did.did) asks (done.told s r) in
    let stood : RepresentsWorld g.E.Engine.takes g.E.Engine.stands_for c.member_does.new.self (with_member s k step.state) = subst (λ (j : MemberCall). RepresentsWorld g.E.Engine.takes g.E.Engine.stands_for c.member_does.new.self (with_member s k (member_does k j (s.member k)).state)) asks (done.stands s r) in
    let flag : not c.is_held.result ≡ not (is_held step.answer) = ap not c.is_held.ensures ∙ ap (λ (a : Answer). not (is_held a)) told.answer in
    let marked = marked_asked s c.args.t session (not (is_held step.answer)) in
    let first : RepresentsWorld g.E.Engine.takes g.E.Engine.stands_for c.mark_asked.new.self (marked_asked (with_member s k step.state) c.args.t session (not (is_held step.answer))) =
    subst (λ (b : Bool). RepresentsWorld g.E.Engine.takes g.E.Engine.stands_for c.mark_asked.new.self (marked_asked (with_member s k step.state) c.args.t session b)) flag (c.mark_asked.ensures.stands (with_member s k step.state) stood session here) in
    let now : RepresentsWorld g.E.Engine.takes g.E.Engine.stands_for c.mark_asked.new.self (with_member marked k step.state) =
    subst (RepresentsWorld g.E.Engine.takes g.E.Engine.stands_for c.mark_asked.new.self) (marked_by_member s c.args.t session (not (is_held step.answer)) k step.state) first in
    let kept = c.mark_asked.ensures.held new done.served.kept in
    did_at_member g.E.Engine.takes g.E.Engine.stands_for c.args.number (λ z. local_answers z c.args.t session k (z.member k).up (member_does k asked (z.member k))) s c.member_does.new.self c.tells_of_member.new.self (g.H.Home.seen c.args.home.now) new c.tells_of_member.result marked k step c.in_ok-did.did told
    (ap (λ (b : Bool). local_answers s c.args.t session k b step) (sym up)) done.served (held_left g.E.Engine.takes g.E.Engine.stands_for c.mark_asked.new.self (with_member marked k step.state) new now kept)
    c.tells_of_member.ensures.items (c.tells_of_member.ensures.stands (with_member marked k step.state) now) (c.tells_of_member.ensures.held new kept) c.tells_of_member.ensures.memory

pub returns-clause-pins : goal.returns-clause-pins
returns-clause-pins g c = pins_on g.E.Engine.pins c.args.self.now c.member_does.new.self c.tells_of_member.new.self c.member_does.ensures.pins (c.tells_of_member.ensures.nodes ∙ c.mark_asked.ensures.nodes)
