use Rattle.std.proofs.Common.{◌≡◌, None, Ok, sym, ap, ◌∙◌, subst}
use Rattle.co_base.specs.declared.node.Node.TheVariants as node
use Rattle.co_plain.specs.Federation.{answers}
use Rattle.co_session.specs.Leaves.{IsLeave, leave_in}
use Rattle.co_base.specs.declared.node.Node.{Node}
use Rattle.co_state.specs.Table.{look}
use Rattle.co_world.specs.Calls.{ended, coord_call, member_call}
use Rattle.co_world.proofs.Acting.{some_is, granted, refused, leave_alike, end_granted, home_coord, home_member}
use Rattle.co_world.proofs.ClientSteps.{ended_refused, ended_by_coord, ended_by_member}
use Rattle.co_world.proofs.Ends.{no_limit}
use Rattle.co_plain.specs.Step.{disarmed, coord_answers, local_answers}
use Rattle.co_world.proofs.Answering.{answered_as, refused_alone}
use Rattle.co_plain.specs.Sessions.{parts_of, count_at}
use Rattle.co_cluster.specs.Calls.{coord_does, member_does}
use Rattle.co_world.proofs.world.World.end.Goals as goal

pub end_at_coord-requires-clause-in_head : goal.end_at_coord-requires-clause-in_head
end_at_coord-requires-clause-in_head g c =
    let s = c.requires.stands.0 in
    let r = c.requires.stands.1 in
    let l = granted (leave_in c.args.self.now.sessions c.args.t None) (node.Coord c.in-Ok-Coord.coord) (subst (λ (n : Node). IsLeave (leave_in c.args.self.now.sessions c.args.t None) (Ok n)) c.in-Ok-Coord.field-0-is c.in-Ok-Coord.ensures.leave) in
    let may = sym (leave_alike g.E.Engine.takes g.E.Engine.stands_for c.args.self.now s r c.args.t None) ∙ l.is in
    home_coord g.E.Engine.takes g.E.Engine.stands_for c.args.self.now s r c.args.t l.session c.in-Ok-Coord.coord (end_granted (look s.sessions c.args.t) l.session may).0 l.home

pub end_at_coord-requires-clause-stands : goal.end_at_coord-requires-clause-stands
end_at_coord-requires-clause-stands g c =
    let s = c.requires.stands.0 in
    let r = c.requires.stands.1 in
    let l = granted (leave_in c.args.self.now.sessions c.args.t None) (node.Coord c.in-Ok-Coord.coord) (subst (λ (n : Node). IsLeave (leave_in c.args.self.now.sessions c.args.t None) (Ok n)) c.in-Ok-Coord.field-0-is c.in-Ok-Coord.ensures.leave) in
    let may = sym (leave_alike g.E.Engine.takes g.E.Engine.stands_for c.args.self.now s r c.args.t None) ∙ l.is in
    (s, l.session, r, (end_granted (look s.sessions c.args.t) l.session may).0)

pub end_at_member-requires-clause-in_head : goal.end_at_member-requires-clause-in_head
end_at_member-requires-clause-in_head g c =
    let s = c.requires.stands.0 in
    let r = c.requires.stands.1 in
    let l = granted (leave_in c.args.self.now.sessions c.args.t None) (node.Member c.in-Ok-Member.member) (subst (λ (n : Node). IsLeave (leave_in c.args.self.now.sessions c.args.t None) (Ok n)) c.in-Ok-Member.field-0-is c.in-Ok-Member.ensures.leave) in
    let may = sym (leave_alike g.E.Engine.takes g.E.Engine.stands_for c.args.self.now s r c.args.t None) ∙ l.is in
    home_member g.E.Engine.takes g.E.Engine.stands_for c.args.self.now s r c.args.t l.session c.in-Ok-Member.member (end_granted (look s.sessions c.args.t) l.session may).0 l.home

pub end_at_member-requires-clause-stands : goal.end_at_member-requires-clause-stands
end_at_member-requires-clause-stands g c =
    let s = c.requires.stands.0 in
    let r = c.requires.stands.1 in
    let l = granted (leave_in c.args.self.now.sessions c.args.t None) (node.Member c.in-Ok-Member.member) (subst (λ (n : Node). IsLeave (leave_in c.args.self.now.sessions c.args.t None) (Ok n)) c.in-Ok-Member.field-0-is c.in-Ok-Member.ensures.leave) in
    let may = sym (leave_alike g.E.Engine.takes g.E.Engine.stands_for c.args.self.now s r c.args.t None) ∙ l.is in
    let two = end_granted (look s.sessions c.args.t) l.session may in
    (s, l.session, r, c.requires.stands.2, two.0, two.1)

pub refusal-requires : goal.refusal-requires
refusal-requires g c =
    let l = refused (leave_in c.args.self.now.sessions c.args.t None) c.in-Err.fault c.in-Err.ensures.leave in
    (l.answer, l.told)

pub returns-in-Err-clause-count : goal.returns-in-Err-clause-count
returns-in-Err-clause-count g c =
    no_limit c.answers.result c.answers.ensures.memory

pub returns-in-Ok-Coord-clause-answered : goal.returns-in-Ok-Coord-clause-answered
returns-in-Ok-Coord-clause-answered g c = λ s r ready.
    let k = c.in-Ok-Coord.coord in
    let l = granted (leave_in c.args.self.now.sessions c.args.t None) (node.Coord k) (subst (λ (n : Node). IsLeave (leave_in c.args.self.now.sessions c.args.t None) (Ok n)) c.in-Ok-Coord.field-0-is c.in-Ok-Coord.ensures.leave) in
    let may = sym (leave_alike g.E.Engine.takes g.E.Engine.stands_for c.args.self.now s r c.args.t None) ∙ l.is in
    let here = (end_granted (look s.sessions c.args.t) l.session may).0 in
    answered_as g.E.Engine.takes g.E.Engine.stands_for c.args.number (λ z. coord_answers z c.args.t l.session k (z.coord k).up (coord_does k (coord_call c.args.ending c.args.t (parts_of l.session.told)) (z.coord k))) (λ z. ended z c.args.t c.args.ending) s c.end_at_coord.new.self (g.H.Home.seen c.args.home.now)
    (g.H.Home.seen c.end_at_coord.new.home) c.end_at_coord.result (sym (ended_by_coord s c.args.t c.args.ending l.session k may l.home)) (sym (ended_by_coord (disarmed s) c.args.t c.args.ending l.session k may l.home))
    (c.end_at_coord.ensures.answered s r l.session here)

pub returns-in-Ok-Member-clause-answered : goal.returns-in-Ok-Member-clause-answered
returns-in-Ok-Member-clause-answered g c = λ s r ready.
    let k = c.in-Ok-Member.member in
    let l = granted (leave_in c.args.self.now.sessions c.args.t None) (node.Member k) (subst (λ (n : Node). IsLeave (leave_in c.args.self.now.sessions c.args.t None) (Ok n)) c.in-Ok-Member.field-0-is c.in-Ok-Member.ensures.leave) in
    let may = sym (leave_alike g.E.Engine.takes g.E.Engine.stands_for c.args.self.now s r c.args.t None) ∙ l.is in
    let here = (end_granted (look s.sessions c.args.t) l.session may).0 in
    answered_as g.E.Engine.takes g.E.Engine.stands_for c.args.number (λ z. local_answers z c.args.t l.session k (z.member k).up (member_does k (member_call c.args.ending c.args.t (count_at l.session.told k)) (z.member k))) (λ z. ended z c.args.t c.args.ending) s c.end_at_member.new.self (g.H.Home.seen c.args.home.now)
    (g.H.Home.seen c.end_at_member.new.home) c.end_at_member.result (sym (ended_by_member s c.args.t c.args.ending l.session k may l.home)) (sym (ended_by_member (disarmed s) c.args.t c.args.ending l.session k may l.home))
    (c.end_at_member.ensures.answered s r l.session here)

pub returns-in-Err-clause-answered : goal.returns-in-Err-clause-answered
returns-in-Err-clause-answered g c = λ s r ready.
    let l = refused (leave_in c.args.self.now.sessions c.args.t None) c.in-Err.fault c.in-Err.ensures.leave in
    let same : l.answer ≡ c.refusal.result = some_is (sym l.told ∙ c.refusal.ensures) in
    let may = sym (leave_alike g.E.Engine.takes g.E.Engine.stands_for c.args.self.now s r c.args.t None) ∙ l.is in
    let is = ended_refused s c.args.t c.args.ending l.answer may in
    refused_alone g.E.Engine.takes g.E.Engine.stands_for c.args.number (λ z. ended z c.args.t c.args.ending) s c.refusal.result c.args.self.now (g.H.Home.seen c.args.home.now) c.answers.result (ap (answers s) (sym same) ∙ sym is) r c.requires.held (c.answers.ensures.items s) c.answers.ensures.memory
