use Rattle.std.proofs.Common.{Bool, Err, refl, sym, ap, ◌∙◌, subst, inl}
use Rattle.co_base.specs.declared.node.Node.TheVariants as node
use Rattle.co_law_base.proofs.Lookups.{apart_by}
use Rattle.co_message.specs.declared.answer.Answer.TheVariants as answer
use Rattle.co_plain.specs.Coordinator.{coord_begin}
use Rattle.co_plain.specs.Federation.{with_session, with_coord, at_coord}
use Rattle.co_plain.specs.Sessions.{begun_by}
use Rattle.co_plain.specs.Step.{is_used, begin_where, disarmed, step_line}
use Rattle.co_session.specs.Clients.{is_used as is_used_in}
use Rattle.co_world.proofs.Acting.{used_alike, begins, own_coord}
use Rattle.co_world.proofs.Ends.{errs_as, passed_limit, passed_memory, no_limit}
use Rattle.co_world.proofs.Nodes.{held_left, pins_on}
use Rattle.co_world.proofs.LeftSteps.{begun_left, left_as}
use Rattle.co_cluster.specs.Left.{coord_disarmed}
-- ---- the number is used, or there are too many
use Rattle.co_world.proofs.Answering.{refused_alone, wanting, passed_answer, did_at_coord}
use Rattle.co_world.specs.Answered.{IsEventCut}
use Rattle.co_message.specs.declared.event.Event.TheVariants as event
use Rattle.co_world.proofs.world.World.begin.Goals as goal

pub returns-in_err-used-clause-count : goal.returns-in_err-used-clause-count
returns-in_err-used-clause-count g c =
    let why = c.in_err-used.ensures.count in
    (λ is. (why.1, why.2), λ more. errs_as c.in_err-used.field-0.0 c.from_residual.result c.from_residual.ensures ∙ ap Err why.0)

pub returns-then-branch-clause-count : goal.returns-then-branch-clause-count
returns-then-branch-clause-count g c =
    let used = sym c.in_ok-used.ensures.used ∙ c.if-branch.true in
    (λ is. absurd (no_limit c.answers.result c.answers.ensures.memory is), λ more. apart_by (is_used_in c.args.self.now.sessions c.args.t) used more.0)

pub returns-then-not-coord_up-clause-count : goal.returns-then-not-coord_up-clause-count
returns-then-not-coord_up-clause-count g c =
    let room = c.in_ok-used.ensures.room c.if-branch.false in
    (λ is. absurd (no_limit c.answers-then-not-coord_up.result c.answers-then-not-coord_up.ensures.memory is), λ more. apart_by _ more.1 room)

pub begin-requires-clause-unused : goal.begin-requires-clause-unused
begin-requires-clause-unused g c = sym c.in_ok-used.ensures.used ∙ c.if-branch.false

pub begin-requires-clause-room : goal.begin-requires-clause-room
begin-requires-clause-room g c = c.in_ok-used.ensures.room c.if-branch.false

pub returns-in_err-begin-clause-count : goal.returns-in_err-begin-clause-count
returns-in_err-begin-clause-count g c =
    let room = c.in_ok-used.ensures.room c.if-branch.false in
    let out = c.from_residual-in_err-begin.result in
    (λ is. absurd (no_limit out (passed_memory _ out c.from_residual-in_err-begin.ensures refl) is), λ more. apart_by _ more.1 room)

pub coord_does-requires-clause-held : goal.coord_does-requires-clause-held
coord_does-requires-clause-held g c = record { member = c.requires.held.member; coord = c.requires.held.coord }

pub coord_does-requires-clause-stands : goal.coord_does-requires-clause-stands
coord_does-requires-clause-stands g c =
    let s = c.requires.stands.0 in
    let r = c.requires.stands.1 in
    let by = node.Coord c.args.coord in
    let up = sym (c.coord_up.ensures s r) ∙ c.if-not-coord_up.false in
    let own = own_coord g.E.Engine.takes g.E.Engine.stands_for c.args.self.now s r c.args.coord c.requires.in_head in (
      with_session s c.args.t (begun_by by),
      begins g.E.Engine.takes g.E.Engine.stands_for c.args.self.now s r c.begin.new.self c.args.t by c.in_ok-begin.ensures.ok (sym c.in_ok-used.ensures.used ∙ c.if-branch.false) (c.in_ok-used.ensures.room c.if-branch.false) own,
      up,
    )

pub returns-in_err-did-clause-count : goal.returns-in_err-did-clause-count
returns-in_err-did-clause-count g c =
    let room = c.in_ok-used.ensures.room c.if-branch.false in
    let out = c.from_residual-in_err-did.result in
    let fault = c.in_err-did.field-0.0 in
    (λ is. absurd (passed_limit fault out c.from_residual-in_err-did.ensures (λ e. c.in_err-did.ensures.count (ap Err e)) is), λ more. apart_by _ more.1 room)

pub returns-clause-count : goal.returns-clause-count
returns-clause-count g c =
    let room = c.in_ok-used.ensures.room c.if-branch.false in
    (λ is. absurd (no_limit c.tells_of_coord.result c.tells_of_coord.ensures.memory is), λ more. apart_by _ more.1 room)

pub returns-in_err-used-clause-answered : goal.returns-in_err-used-clause-answered
returns-in_err-used-clause-answered g c = λ s r.
    let old = g.H.Home.seen c.args.home.now in
    let here = held_left g.E.Engine.takes g.E.Engine.stands_for c.args.self.now s old r c.requires.held in
    passed_answer g.E.Engine.takes g.E.Engine.stands_for c.args.number (λ z. step_line z (event.Begin c.args.t c.args.coord)) s c.args.self.now old old c.from_residual.result c.in_err-used.field-0.0 c.from_residual.ensures
    (subst (IsEventCut s (step_line s (event.Begin c.args.t c.args.coord)).state (step_line (disarmed s) (event.Begin c.args.t c.args.coord)).state old old) (sym c.in_err-used.ensures.count.0)
    (record { left = (inl here, tt); ended = refl }))

pub returns-then-branch-clause-answered : goal.returns-then-branch-clause-answered
returns-then-branch-clause-answered g c = λ s r.
    let used = sym (used_alike g.E.Engine.takes g.E.Engine.stands_for c.args.self.now s r c.args.t) ∙ sym c.in_ok-used.ensures.used ∙ c.if-branch.true in
    refused_alone g.E.Engine.takes g.E.Engine.stands_for c.args.number (λ z. step_line z (event.Begin c.args.t c.args.coord)) s answer.Used c.args.self.now (g.H.Home.seen c.args.home.now) c.answers.result (ap (λ (b : Bool). begin_where s c.args.t c.args.coord b (s.coord c.args.coord).up) (sym used)) r c.requires.held
    (c.answers.ensures.items s) c.answers.ensures.memory

pub returns-then-not-coord_up-clause-answered : goal.returns-then-not-coord_up-clause-answered
returns-then-not-coord_up-clause-answered g c = λ s r.
    let unused = sym (used_alike g.E.Engine.takes g.E.Engine.stands_for c.args.self.now s r c.args.t) ∙ sym c.in_ok-used.ensures.used ∙ c.if-branch.false in
    let down = sym (c.coord_up.ensures s r) ∙ c.if-not-coord_up.true in
    refused_alone g.E.Engine.takes g.E.Engine.stands_for c.args.number (λ z. step_line z (event.Begin c.args.t c.args.coord)) s (answer.Down (node.Coord c.args.coord)) c.args.self.now (g.H.Home.seen c.args.home.now) c.answers-then-not-coord_up.result (λ i. begin_where s c.args.t c.args.coord (sym unused i) (sym down i)) r c.requires.held
    (c.answers-then-not-coord_up.ensures.items s) c.answers-then-not-coord_up.ensures.memory

pub returns-in_err-begin-clause-answered : goal.returns-in_err-begin-clause-answered
returns-in_err-begin-clause-answered g c = λ s r.
    wanting g.E.Engine.takes g.E.Engine.stands_for c.args.number (λ z. step_line z (event.Begin c.args.t c.args.coord)) s c.args.self.now (record c.args.self.now { sessions = c.begin.new.self }) (g.H.Home.seen c.args.home.now) c.from_residual-in_err-begin.result r c.requires.held c.from_residual-in_err-begin.ensures

pub returns-in_err-did-clause-answered : goal.returns-in_err-did-clause-answered
returns-in_err-did-clause-answered g c = λ s r.
    let by = node.Coord c.args.coord in
    let unused = sym (used_alike g.E.Engine.takes g.E.Engine.stands_for c.args.self.now s r c.args.t) ∙ sym c.in_ok-used.ensures.used ∙ c.if-branch.false in
    let up = sym (c.coord_up.ensures s r) ∙ c.if-not-coord_up.false in
    let own = own_coord g.E.Engine.takes g.E.Engine.stands_for c.args.self.now s r c.args.coord c.requires.in_head in
    let begun = begins g.E.Engine.takes g.E.Engine.stands_for c.args.self.now s r c.begin.new.self c.args.t by c.in_ok-begin.ensures.ok (sym c.in_ok-used.ensures.used ∙ c.if-branch.false) (c.in_ok-used.ensures.room c.if-branch.false) own in
    let plain = with_session s c.args.t (begun_by by) in
    let step = coord_begin (s.coord c.args.coord) c.args.t in
    let old = g.H.Home.seen c.args.home.now in
    let new = g.H.Home.seen c.coord_does.new.home in
    let whole = coord_begin (coord_disarmed (s.coord c.args.coord)) c.args.t in
    let first = at_coord plain c.args.coord step in
    let all = at_coord (with_session (disarmed s) c.args.t (begun_by by)) c.args.coord whole in
    let fault = c.in_err-did.field-0.0 in
    passed_answer g.E.Engine.takes g.E.Engine.stands_for c.args.number (λ z. step_line z (event.Begin c.args.t c.args.coord)) s c.coord_does.new.self old new c.from_residual-in_err-did.result fault c.from_residual-in_err-did.ensures
    (record {
      left = left_as new.file s fault first (begin_where s c.args.t c.args.coord (is_used s c.args.t) (s.coord c.args.coord).up) all (begin_where (disarmed s) c.args.t c.args.coord (is_used s c.args.t) (s.coord c.args.coord).up)
          (λ i. begin_where s c.args.t c.args.coord (sym unused i) (sym up i)) (λ i. begin_where (disarmed s) c.args.t c.args.coord (sym unused i) (sym up i))
          (begun_left new.file s c.args.t (begun_by by) c.args.coord first.state whole fault (c.in_err-did.ensures.left plain begun));
      ended = c.in_err-did.ensures.ended;
    })

pub returns-clause-answered : goal.returns-clause-answered
returns-clause-answered g c = λ s r.
    let by = node.Coord c.args.coord in
    let unused = sym (used_alike g.E.Engine.takes g.E.Engine.stands_for c.args.self.now s r c.args.t) ∙ sym c.in_ok-used.ensures.used ∙ c.if-branch.false in
    let up = sym (c.coord_up.ensures s r) ∙ c.if-not-coord_up.false in
    let own = own_coord g.E.Engine.takes g.E.Engine.stands_for c.args.self.now s r c.args.coord c.requires.in_head in
    let begun = begins g.E.Engine.takes g.E.Engine.stands_for c.args.self.now s r c.begin.new.self c.args.t by c.in_ok-begin.ensures.ok (sym c.in_ok-used.ensures.used ∙ c.if-branch.false) (c.in_ok-used.ensures.room c.if-branch.false) own in
    let plain = with_session s c.args.t (begun_by by) in
    let step = coord_begin (s.coord c.args.coord) c.args.t in
    let old = g.H.Home.seen c.args.home.now in
    let new = g.H.Home.seen c.coord_does.new.home in
    let done = c.in_ok-did.ensures in
    let stood = done.stands plain begun in
    did_at_coord g.E.Engine.takes g.E.Engine.stands_for c.args.number (λ z. step_line z (event.Begin c.args.t c.args.coord)) s c.coord_does.new.self c.tells_of_coord.new.self old new c.tells_of_coord.result plain c.args.coord step c.in_ok-did.did (done.told plain begun)
    (λ i. begin_where s c.args.t c.args.coord (sym unused i) (sym up i)) done.served (held_left g.E.Engine.takes g.E.Engine.stands_for c.coord_does.new.self (with_coord plain c.args.coord step.state) new stood done.served.kept)
    c.tells_of_coord.ensures.items (c.tells_of_coord.ensures.stands (with_coord plain c.args.coord step.state) stood) (c.tells_of_coord.ensures.held new done.served.kept) c.tells_of_coord.ensures.memory

pub returns-clause-pins : goal.returns-clause-pins
returns-clause-pins g c = pins_on g.E.Engine.pins c.args.self.now c.coord_does.new.self c.tells_of_coord.new.self c.coord_does.ensures.pins c.tells_of_coord.ensures.nodes
