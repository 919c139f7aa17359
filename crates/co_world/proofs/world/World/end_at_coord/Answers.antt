use Rattle.std.proofs.Common.{◌≡◌, Bool, not, length, Err, refl, sym, ap, ◌∙◌, subst, true}
use Rattle.co_base.specs.declared.node.Node.TheVariants as node
use Rattle.co_message.specs.declared.answer.Answer.{Answer}
use Rattle.co_message.specs.declared.answer.Answer.TheVariants as answer
use Rattle.co_plain.specs.Federation.{with_coord}
use Rattle.co_plain.specs.Sessions.{parts_of}
use Rattle.co_cluster.specs.Telling.{IsToldBy}
use Rattle.co_cluster.specs.declared.calls.CoordCall.{CoordCall}
use Rattle.co_plain.specs.Step.{is_stopped, marked_asked, coord_answers, disarmed}
use Rattle.co_plain.specs.declared.session.Session.{Session}
use Rattle.co_session.specs.Clients.{parts_at}
use Rattle.co_state.specs.Table.{Table, look}
use Rattle.co_world.specs.Calls.{coord_call}
use Rattle.co_cluster.specs.Calls.{coord_does, CoordMay}
use Rattle.co_world.specs.Standing.{RepresentsWorld}
use Rattle.co_world.proofs.Acting.{begun_here}
use Rattle.co_world.proofs.ClientSteps.{marked_by_coord, ends_at_coord}
use Rattle.co_world.proofs.Ends.{passed_limit, passed_memory, no_limit}
use Rattle.co_cluster.proofs.Lefts.{either_left}
use Rattle.co_world.proofs.Nodes.{held_left, pins_on}
use Rattle.co_world.proofs.LeftSteps.{coord_answers_left, coord_answers_overlong}
use Rattle.co_cluster.specs.Left.{coord_disarmed, AreLeftWith}
use Rattle.co_world.proofs.Answering.{refused_alone, wanting, passed_answer, did_at_coord}
use Rattle.co_world.proofs.world.World.end_at_coord.Goals as goal

pub returns-then-not-coord_up-clause-count : goal.returns-then-not-coord_up-clause-count
returns-then-not-coord_up-clause-count g c =
    no_limit c.answers.result c.answers.ensures.memory

pub parts-requires : goal.parts-requires
parts-requires g c =
    let s = c.requires.stands.0 in
    let session = c.requires.stands.1 in
    let r = c.requires.stands.2 in
    let here = c.requires.stands.3 in
    record { begun = begun_here g.E.Engine.takes g.E.Engine.stands_for c.args.self.now s r c.args.t session here }

pub returns-in_err-parts-clause-count : goal.returns-in_err-parts-clause-count
returns-in_err-parts-clause-count g c =
    no_limit c.from_residual.result (passed_memory _ c.from_residual.result c.from_residual.ensures refl)

pub coord_does-requires-clause-stands : goal.coord_does-requires-clause-stands
coord_does-requires-clause-stands g c =
    let s = c.requires.stands.0 in
    let session = c.requires.stands.1 in
    let r = c.requires.stands.2 in
    let here = c.requires.stands.3 in
    let up = sym (c.coord_up.ensures s r) ∙ c.if-not-coord_up.false in
    (s, r, subst (λ (k : CoordCall). CoordMay (length s.kinds) c.args.coord k (s.coord c.args.coord)) (sym c.coord_call.ensures) (ends_at_coord s c.args.coord c.args.ending c.args.t c.in_ok-parts.parts up))

pub returns-in_err-did-clause-count : goal.returns-in_err-did-clause-count
returns-in_err-did-clause-count g c =
    passed_limit c.in_err-did.field-0.0 c.from_residual-in_err-did.result c.from_residual-in_err-did.ensures (λ e. c.in_err-did.ensures.count (ap Err e))

pub mark_asked-requires : goal.mark_asked-requires
mark_asked-requires g c =
    let s = c.requires.stands.0 in
    let session = c.requires.stands.1 in
    let r = c.requires.stands.2 in
    let here = c.requires.stands.3 in
    let parts : c.in_ok-parts.parts ≡ parts_of session.told = c.in_ok-parts.ensures ∙ ap (λ (table : Table Session). parts_at (look table c.args.t)) r.sessions ∙ ap parts_at here in
    let asks : c.coord_call.result ≡ coord_call c.args.ending c.args.t (parts_of session.told) = c.coord_call.ensures ∙ ap (coord_call c.args.ending c.args.t) parts in
    let step = coord_does c.args.coord (coord_call c.args.ending c.args.t (parts_of session.told)) (s.coord c.args.coord) in
    let stood : RepresentsWorld g.E.Engine.takes g.E.Engine.stands_for c.coord_does.new.self (with_coord s c.args.coord step.state) = subst (λ (k : CoordCall). RepresentsWorld g.E.Engine.takes g.E.Engine.stands_for c.coord_does.new.self (with_coord s c.args.coord (coord_does c.args.coord k (s.coord c.args.coord)).state)) asks (c.in_ok-did.ensures.stands s r) in
    record { begun = begun_here g.E.Engine.takes g.E.Engine.stands_for c.coord_does.new.self (with_coord s c.args.coord step.state) stood c.args.t session here }

pub returns-then-not-coord_up-clause-answered : goal.returns-then-not-coord_up-clause-answered
returns-then-not-coord_up-clause-answered g c = λ s r session here.
    let k = c.args.coord in
    let asked = coord_call c.args.ending c.args.t (parts_of session.told) in
    let step = coord_does k asked (s.coord k) in
    let down = sym (c.coord_up.ensures s r) ∙ c.if-not-coord_up.true in
    refused_alone g.E.Engine.takes g.E.Engine.stands_for c.args.number (λ z. coord_answers z c.args.t session k (z.coord k).up (coord_does k asked (z.coord k))) s (answer.Down (node.Coord k)) c.args.self.now (g.H.Home.seen c.args.home.now) c.answers.result (ap (λ (b : Bool). coord_answers s c.args.t session k b step) (sym down)) r c.requires.held
    (c.answers.ensures.items s) c.answers.ensures.memory

pub returns-in_err-parts-clause-answered : goal.returns-in_err-parts-clause-answered
returns-in_err-parts-clause-answered g c = λ s r session here.
    let k = c.args.coord in
    let asked = coord_call c.args.ending c.args.t (parts_of session.told) in
    wanting g.E.Engine.takes g.E.Engine.stands_for c.args.number (λ z. coord_answers z c.args.t session k (z.coord k).up (coord_does k asked (z.coord k))) s c.args.self.now c.args.self.now (g.H.Home.seen c.args.home.now) c.from_residual.result r c.requires.held c.from_residual.ensures

pub returns-in_err-did-clause-answered : goal.returns-in_err-did-clause-answered
returns-in_err-did-clause-answered g c = λ s r session here.
    let parts : c.in_ok-parts.parts ≡ parts_of session.told = c.in_ok-parts.ensures ∙ ap (λ (table : Table Session). parts_at (look table c.args.t)) r.sessions ∙ ap parts_at here in
    let asks : c.coord_call.result ≡ coord_call c.args.ending c.args.t (parts_of session.told) = c.coord_call.ensures ∙ ap (coord_call c.args.ending c.args.t) parts in
    let k = c.args.coord in
    let asked = coord_call c.args.ending c.args.t (parts_of session.told) in
    let step = coord_does k asked (s.coord k) in
    let whole = coord_does k asked (coord_disarmed (s.coord k)) in
    let up : (s.coord k).up ≡ true = sym (c.coord_up.ensures s r) ∙ c.if-not-coord_up.false in
    let new = g.H.Home.seen c.coord_does.new.home in
    let fault = c.in_err-did.field-0.0 in
    let left : AreLeftWith new.file s (with_coord (disarmed s) k whole.state) fault = subst (λ (j : CoordCall). AreLeftWith new.file s (with_coord (disarmed s) k (coord_does k j (coord_disarmed (s.coord k))).state) fault) asks (c.in_err-did.ensures.left s r) in
    let after = (coord_answers s c.args.t session k (s.coord k).up step).state in
    let completed = (coord_answers (disarmed s) c.args.t session k (s.coord k).up whole).state in
    passed_answer g.E.Engine.takes g.E.Engine.stands_for c.args.number (λ z. coord_answers z c.args.t session k (z.coord k).up (coord_does k asked (z.coord k))) s c.coord_does.new.self (g.H.Home.seen c.args.home.now) new c.from_residual-in_err-did.result fault c.from_residual-in_err-did.ensures
    (record {
      left = either_left new.file s s after completed (with_coord (disarmed s) k whole.state) fault (λ before. before) (coord_answers_left new.file (disarmed s) c.args.t session k (s.coord k).up whole up)
          (coord_answers_overlong new.file (disarmed s) c.args.t session k (s.coord k).up whole up) left;
      ended = c.in_err-did.ensures.ended;
    })

pub returns-clause-answered : goal.returns-clause-answered
returns-clause-answered g c = λ s r session here.
    let parts : c.in_ok-parts.parts ≡ parts_of session.told = c.in_ok-parts.ensures ∙ ap (λ (table : Table Session). parts_at (look table c.args.t)) r.sessions ∙ ap parts_at here in
    let asks : c.coord_call.result ≡ coord_call c.args.ending c.args.t (parts_of session.told) = c.coord_call.ensures ∙ ap (coord_call c.args.ending c.args.t) parts in
    let k = c.args.coord in
    let asked = coord_call c.args.ending c.args.t (parts_of session.told) in
    let step = coord_does k asked (s.coord k) in
    let up : (s.coord k).up ≡ true = sym (c.coord_up.ensures s r) ∙ c.if-not-coord_up.false in
    let new = g.H.Home.seen c.coord_does.new.home in
    let done = c.in_ok-did.ensures in
    let told : IsToldBy step c.in_ok-did.did = subst (λ (j : CoordCall). IsToldBy (coord_does k j (s.coord k)) c.in_ok-did.did) asks (done.told s r) in
    let stood : RepresentsWorld g.E.Engine.takes g.E.Engine.stands_for c.coord_does.new.self (with_coord s k step.state) = subst (λ (j : CoordCall). RepresentsWorld g.E.Engine.takes g.E.Engine.stands_for c.coord_does.new.self (with_coord s k (coord_does k j (s.coord k)).state)) asks (done.stands s r) in
    let flag : not c.is_stopped.result ≡ not (is_stopped step.answer) = ap not c.is_stopped.ensures ∙ ap (λ (a : Answer). not (is_stopped a)) told.answer in
    let marked = marked_asked s c.args.t session (not (is_stopped step.answer)) in
    let first : RepresentsWorld g.E.Engine.takes g.E.Engine.stands_for c.mark_asked.new.self (marked_asked (with_coord s k step.state) c.args.t session (not (is_stopped step.answer))) =
    subst (λ (b : Bool). RepresentsWorld g.E.Engine.takes g.E.Engine.stands_for c.mark_asked.new.self (marked_asked (with_coord s k step.state) c.args.t session b)) flag (c.mark_asked.ensures.stands (with_coord s k step.state) stood session here) in
    let now : RepresentsWorld g.E.Engine.takes g.E.Engine.stands_for c.mark_asked.new.self (with_coord marked k step.state) =
    subst (RepresentsWorld g.E.Engine.takes g.E.Engine.stands_for c.mark_asked.new.self) (marked_by_coord s c.args.t session (not (is_stopped step.answer)) k step.state) first in
    let kept = c.mark_asked.ensures.held new done.served.kept in
    did_at_coord g.E.Engine.takes g.E.Engine.stands_for c.args.number (λ z. coord_answers z c.args.t session k (z.coord k).up (coord_does k asked (z.coord k))) s c.coord_does.new.self c.tells_of_coord.new.self (g.H.Home.seen c.args.home.now) new c.tells_of_coord.result marked k step c.in_ok-did.did told
    (ap (λ (b : Bool). coord_answers s c.args.t session k b step) (sym up)) done.served (held_left g.E.Engine.takes g.E.Engine.stands_for c.mark_asked.new.self (with_coord marked k step.state) new now kept)
    c.tells_of_coord.ensures.items (c.tells_of_coord.ensures.stands (with_coord marked k step.state) now) (c.tells_of_coord.ensures.held new kept) c.tells_of_coord.ensures.memory

pub returns-clause-pins : goal.returns-clause-pins
returns-clause-pins g c = pins_on g.E.Engine.pins c.args.self.now c.coord_does.new.self c.tells_of_coord.new.self c.coord_does.ensures.pins (c.tells_of_coord.ensures.nodes ∙ c.mark_asked.ensures.nodes)
