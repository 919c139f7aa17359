use Rattle.std.proofs.Common.{Bool, Err, refl, sym, ap, ◌∙◌, subst}
use Rattle.co_base.specs.declared.node.Node.TheVariants as node
use Rattle.co_law_base.proofs.Lookups.{apart_by}
use Rattle.co_message.specs.declared.answer.Answer.TheVariants as answer
use Rattle.co_plain.specs.Federation.{answers, with_session}
use Rattle.co_plain.specs.Sessions.{begun_by}
use Rattle.co_plain.specs.Step.{is_used, local_where}
use Rattle.co_session.specs.Clients.{is_used as is_used_in}
use Rattle.co_cluster.specs.Served.{IsOfNoFile}
use Rattle.co_world.proofs.Acting.{used_alike, begins, own_member}
use Rattle.co_world.proofs.Ends.{errs_as, passed_memory, no_limit, all_ok, of_memory}
use Rattle.co_world.proofs.Told.{told_as, answered_stands}
use Rattle.co_cluster.proofs.Ending.{passed_on}
use Rattle.co_world.proofs.world.World.begin_local.Goals as goal

pub returns-in_err-used-clause-count : goal.returns-in_err-used-clause-count
returns-in_err-used-clause-count g c =
    let why = c.in_err-used.ensures.count in
    (λ is. (why.1, why.2), λ more. errs_as c.in_err-used.field-0.0 c.from_residual.result c.from_residual.ensures ∙ ap Err why.0)

pub returns-in_err-used-clause-ended : goal.returns-in_err-used-clause-ended
returns-in_err-used-clause-ended g c =
    passed_on c.from_residual.result c.in_err-used.field-0.0 IsOfNoFile c.from_residual.ensures (subst IsOfNoFile (sym c.in_err-used.ensures.count.0) tt)

pub returns-then-branch-clause-count : goal.returns-then-branch-clause-count
returns-then-branch-clause-count g c =
    let used = sym c.in_ok-used.ensures.used ∙ c.if-branch.true in
    (λ is. absurd (no_limit c.answers.result c.answers.ensures.memory is), λ more. apart_by (is_used_in c.args.self.now.sessions c.args.t) used more.0)

pub returns-then-branch-clause-items : goal.returns-then-branch-clause-items
returns-then-branch-clause-items g c = λ s r.
    let used = sym (used_alike g.E.Engine.takes g.E.Engine.stands_for c.args.self.now s r c.args.t) ∙ sym c.in_ok-used.ensures.used ∙ c.if-branch.true in
    told_as c.args.number c.answers.result (answers s answer.Used) (local_where s c.args.t c.args.member (is_used s c.args.t) (s.member c.args.member).up) (ap (λ (b : Bool). local_where s c.args.t c.args.member b (s.member c.args.member).up) (sym used)) (c.answers.ensures.items s)

pub returns-then-branch-clause-stands : goal.returns-then-branch-clause-stands
returns-then-branch-clause-stands g c = λ s r.
    let used = sym (used_alike g.E.Engine.takes g.E.Engine.stands_for c.args.self.now s r c.args.t) ∙ sym c.in_ok-used.ensures.used ∙ c.if-branch.true in
    answered_stands g.E.Engine.takes g.E.Engine.stands_for c.answers.result c.args.self.now s answer.Used (local_where s c.args.t c.args.member (is_used s c.args.t) (s.member c.args.member).up) (ap (λ (b : Bool). local_where s c.args.t c.args.member b (s.member c.args.member).up) (sym used)) r

pub returns-then-branch-clause-held : goal.returns-then-branch-clause-held
returns-then-branch-clause-held g c = λ home held.
    all_ok c.answers.result held

pub returns-then-branch-clause-ended : goal.returns-then-branch-clause-ended
returns-then-branch-clause-ended g c =
    of_memory c.answers.result c.answers.ensures.memory

pub returns-then-not-member_up-clause-count : goal.returns-then-not-member_up-clause-count
returns-then-not-member_up-clause-count g c =
    let room = c.in_ok-used.ensures.room c.if-branch.false in
    (λ is. absurd (no_limit c.answers-then-not-member_up.result c.answers-then-not-member_up.ensures.memory is), λ more. apart_by _ more.1 room)

pub returns-then-not-member_up-clause-items : goal.returns-then-not-member_up-clause-items
returns-then-not-member_up-clause-items g c = λ s r.
    let unused = sym (used_alike g.E.Engine.takes g.E.Engine.stands_for c.args.self.now s r c.args.t) ∙ sym c.in_ok-used.ensures.used ∙ c.if-branch.false in
    let down = sym (c.member_up.ensures s r) ∙ c.if-not-member_up.true in
    told_as c.args.number c.answers-then-not-member_up.result (answers s (answer.Down (node.Member c.args.member))) (local_where s c.args.t c.args.member (is_used s c.args.t) (s.member c.args.member).up) (λ i. local_where s c.args.t c.args.member (sym unused i) (sym down i)) (c.answers-then-not-member_up.ensures.items s)

pub returns-then-not-member_up-clause-stands : goal.returns-then-not-member_up-clause-stands
returns-then-not-member_up-clause-stands g c = λ s r.
    let unused = sym (used_alike g.E.Engine.takes g.E.Engine.stands_for c.args.self.now s r c.args.t) ∙ sym c.in_ok-used.ensures.used ∙ c.if-branch.false in
    let down = sym (c.member_up.ensures s r) ∙ c.if-not-member_up.true in
    answered_stands g.E.Engine.takes g.E.Engine.stands_for c.answers-then-not-member_up.result c.args.self.now s (answer.Down (node.Member c.args.member)) (local_where s c.args.t c.args.member (is_used s c.args.t) (s.member c.args.member).up) (λ i. local_where s c.args.t c.args.member (sym unused i) (sym down i)) r

pub returns-then-not-member_up-clause-held : goal.returns-then-not-member_up-clause-held
returns-then-not-member_up-clause-held g c = λ home held.
    all_ok c.answers-then-not-member_up.result held

pub returns-then-not-member_up-clause-ended : goal.returns-then-not-member_up-clause-ended
returns-then-not-member_up-clause-ended g c =
    of_memory c.answers-then-not-member_up.result c.answers-then-not-member_up.ensures.memory

pub begin-requires-clause-unused : goal.begin-requires-clause-unused
begin-requires-clause-unused g c =
    sym c.in_ok-used.ensures.used ∙ c.if-branch.false

pub begin-requires-clause-room : goal.begin-requires-clause-room
begin-requires-clause-room g c =
    c.in_ok-used.ensures.room c.if-branch.false

pub returns-in_err-begin-clause-count : goal.returns-in_err-begin-clause-count
returns-in_err-begin-clause-count g c =
    let room = c.in_ok-used.ensures.room c.if-branch.false in
    (λ is. absurd (no_limit c.from_residual-in_err-begin.result (passed_memory _ c.from_residual-in_err-begin.result c.from_residual-in_err-begin.ensures refl) is), λ more. apart_by _ more.1 room)

pub returns-in_err-begin-clause-ended : goal.returns-in_err-begin-clause-ended
returns-in_err-begin-clause-ended g c =
    of_memory c.from_residual-in_err-begin.result (passed_memory _ c.from_residual-in_err-begin.result c.from_residual-in_err-begin.ensures refl)

pub returns-clause-count : goal.returns-clause-count
returns-clause-count g c =
    let room = c.in_ok-used.ensures.room c.if-branch.false in
    (λ is. absurd (no_limit c.answers-2.result c.answers-2.ensures.memory is), λ more. apart_by _ more.1 room)

pub returns-clause-items : goal.returns-clause-items
returns-clause-items g c = λ s r.
    let by = node.Member c.args.member in
    let there = with_session s c.args.t (begun_by by) in
    let unused = sym (used_alike g.E.Engine.takes g.E.Engine.stands_for c.args.self.now s r c.args.t) ∙ sym c.in_ok-used.ensures.used ∙ c.if-branch.false in
    let up = sym (c.member_up.ensures s r) ∙ c.if-not-member_up.false in
    told_as c.args.number c.answers-2.result (answers there answer.Begun) (local_where s c.args.t c.args.member (is_used s c.args.t) (s.member c.args.member).up) (λ i. local_where s c.args.t c.args.member (sym unused i) (sym up i)) (c.answers-2.ensures.items there)

pub returns-clause-stands : goal.returns-clause-stands
returns-clause-stands g c = λ s r.
    let by = node.Member c.args.member in
    let there = with_session s c.args.t (begun_by by) in
    let unused = sym (used_alike g.E.Engine.takes g.E.Engine.stands_for c.args.self.now s r c.args.t) ∙ sym c.in_ok-used.ensures.used ∙ c.if-branch.false in
    let up = sym (c.member_up.ensures s r) ∙ c.if-not-member_up.false in
    let own = own_member g.E.Engine.takes g.E.Engine.stands_for c.args.self.now s r c.args.member c.requires.in_head in
    let begun = begins g.E.Engine.takes g.E.Engine.stands_for c.args.self.now s r c.begin.new.self c.args.t by c.in_ok-begin.ensures.ok (sym c.in_ok-used.ensures.used ∙ c.if-branch.false) (c.in_ok-used.ensures.room c.if-branch.false) own in
    answered_stands g.E.Engine.takes g.E.Engine.stands_for c.answers-2.result (record c.args.self.now { sessions = c.begin.new.self }) there answer.Begun (local_where s c.args.t c.args.member (is_used s c.args.t) (s.member c.args.member).up) (λ i. local_where s c.args.t c.args.member (sym unused i) (sym up i)) begun

pub returns-clause-held : goal.returns-clause-held
returns-clause-held g c = λ home held.
    all_ok c.answers-2.result (record { member = held.member; coord = held.coord })

pub returns-clause-ended : goal.returns-clause-ended
returns-clause-ended g c =
    of_memory c.answers-2.result c.answers-2.ensures.memory
