use Rattle.std.proofs.Common.{Some, false, sym, ap, ◌∙◌}
use Rattle.co_plain.specs.MemberStep.{standing_by}
use Rattle.co_state.specs.Table.{look, holds}
use Rattle.co_member.proofs.Standings.{stands_active, stands_voted, stands_else}
use Rattle.co_member.proofs.running.Running.standing.Goals as goal

pub returns-in-Some-true : goal.returns-in-Some-true
returns-in-Some-true g c = λ kind x s.
    let t = c.args.t in
    let mark = sym (c.has_voted.ensures x.engine x.asked s.undecided) ∙ c.in-Some-true.is ∙ ap Some c.in-Some-true.field-0-test in
    sym (stands_voted (look x.engine.active t) (look x.engine.voted t) (holds x.committed t) (s.undecided.apart t) mark)

pub returns-in-Some-false : goal.returns-in-Some-false
returns-in-Some-false g c = λ kind x s.
    let t = c.args.t in
    let mark = sym (c.has_voted.ensures x.engine x.asked s.undecided) ∙ c.in-Some-false.is ∙ ap Some c.in-Some-false.field-0-test in
    sym (stands_active (look x.engine.active t) (look x.engine.voted t) (holds x.committed t) mark)

pub returns-then-contains : goal.returns-then-contains
returns-then-contains g c = λ kind x s.
    let t = c.args.t in
    let mark = sym (c.has_voted.ensures x.engine x.asked s.undecided) ∙ c.in-None.is in
    let held = ap (λ n. holds n t) s.committed ∙ sym c.contains.ensures ∙ c.if-contains.true in
    sym (stands_else (look x.engine.active t) (look x.engine.voted t) (holds x.committed t) mark ∙ ap (standing_by false false) held)

pub returns-else-contains : goal.returns-else-contains
returns-else-contains g c = λ kind x s.
    let t = c.args.t in
    let mark = sym (c.has_voted.ensures x.engine x.asked s.undecided) ∙ c.in-None.is in
    let held = ap (λ n. holds n t) s.committed ∙ sym c.contains.ensures ∙ c.if-contains.false in
    sym (stands_else (look x.engine.active t) (look x.engine.voted t) (holds x.committed t) mark ∙ ap (standing_by false false) held)
