use Rattle.std.proofs.Common.{sym, ap, ◌∙◌}
use Rattle.co_member.specs.Reading.{open_after}
use Rattle.co_member.proofs.Least.{open_first, open_next}
use Rattle.co_member.proofs.member.Member.open_after.Goals as goal

pub returns-in-Some : goal.returns-in-Some
returns-in-Some g c = λ x r. c.open_after.ensures x.engine x.asked (r.running c.running.result.now c.running.ensures).undecided ∙ ap (open_after x.engine) (sym c.in-Some.is)

pub returns-in-Some-has_voted : goal.returns-in-Some-has_voted
returns-in-Some-has_voted g c = λ x r.
    let mark = sym (c.has_voted.ensures x.engine x.asked (r.running c.running.result.now c.running.ensures).undecided) ∙ c.in-Some-has_voted.is in
    open_first x.engine c.in-Some-has_voted.field-0 mark ∙ ap (open_after x.engine) (sym c.in-None.is)

pub returns-in-None-has_voted : goal.returns-in-None-has_voted
returns-in-None-has_voted g c = λ x r.
    let here = (r.running c.running.result.now c.running.ensures).undecided in
    let mark = sym (c.has_voted.ensures x.engine x.asked here) ∙ c.in-None-has_voted.is in
    c.open_after-in-None-has_voted.ensures x.engine x.asked here ∙ open_next x.engine mark ∙ ap (open_after x.engine) (sym c.in-None.is)
