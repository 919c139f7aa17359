use Rattle.co_member.proofs.member.Member.coord_of.Goals as goal

pub returns : goal.returns
returns g c = λ x r. c.coord_of.ensures x.engine x.asked (r.running c.running.result.now c.running.ensures).undecided
