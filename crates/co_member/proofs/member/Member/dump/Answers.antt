use Rattle.co_member.proofs.member.Member.dump.Goals as goal

pub returns-clause-rows : goal.returns-clause-rows
returns-clause-rows g c = λ x r. c.dump.ensures.rows x.engine x.asked (r.running c.running.result.now c.running.ensures).undecided

pub returns-clause-undos : goal.returns-clause-undos
returns-clause-undos g c = λ x r. c.dump.ensures.undos x.engine x.asked (r.running c.running.result.now c.running.ensures).undecided
