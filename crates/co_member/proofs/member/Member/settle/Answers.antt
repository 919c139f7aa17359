use Rattle.co_member.proofs.member.Member.settle.Goals as goal

pub returns-in-Err-clause-pins : goal.returns-in-Err-clause-pins
returns-in-Err-clause-pins g c = λ up. c.change.ensures.pins

pub returns-in-Ok-clause-pins : goal.returns-in-Ok-clause-pins
returns-in-Ok-clause-pins g c = λ up. c.change.ensures.pins
