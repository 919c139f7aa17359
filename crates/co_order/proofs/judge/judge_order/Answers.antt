use Rattle.co_order.proofs.judge.judge_order.Goals as goal

pub returns-in-Err-clause-ordered : goal.returns-in-Err-clause-ordered
returns-in-Err-clause-ordered g c = λ text e. c.fault_of.ensures text (c.in-Err.ensures.checked text e)

pub returns-in-Err-clause-heard : goal.returns-in-Err-clause-heard
returns-in-Err-clause-heard g c = λ text more ahead. c.fault_of.ensures text (c.in-Err.ensures.heard text more ahead)
