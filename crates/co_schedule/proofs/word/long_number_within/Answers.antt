use Rattle.std.proofs.Common.{arith}
use Rattle.co_schedule.proofs.Numbers.{test-within, test-outside}
use Rattle.co_schedule.proofs.word.long_number_within.Goals as goal

pub returns-in-Some-clause-test : goal.returns-in-Some-clause-test
returns-in-Some-clause-test c = test-within _ _ c.in-Some.number _ c.in-Some.ensures.found (omega arith) (omega arith) (omega arith)

pub returns-in_default-clause-test : goal.returns-in_default-clause-test
returns-in_default-clause-test c = test-outside _ _ c.in-Some.number _ c.in-Some.ensures.found (omega arith) (λ over under. omega arith)

pub returns-in_default-2-clause-test : goal.returns-in_default-2-clause-test
returns-in_default-2-clause-test c = test-outside _ _ c.in-Some.number _ c.in-Some.ensures.found (omega arith) (λ over under. omega arith)
