use Rattle.std.proofs.Common.{arith}
use Rattle.co_record.proofs.Records.{spelled_once, widened}
use Rattle.co_record.proofs.laws.one_spelling.Goals as goal

pub returns-clause-once : goal.returns-clause-once
returns-clause-once c = λ version this that a b is. spelled_once version (omega (arith, is.1)) this that a b

pub returns-clause-older : goal.returns-clause-older
returns-clause-older c = widened
