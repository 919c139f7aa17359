use Rattle.std.proofs.Common.{arith}
use Rattle.std.proofs.lemmas.Grind.{common_steps}
use Rattle.co_schedule.proofs.Spaced.{behind-append}
use Rattle.co_schedule.proofs.writing.append_head.Goals as goal

pub returns-clause-ok : goal.returns-clause-ok
returns-clause-ok c = grind (arith, common_steps, behind-append)
