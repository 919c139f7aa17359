use Rattle.std.proofs.Common.{refl}
use Rattle.co_state.proofs.Tables.{on_ok}
use Rattle.co_mv.proofs.Archiving.{keeps_entered}
use Rattle.co_mv.proofs.archive.Archive.enter.Goals as goal

pub returns-clause-keeps : goal.returns-clause-keeps
returns-clause-keeps c = λ base is k. on_ok c.enter.result (λ e. keeps_entered c.args.self.now _ base is c.args.t e refl refl k) c.enter.ensures.state
