use Rattle.std.proofs.Common.{refl}
use Rattle.co_state.proofs.Tables.{on_ok}
use Rattle.co_mv.proofs.Archiving.{keeps_pinned}
use Rattle.co_mv.proofs.archive.Archive.pin.Goals as goal

pub returns-clause-keeps : goal.returns-clause-keeps
returns-clause-keeps c = λ base is k. on_ok c.pin.result (λ e. keeps_pinned c.args.self.now _ base is c.args.id c.requires e refl refl k) c.pin.ensures
