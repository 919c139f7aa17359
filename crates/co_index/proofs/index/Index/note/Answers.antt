use Rattle.std.proofs.Common.{sym, subst}
use Rattle.co_state.specs.Effects.{with_operation}
use Rattle.co_state.proofs.Tables.{on_ok}
use Rattle.co_index.specs.Indexed.{IsIndexOf}
use Rattle.co_index.proofs.Indexing.{index_noted}
use Rattle.co_index.proofs.index.Index.note.Goals as goal

pub returns : goal.returns
returns c = λ b is unvoted.
    on_ok c.add_operation.result (λ e. subst (λ y. IsIndexOf y (with_operation b c.args.t c.args.op.now)) (sym e) (index_noted b c.args.t c.args.self.now c.args.op.now unvoted is)) c.add_operation.ensures
