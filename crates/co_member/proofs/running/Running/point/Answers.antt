use Rattle.co_record.specs.declared.record.Record.TheVariants as log
use Rattle.std.proofs.Common.{sym, ap, ◌∙◌}
use Rattle.std.specs.FinMap.{keys}
use Rattle.co_member.proofs.running.Running.point.Goals as goal

pub returns : goal.returns
returns g c = λ kind x s.
    let held = c.in_ok-committed.ensures ∙ ap keys (sym s.committed) in
    λ i. log.Checkpoint (c.in_ok-dump.ensures.rows x.engine x.asked s.undecided i) (c.in_ok-dump.ensures.undos x.engine x.asked s.undecided i) (held i)
