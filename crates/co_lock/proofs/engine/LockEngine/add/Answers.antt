use Rattle.std.proofs.Common.{Some, sym, ap, ◌∙◌}
use Rattle.co_base.specs.Span.{Span}
use Rattle.co_state.specs.Changes.{span_read, change_made}
use Rattle.co_lock.proofs.engine.LockEngine.add.Goals as goal

pub returns-in_ok-of_key-in-Read : goal.returns-in_ok-of_key-in-Read
returns-in_ok-of_key-in-Read c = λ b s may none.
    c.add_read.ensures b c.args.op s may (ap span_read c.in-Read.is ∙ ap (λ (r : Span). Some r) (sym c.in_ok-of_key-in-Read.ensures)) (ap change_made c.in-Read.is) none

pub returns-in-Scan : goal.returns-in-Scan
returns-in-Scan c = λ b s may none.
    c.add_read-in-Scan.ensures b c.args.op s may (ap span_read c.in-Scan.is) (ap change_made c.in-Scan.is) none
