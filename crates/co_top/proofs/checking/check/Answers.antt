use Rattle.std.proofs.Common.{sym, subst}
use Rattle.co_top.specs.Checking.{IsCheckEnd}
use Rattle.co_top.proofs.Judging.{end_of}
use Rattle.co_top.proofs.checking.check.Goals as goal

pub returns-clause-end : goal.returns-clause-end
returns-clause-end g c = λ input held is told.
    subst (IsCheckEnd input held (g.K.Sink.told c.write_check-written.new.out)) (sym c.status_of_check.ensures)
    (end_of input held (g.K.Sink.told c.write_check-written.new.out) c.write_check-written.result (c.write_check-written.ensures.written input held is told))
