use Rattle.std.proofs.Common.{arith}
use Rattle.co_schedule.specs.LineText.{is_newline}
use Rattle.co_schedule.proofs.Filling.{grown_found, grown_none}
use Rattle.co_schedule.proofs.lines.Lines.take_on.Goals as goal

pub returns-in-Some-clause-holds : goal.returns-in-Some-clause-holds
returns-in-Some-clause-holds g c =
    grown_found is_newline c.args.self.now.buffer.items _ c.deref.result.now c.len-held.result c.in-Some.at _ c.requires.none (rw c.if-not-branch.false at c.in_ok-take.ensures.more) c.deref.ensures.value (omega arith) c.in-Some.is c.newline_in.ensures

pub returns-in-None-clause-more : goal.returns-in-None-clause-more
returns-in-None-clause-more g c =
    grown_none is_newline c.args.self.now.buffer.items _ c.deref.result.now c.len-held.result _ c.requires.none (rw c.if-not-branch.false at c.in_ok-take.ensures.more) c.deref.ensures.value (omega arith) c.in-None.is c.newline_in.ensures
