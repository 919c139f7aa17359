use Rattle.co_settle.proofs.Seeking.{not_busy, laid_in, left_out}
use Rattle.co_settle.proofs.candidates.lay_in.Goals as goal

pub returns-in_ok-insert : goal.returns-in_ok-insert
returns-in_ok-insert g c = λ s r. laid_in s c.args.t c.args.found.now c.insert.new.self c.in_ok-insert.ensures.ok

pub returns-else-is_busy : goal.returns-else-is_busy
returns-else-is_busy g c = λ s r. left_out s c.args.t c.args.found.now (not_busy s c.args.t c.is_busy.result (c.is_busy.ensures s r).1 c.if-is_busy.false)
