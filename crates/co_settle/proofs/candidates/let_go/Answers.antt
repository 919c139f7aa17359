use Rattle.std.proofs.Common.{subst, sym}
use Rattle.co_settle.specs.Busy.{HaveBusy}
use Rattle.co_settle.proofs.Seeking.{not_busy, let_gone}
use Rattle.co_settle.proofs.candidates.let_go.Goals as goal

pub returns-then-not-is_busy : goal.returns-then-not-is_busy
returns-then-not-is_busy g c = λ s r have.
    subst (HaveBusy s) (sym c.remove.ensures.rest) (let_gone s c.args.numbers.now c.args.t (not_busy s c.args.t c.is_busy.result (c.is_busy.ensures s r).1 c.if-not-is_busy.true) have)
