use Rattle.std.proofs.Common.{arith}
use Rattle.co_settle.proofs.Seeking.{known_more, known_all}
use Rattle.co_settle.proofs.candidates.busy_among.Goals as goal

pub loop-t-preserved : goal.loop-t-preserved
loop-t-preserved g c = λ s r.
    known_more s c.args.txns.now c.loop-t.t-index c.t-item.result c.loop-t.found c.lay_in.new.found c.loop-t-test.true c.t-item.is (c.loop-t.invariant s r) (c.in_ok-lay_in.ensures s r)

pub returns : goal.returns
returns g c = λ s r. known_all s c.args.txns.now c.loop-t.t-index c.loop-t.found (let n = c.loop-t-test.false in omega (arith, n)) (c.loop-t.invariant s r)
