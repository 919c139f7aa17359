use Rattle.std.proofs.Common.{length}
use Rattle.co_cluster.specs.Listed.{found_to, doubt_at}
use Rattle.co_cluster.proofs.Pairwise.{one_given_more}
use Rattle.co_cluster.proofs.cluster.Cluster.doubts_of.Goals as goal

pub loop-t-preserved : goal.loop-t-preserved
loop-t-preserved g c = λ s r.
    one_given_more (λ t. found_to (length s.kinds) (doubt_at s t)) c.args.txns.now c.loop-t.t-index c.t-item.result c.loop-t.doubts c.add_doubts.new.doubts c.loop-t-test.true c.t-item.is (c.loop-t.invariant s r)
    (c.in_ok-add_doubts.ensures s r)
