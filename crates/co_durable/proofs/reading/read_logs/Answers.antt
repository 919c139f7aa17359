use Rattle.std.proofs.Common.{rules, ◌+◌, take, refl, sym, subst, get_or}
use Rattle.co_base.specs.declared.node.Node.TheVariants.{Member}
use Rattle.co_durable.specs.Pairs.{EachPair}
use Rattle.co_durable.specs.Reading.{IsLogOf, IsFirstUnread}
use Rattle.co_durable.proofs.Pairs.{pair_more}
use Rattle.co_durable.proofs.Readings.{first_unread, log_moved, handed_on, reads_on}
use Rattle.co_durable.proofs.reading.read_logs.Goals as goal

pub returns-in_err-read_log-clause-unread : goal.returns-in_err-read_log-clause-unread
returns-in_err-read_log-clause-unread g c =
    let nodes = c.args.nodes.now in
    let u : IsFirstUnread (g.H.Home.seen c.args.home.now).file nodes c.in_err-read_log.field-0.0 =
    first_unread (g.H.Home.seen c.loop-node.home).file (g.H.Home.seen c.args.home.now).file nodes c.loop-node.logs.items c.loop-node.node-index (get_or nodes c.loop-node.node-index (Member 0)) (Member 0) c.in_err-read_log.field-0.0
    c.loop-node.invariant.reads.files c.loop-node-test.true refl c.loop-node.invariant.read c.in_err-read_log.ensures.unread in
    handed_on _ (IsFirstUnread (g.H.Home.seen c.args.home.now).file nodes) c.from_residual.result (λ e is. subst (IsFirstUnread (g.H.Home.seen c.args.home.now).file nodes) (sym is) u) c.from_residual.ensures.1

pub loop-node-preserved : goal.loop-node-preserved
loop-node-preserved g c =
    let nodes = c.args.nodes.now in
    record {
      read = subst (EachPair (IsLogOf (g.H.Home.seen c.args.home.now).file) (take (c.loop-node.node-index + 1) nodes)) (sym c.in_ok-push.ensures.items)
          (pair_more (IsLogOf (g.H.Home.seen c.args.home.now).file) nodes c.loop-node.logs.items c.loop-node.node-index (get_or nodes c.loop-node.node-index (Member 0)) (Member 0) c.in_ok-read_log.field-0 c.loop-node-test.true refl
          c.loop-node.invariant.read (log_moved (g.H.Home.seen c.loop-node.home).file (g.H.Home.seen c.args.home.now).file _ _ c.loop-node.invariant.reads.files c.in_ok-read_log.ensures.read));
      reads = reads_on (g.H.Home.seen c.args.home.now) (g.H.Home.seen c.loop-node.home) (g.H.Home.seen c.read_log.new.home) c.loop-node.invariant.reads c.read_log.ensures.reads;
      quiet = search rules;
    }
