use Rattle.std.proofs.Common.{◌≡◌, [], length, refl, sym, ap, subst, ◌∙◌, arith}
use Rattle.co_durable.specs.Pairs.{EachPair}
use Rattle.co_durable.specs.declared.fault.WorldFault.TheVariants.{Device, Memory}
use Rattle.co_durable.proofs.Readings.{nothing_read, reads_on, fails_later}
use Rattle.co_opening.specs.Attached.{IsAttachedTo, IsFirstUnattached}
use Rattle.co_opening.specs.Kept.{AreOwnLogs}
use Rattle.co_opening.specs.Sorts.{node_in, nodes_in}
use Rattle.co_opening.proofs.From.{one_longer}
use Rattle.co_opening.proofs.Handed.{handed, handed_back, handed_in, no_value, not_err, no_device}
use Rattle.co_opening.proofs.Sorts.{this_valid, others_on, kept_on, attached_on, unattached_on}
use Rattle.co_opening.proofs.Stays.{stays_still}
use Rattle.co_opening.proofs.attaching.attach_sort.Goals as goal

pub returns-in_err-log-clause-unattached : goal.returns-in_err-log-clause-unattached
returns-in_err-log-clause-unattached g c =
    let file = (g.H.Home.seen c.args.home.now).file in
    let i = c.loop-place.invariant in
    let first : IsFirstUnattached file c.args.resume (nodes_in c.args.sort c.args.count) c.in_err-log.field-0.0 =
    unattached_on c.args.sort c.loop-place.place c.args.count c.loop-place-test.true c.requires c.node.result c.node.ensures file (g.H.Home.seen c.loop-place.home).file c.args.resume c.loop-place.logs.items c.in_err-log.field-0.0
    i.reads.files i.attached c.in_err-log.ensures.unattached in
    handed_in (IsFirstUnattached file c.args.resume (nodes_in c.args.sort c.args.count)) c.from_residual.result c.in_err-log.field-0.0 c.from_residual.ensures.1 first

pub returns-in_err-log-clause-others : goal.returns-in_err-log-clause-others
returns-in_err-log-clause-others g c =
    others_on c.args.sort c.loop-place.place c.args.count c.loop-place-test.true c.requires c.node.result c.node.ensures
    (g.H.Home.seen c.args.home.now) (g.H.Home.seen c.loop-place.home) (g.H.Home.seen c.attach_log.new.home)
    c.loop-place.invariant.others c.attach_log.ensures.others

pub returns-in_err-push-clause-others : goal.returns-in_err-push-clause-others
returns-in_err-push-clause-others g c =
    others_on c.args.sort c.loop-place.place c.args.count c.loop-place-test.true c.requires c.node.result c.node.ensures
    (g.H.Home.seen c.args.home.now) (g.H.Home.seen c.loop-place.home) (g.H.Home.seen c.attach_log.new.home)
    c.loop-place.invariant.others c.attach_log.ensures.others

pub loop-place-preserved : goal.loop-place-preserved
loop-place-preserved g c =
    let i = c.loop-place.invariant in
    let pushed = c.in_ok-push.ensures.items in
    record {
      attached = attached_on c.args.sort c.loop-place.place c.args.count c.loop-place-test.true c.requires c.node.result c.node.ensures (g.H.Home.seen c.args.home.now).file (g.H.Home.seen c.loop-place.home).file c.args.resume
          c.loop-place.logs.items c.push.new.self.items c.in_ok-log.log c.in_ok-push.ensures.items i.reads.files i.attached c.in_ok-log.ensures.attached;
      many = one_longer c.loop-place.place c.loop-place.logs.items c.push.new.self.items c.in_ok-log.log pushed i.many;
      kept = kept_on c.args.sort c.loop-place.place c.args.count c.loop-place-test.true c.requires c.node.result c.node.ensures (g.H.Home.seen c.loop-place.home) (g.H.Home.seen c.attach_log.new.home)
          c.loop-place.logs.items c.push.new.self.items c.in_ok-log.log c.in_ok-push.ensures.items i.many i.kept c.attach_log.ensures.others c.in_ok-log.ensures.kept;
      reads = reads_on (g.H.Home.seen c.args.home.now) (g.H.Home.seen c.loop-place.home) (g.H.Home.seen c.attach_log.new.home) i.reads c.attach_log.ensures.reads;
      others = others_on c.args.sort c.loop-place.place c.args.count c.loop-place-test.true c.requires c.node.result c.node.ensures
          (g.H.Home.seen c.args.home.now) (g.H.Home.seen c.loop-place.home) (g.H.Home.seen c.attach_log.new.home)
          i.others c.attach_log.ensures.others;
      quiet = c.in_ok-log.ensures.quiet (λ spot is. not_err c.in_ok-log.log (Device spot) is) ∙ i.quiet;
    }

pub loop-place-init : goal.loop-place-init
loop-place-init g c =
    let home = g.H.Home.seen c.args.home.now in
    let none = c.new-logs.ensures.items in
    record {
      attached = subst (EachPair (IsAttachedTo home.file c.args.resume) []) (sym none) tt;
      many = ap length none;
      kept = subst (AreOwnLogs home (node_in c.args.sort) 0) (sym none) tt;
      reads = nothing_read home;
      others = λ n own out. stays_still n home;
      quiet = refl;
    }

pub attach_log-requires : goal.attach_log-requires
attach_log-requires g c = this_valid c.args.sort c.loop-place.place c.args.count c.loop-place-test.true c.requires c.node.result c.node.ensures

-- ---- the log of a node was not attached

pub returns-in_err-log-clause-attached : goal.returns-in_err-log-clause-attached
returns-in_err-log-clause-attached g c = no_value _ c.from_residual.result c.from_residual.ensures.0

pub returns-in_err-log-clause-kept : goal.returns-in_err-log-clause-kept
returns-in_err-log-clause-kept g c = no_value _ c.from_residual.result c.from_residual.ensures.0

pub returns-in_err-log-clause-reads : goal.returns-in_err-log-clause-reads
returns-in_err-log-clause-reads g c =
    reads_on (g.H.Home.seen c.args.home.now) (g.H.Home.seen c.loop-place.home) (g.H.Home.seen c.attach_log.new.home) c.loop-place.invariant.reads c.attach_log.ensures.reads

pub returns-in_err-log-clause-device : goal.returns-in_err-log-clause-device
returns-in_err-log-clause-device g c = λ spot is.
    fails_later (g.H.Home.seen c.args.home.now) (g.H.Home.seen c.loop-place.home) (g.H.Home.seen c.attach_log.new.home) spot c.loop-place.invariant.reads.count
    (c.in_err-log.ensures.device spot (handed_back c.from_residual.result c.in_err-log.field-0.0 (Device spot) c.from_residual.ensures.1 is))

pub returns-in_err-log-clause-quiet : goal.returns-in_err-log-clause-quiet
returns-in_err-log-clause-quiet g c = λ quiet.
    c.in_err-log.ensures.quiet (λ spot is. quiet spot (handed c.from_residual.result c.in_err-log.field-0.0 (Device spot) c.from_residual.ensures.1 is)) ∙ c.loop-place.invariant.quiet

-- ---- there was no memory for it

pub returns-in_err-push-clause-attached : goal.returns-in_err-push-clause-attached
returns-in_err-push-clause-attached g c = no_value _ c.from_residual-in_err-push.result c.from_residual-in_err-push.ensures.0

pub returns-in_err-push-clause-kept : goal.returns-in_err-push-clause-kept
returns-in_err-push-clause-kept g c = no_value _ c.from_residual-in_err-push.result c.from_residual-in_err-push.ensures.0

pub returns-in_err-push-clause-unattached : goal.returns-in_err-push-clause-unattached
returns-in_err-push-clause-unattached g c =
    handed_in (IsFirstUnattached (g.H.Home.seen c.args.home.now).file c.args.resume (nodes_in c.args.sort c.args.count)) c.from_residual-in_err-push.result Memory c.from_residual-in_err-push.ensures.1 tt

pub returns-in_err-push-clause-reads : goal.returns-in_err-push-clause-reads
returns-in_err-push-clause-reads g c =
    reads_on (g.H.Home.seen c.args.home.now) (g.H.Home.seen c.loop-place.home) (g.H.Home.seen c.attach_log.new.home) c.loop-place.invariant.reads c.attach_log.ensures.reads

pub returns-in_err-push-clause-device : goal.returns-in_err-push-clause-device
returns-in_err-push-clause-device g c = λ spot is. absurd (no_device c.from_residual-in_err-push.result spot c.from_residual-in_err-push.ensures.1 is)

pub returns-in_err-push-clause-quiet : goal.returns-in_err-push-clause-quiet
returns-in_err-push-clause-quiet g c = λ quiet. c.in_ok-log.ensures.quiet (λ spot is. not_err c.in_ok-log.log (Device spot) is) ∙ c.loop-place.invariant.quiet

-- ---- all logs are attached

pub returns-clause-attached : goal.returns-clause-attached
returns-clause-attached g c =
    let all : c.loop-place.place ≡ c.args.count = omega (arith, c.loop-place.auto.place-end, c.loop-place-test.false) in
    subst (λ n. EachPair (IsAttachedTo (g.H.Home.seen c.args.home.now).file c.args.resume) (nodes_in c.args.sort n) c.loop-place.logs.items) all c.loop-place.invariant.attached

pub returns-clause-kept : goal.returns-clause-kept
returns-clause-kept g c = c.loop-place.invariant.kept

pub returns-clause-reads : goal.returns-clause-reads
returns-clause-reads g c = c.loop-place.invariant.reads

pub returns-clause-others : goal.returns-clause-others
returns-clause-others g c = c.loop-place.invariant.others

pub returns-clause-device : goal.returns-clause-device
returns-clause-device g c = λ spot is. absurd (not_err _ (Device spot) is)

pub returns-clause-quiet : goal.returns-clause-quiet
returns-clause-quiet g c = λ quiet. c.loop-place.invariant.quiet
