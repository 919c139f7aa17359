use Rattle.co_log.proofs.Answered.{attach_parts}
use Rattle.co_log.specs.LogView.{spot_of}
use Rattle.co_durable.proofs.Spots.{all_stay}
use Rattle.co_opening.proofs.Attachings.{attached_result, kept_result}
use Rattle.co_opening.proofs.attaching.attach.Goals as goal

pub returns-clause-attached : goal.returns-clause-attached
returns-clause-attached g c =
    let parts = attach_parts c.args.node c.args.resume (g.H.Home.seen c.args.home.now) (g.H.Home.seen c.attach.new.home) c.attach.result c.attach.ensures.answered in
    attached_result (g.H.Home.seen c.args.home.now).file c.args.resume c.args.node c.attach.result c.requires parts.attached parts.unused parts.fresh parts.short

pub returns-clause-kept : goal.returns-clause-kept
returns-clause-kept g c =
    let parts = attach_parts c.args.node c.args.resume (g.H.Home.seen c.args.home.now) (g.H.Home.seen c.attach.new.home) c.attach.result c.attach.ensures.answered in
    kept_result (g.H.Home.seen c.args.home.now) (g.H.Home.seen c.attach.new.home) c.args.node c.attach.result parts.attached parts.held parts.short c.attach.ensures.file_a c.attach.ensures.file_b

pub returns-clause-reads : goal.returns-clause-reads
returns-clause-reads g c = record {
  files = all_stay (g.H.Home.seen c.attach.new.home).file (g.H.Home.seen c.args.home.now).file (spot_of c.args.node 0) (spot_of c.args.node 1) c.attach.ensures.file_a c.attach.ensures.file_b c.attach.ensures.rest.others.files;
  directory = c.attach.ensures.rest.directory;
  count = c.attach.ensures.rest.count;
}

pub returns-clause-refused : goal.returns-clause-refused
returns-clause-refused g c = (attach_parts c.args.node c.args.resume (g.H.Home.seen c.args.home.now) (g.H.Home.seen c.attach.new.home) c.attach.result c.attach.ensures.answered).faults

pub returns-clause-device : goal.returns-clause-device
returns-clause-device g c = (attach_parts c.args.node c.args.resume (g.H.Home.seen c.args.home.now) (g.H.Home.seen c.attach.new.home) c.attach.result c.attach.ensures.answered).device

pub returns-clause-quiet : goal.returns-clause-quiet
returns-clause-quiet g c = (attach_parts c.args.node c.args.resume (g.H.Home.seen c.args.home.now) (g.H.Home.seen c.attach.new.home) c.attach.result c.attach.ensures.answered).quiet
