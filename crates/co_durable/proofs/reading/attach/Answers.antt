use Rattle.std.proofs.Common.{true, Option, Result, Ok, Err, IfOk, OnOk}
use Rattle.co_base.specs.Limits.{most_log_bytes}
use Rattle.co_base.specs.declared.node.Node.{Node}
use Rattle.co_outside.specs.Home.{File}
use Rattle.co_outside.specs.declared.spot.Spot.{Spot}
use Rattle.co_disk.specs.DiskView.{DiskView}
use Rattle.co_log.proofs.Answered.{attach_parts}
use Rattle.co_log.specs.Attaching.{IsAttached, IsToldAs, IsWithin}
use Rattle.co_log.specs.LogView.{LogView, spot_of}
use Rattle.co_log.specs.declared.fault.LogFault.{LogFault}
use Rattle.co_durable.specs.Reading.{IsLogOf}
use Rattle.co_durable.proofs.Spots.{all_stay}
use Rattle.co_durable.proofs.reading.attach.Goals as goal

read_of_parts : (file : Spot → Option File) (node : Node) (r : Result LogView LogFault)
    → IfOk r (λ log. (a : DiskView) × (b : DiskView) × IsToldAs (spot_of node 0) (file (spot_of node 0)) a × IsToldAs (spot_of node 1) (file (spot_of node 1)) b × IsAttached node a b log)
    → OnOk r (IsWithin most_log_bytes (file (spot_of node 0)) × IsWithin most_log_bytes (file (spot_of node 1))) → IfOk r (IsLogOf file node)
read_of_parts file node (Ok log) is short = record { a = is.0; b = is.1; file_a = is.2; file_b = is.3; within_a = short.0; within_b = short.1; attached = is.4 }
read_of_parts file node (Err e) is short = tt

pub returns-clause-reads : goal.returns-clause-reads
returns-clause-reads g c = record {
  files = all_stay (g.H.Home.seen c.attach.new.home).file (g.H.Home.seen c.args.home.now).file (spot_of c.args.node 0) (spot_of c.args.node 1) c.attach.ensures.file_a c.attach.ensures.file_b c.attach.ensures.rest.others.files;
  directory = c.attach.ensures.rest.directory;
  count = c.attach.ensures.rest.count;
}

pub returns-clause-read : goal.returns-clause-read
returns-clause-read g c =
    let parts = attach_parts c.args.node true (g.H.Home.seen c.args.home.now) (g.H.Home.seen c.attach.new.home) c.attach.result c.attach.ensures.answered in
    read_of_parts (g.H.Home.seen c.args.home.now).file c.args.node c.attach.result parts.attached parts.short

pub returns-clause-refused : goal.returns-clause-refused
returns-clause-refused g c = (attach_parts c.args.node true (g.H.Home.seen c.args.home.now) (g.H.Home.seen c.attach.new.home) c.attach.result c.attach.ensures.answered).faults

pub returns-clause-device : goal.returns-clause-device
returns-clause-device g c = (attach_parts c.args.node true (g.H.Home.seen c.args.home.now) (g.H.Home.seen c.attach.new.home) c.attach.result c.attach.ensures.answered).device

pub returns-clause-quiet : goal.returns-clause-quiet
returns-clause-quiet g c = (attach_parts c.args.node true (g.H.Home.seen c.args.home.now) (g.H.Home.seen c.attach.new.home) c.attach.result c.attach.ensures.answered).quiet
