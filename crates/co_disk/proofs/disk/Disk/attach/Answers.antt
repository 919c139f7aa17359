use Rattle.std.proofs.Common.{◌+◌}
use Rattle.co_base.specs.Limits.{most_log_bytes}
use Rattle.co_disk.proofs.Answered.{attach_answered, opened_if}
use Rattle.co_disk.proofs.disk.Disk.attach.Goals as goal

pub returns : goal.returns
returns g c =
    let did = c.read_file.ensures in
    record {
      answered = attach_answered (g.H.Home.gives c.args.home.now c.args.spot (most_log_bytes + 1)) c.args.spot (g.H.Home.seen c.args.home.now) (g.H.Home.seen c.read_file.new.home) c.read_file.result
          (opened_if (g.H.Home.gives c.args.home.now c.args.spot (most_log_bytes + 1)) c.args.spot (g.H.Home.seen c.read_file.new.home) c.read_file.result did.spot did.state did.short did.disarmed did.agrees) did.faults did.long did.device did.quiet;
      file = did.file;
      rest = did.rest;
    }
