use Rattle.std.proofs.Common.{◌+◌}
use Rattle.co_base.specs.Limits.{most_log_bytes}
use Rattle.co_disk.proofs.Answered.{reread_answered}
use Rattle.co_disk.proofs.disk.Disk.reread.Goals as goal

pub returns-clause-reread : goal.returns-clause-reread
returns-clause-reread g c =
    let did = c.compare.ensures in
    record {
      answered = reread_answered (g.H.Home.gives c.args.home.now c.args.self.now.spot (most_log_bytes + 1)) c.args.self.now (g.H.Home.seen c.args.home.now) (g.H.Home.seen c.compare.new.home) c.compare.result did.same did.faults did.device did.quiet;
      file = did.file;
      agrees = did.agrees;
      rest = did.rest;
    }
