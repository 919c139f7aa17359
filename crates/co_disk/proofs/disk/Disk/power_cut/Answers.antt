use Rattle.co_disk.proofs.Answered.{cut_answered}
use Rattle.co_disk.proofs.disk.Disk.power_cut.Goals as goal

pub returns : goal.returns
returns g c =
    let did = c.cut.ensures in
    record {
      spot = did.spot;
      left = did.left;
      disarmed = did.disarmed;
      answered = cut_answered c.args.self.now c.cut.new.self (g.H.Home.seen c.args.home.now) (g.H.Home.seen c.cut.new.home) c.cut.result did.agrees did.clean did.faults did.device did.quiet;
      image = did.image;
      short = did.short;
      rest = did.rest;
    }
