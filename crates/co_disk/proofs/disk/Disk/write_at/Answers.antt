use Rattle.co_disk.specs.DiskModel.{after_write}
use Rattle.co_disk.specs.Calls.{MayWant}
use Rattle.co_disk.proofs.Answered.{call_answered, passed_if}
use Rattle.co_disk.proofs.disk.Disk.write_at.Goals as goal

pub returns : goal.returns
returns g c =
    let did = c.write.ensures in
    let disk = c.args.self.now in
    let home = g.H.Home.seen c.write.new.home in
    let done = after_write disk.state c.args.at c.args.piece.now in
    record {
      spot = did.spot;
      answered = call_answered done done (MayWant disk.state c.args.at c.args.piece.now) disk c.write.new.self (g.H.Home.seen c.args.home.now) home c.write.result
          (passed_if done disk c.write.new.self home c.write.result did.written did.passed did.counted did.agrees)
          (λ call is. record { stopped = did.stopped call is; agrees = (did.left call is).0; clean = (did.left call is).1 })
          did.faults (λ is one within none. did.memory one within none is) did.device did.quiet;
      image = did.image;
      short = did.short;
      rest = did.rest;
    }
